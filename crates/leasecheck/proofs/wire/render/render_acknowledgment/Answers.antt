use Rattle.lease_laws.proofs.Words.{length-drop, refl}
use Rattle.lease_wire.specs.Acknowledgment.{acknowledged_of}
use Rattle.leasecheck.proofs.wire.render.render_acknowledgment.Goals as goal

pub returns-clause-shown : goal.returns-clause-shown
returns-clause-shown c = (
  acknowledged_of c.in_ok-message.message,
  c.in_ok-message.ensures.value,
  rw (c.in_ok-key_and_state_text.ensures, c.in_ok-message.ensures.rest, length-drop) refl,
)
