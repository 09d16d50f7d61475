use Rattle.lease_laws.proofs.Words.{length-drop, refl}
use Rattle.lease_wire.specs.Notification.{notice_of}
use Rattle.leasecheck.proofs.wire.acknowledge.ack_lines.Goals as goal

pub returns-clause-printed : goal.returns-clause-printed
returns-clause-printed c = (
  notice_of c.in_ok-notification.notification,
  c.in_ok-notification.ensures.value,
  rw (c.in_ok-push_rest.ensures, c.in_ok-text.ensures, c.in_ok-notification.ensures.rest, length-drop) refl,
)
