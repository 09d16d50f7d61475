use Rattle.std.proofs.Common.{◌≡◌, ℕ, List, length, refl, sym, subst}
use Rattle.lease_state.specs.State.{state_of}
use Rattle.lease_wire.specs.Acknowledgment.{KeyAndState, IsAcknowledgment}
use Rattle.lease_wire.proofs.Messages.{acknowledgment_layout}
use Rattle.lease_wire.proofs.acknowledgment.encode_key_and_state.Goals as goal

pub returns-clause-text : goal.returns-clause-text
returns-clause-text c = rw (c.copy_from_slice.ensures.after, c.write_u32.ensures, c.write_u16.ensures, c.to_wire.ensures) refl

pub returns-clause-layout : goal.returns-clause-layout
returns-clause-layout c =
    let v : KeyAndState = record { key = c.args.key.0; state = state_of c.args.state } in
    let long : length v.key ≡ 16 = rw (c.copy_from_slice.ensures.after, c.write_u32.ensures, c.write_u16.ensures) at
    c.copy_from_slice.ensures.len in
    subst (λ (bytes : List ℕ). IsAcknowledgment bytes v) (sym (returns-clause-text c)) (acknowledgment_layout v long)
