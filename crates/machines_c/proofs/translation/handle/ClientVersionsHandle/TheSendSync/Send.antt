-- What a handle owns says the same to every thread.
use mir.Raw.{raw}
use base.Fraction.{full_share}
use base.Shift.{Keyless}
use denote.Memory.{lone}
use denote.Param.Send.{IsSend, part_keyless}
use denote.RawPtr.{Ptr, block_ptr, null_ptr}
use Rattle.std.specs.declared.option.Option.{Option}
use Rattle.std.specs.declared.option.Option.TheVariants.{None, Some}
use Rattle.machines_c.specs.handles.Owned.{handle_owns}
use Rattle.machines_c.proofs.Held.{may_free-Keyless}
use Rattle.machines_c.proofs.translation.translating.Translating.TheSendSync.{the_send}
use Rattle.machines_c.proofs.ClientVersionsHandles.{R}
use Rattle.machines_c.specs.contracts.translation.handle.ClientVersionsHandle.{the_row}

owned_keyless : (held : Option R.Denot) (p : Ptr) → Keyless (handle_owns R held p)
owned_keyless None p = tt
owned_keyless (Some x) null_ptr = (tt, may_free-Keyless (raw (lone R.mir)) null_ptr)
owned_keyless (Some x) (block_ptr b o) = (
  part_keyless R the_send full_share x b o,
  may_free-Keyless (raw (lone R.mir)) (block_ptr b o),
)

pub send : IsSend the_row
send = record { owned = λ h vs. ((λ vss. (tt, (tt, tt))), owned_keyless h.held h.at); leaving = λ k d w. tt }
