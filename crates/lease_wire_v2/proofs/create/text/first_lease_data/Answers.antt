use Rattle.std.proofs.Common.{refl}
use Rattle.lease_wire_v2.proofs.create.text.first_lease_data.Goals as goal

pub returns : goal.returns
returns c = rw (
  c.copy_from_slice.ensures.after,
  c.write_u32-2.ensures,
  c.write_u32.ensures,
  c.to_wire.ensures,
  c.lease_flags.ensures,
) refl
