use Rattle.std.proofs.Common.{◌≡◌, ◌<◌, ◌^◌, ℕ, List, length, refl, sym, subst, rules}
use Rattle.capture_wire.specs.Contexts.{IsLeaseV2}
use Rattle.lease_wire_v2.specs.LeaseData.{lease_of, parent_bytes}
use Rattle.lease_wire_v2.proofs.LeaseLaws.{lease_layout}
use Rattle.lease_wire_v2.proofs.lease.encode_lease_v2.Goals as goal

pub returns-clause-text : goal.returns-clause-text
returns-clause-text c = rw (
  c.copy_from_slice-2.ensures.after,
  c.copy_from_slice.ensures.after,
  c.write_u16.ensures,
  c.write_u32-2.ensures,
  c.write_u32.ensures,
  c.flags.ensures,
  c.to_wire.ensures,
  c.parent_bytes.ensures,
) refl

pub returns-clause-layout : goal.returns-clause-layout
returns-clause-layout c = λ calm.
    let fits : c.args.lease.now.epoch < 2 ^ 16 = search rules in
    let key : length c.args.lease.now.key.0 ≡ 16 = search rules in
    let parent : length c.parent_bytes.result ≡ 16 = search rules in
    let set : length (parent_bytes (lease_of c.args.lease.now).parent) ≡ 16 = rw (c.parent_bytes.ensures) at parent in
    subst (λ (bytes : List ℕ). IsLeaseV2 c.args.direction bytes c.args.lease.now) (sym (returns-clause-text c))
    (lease_layout c.args.direction c.args.lease.now key set fits calm)
