use Rattle.std.proofs.Common.{◌≡◌, ℕ, List, length, refl, sym, subst, rules}
use Rattle.capture_wire.specs.Contexts.{IsDurableReconnectV2}
use Rattle.lease_wire_v2.proofs.DurableLaws.{reconnect_layout}
use Rattle.lease_wire_v2.proofs.durable.encode_durable_reconnect_v2.Goals as goal

pub returns-clause-text : goal.returns-clause-text
returns-clause-text c = rw (
  c.copy_from_slice-2.ensures.after,
  c.copy_from_slice.ensures.after,
  c.write_u32.ensures,
  c.flags.ensures,
  c.file_id_bytes.ensures.bytes,
) refl

pub returns-clause-layout : goal.returns-clause-layout
returns-clause-layout c =
    let fits = c.file_id_bytes.ensures.fits in
    let guid : length c.args.reconnect.now.create_guid.0 ≡ 16 = search rules in
    subst (λ (bytes : List ℕ). IsDurableReconnectV2 bytes c.args.reconnect.now) (sym (returns-clause-text c))
    (reconnect_layout c.args.reconnect.now (record { persistent_id = fits.0; volatile_id = fits.1; create_guid = guid }))
