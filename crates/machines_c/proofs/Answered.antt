-- How long the create contexts of an answer of version 1 are.
use Rattle.std.proofs.Common.{◌++◌, ◌||◌, ◌≡◌, ◌≤◌, [], Bool, List, None, Option, Some, arith, false, length, refl, true, ℕ}
use Rattle.std.proofs.lemmas.List.{length-append}
use Rattle.std.specs.Prelude.{IfSome}
use Rattle.lease_wire.specs.Canonical.{canonical_text, context_bytes, durable_bytes, lease_body, lease_bytes}
use Rattle.lease_wire.specs.Names.{CreateView, LeaseView, lease_name}
use Rattle.lease_wire.specs.declared.create.Direction.TheVariants.{Reply}

after_key : (key rest : List ℕ) → length key ≡ 16 → length rest ≡ 16 → length (key ++ rest) ≡ 32
after_key key rest full size = let both = length-append key rest in omega (arith, both, full, size)

lease_data : (lease : LeaseView) → length lease.key ≡ 16 → length (lease_body lease) ≡ 32
lease_data lease full = after_key lease.key _ full refl

lease_context : (followed : Bool) (body : List ℕ) → length body ≡ 32
    → length (context_bytes followed lease_name body) ≤ 56
lease_context followed body size = omega (arith, size)

short_lease : (followed : Bool) (lease : Option LeaseView) → IfSome lease (λ lease. length lease.key ≡ 16)
    → length (lease_bytes followed lease) ≤ 56
short_lease followed None full = omega arith
short_lease followed (Some lease) full = lease_context followed (lease_body lease) (lease_data lease full)

short_durable : (followed durable : Bool) → length (durable_bytes Reply followed durable) ≤ 32
short_durable followed false = omega arith
short_durable followed true = omega arith

short_both : (lease durable : List ℕ) → length lease ≤ 56 → length durable ≤ 32
    → length (lease ++ (durable ++ [])) ≤ 204
short_both lease durable h k =
    let all = length-append lease (durable ++ []) in
    let rest = length-append durable [] in
    omega (arith, h, k, all, rest)

pub short : (v : CreateView) → IfSome v.lease (λ lease. length lease.key ≡ 16) → v.reconnect ≡ None
    → length (canonical_text Reply v) ≤ 204
unfolding canonical_text
short v full none = rw none (short_both (lease_bytes (v.durable || false) v.lease) (durable_bytes Reply false v.durable)
    (short_lease (v.durable || false) v.lease full) (short_durable false v.durable))
