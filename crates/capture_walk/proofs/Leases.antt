-- The order of leases, by which maps of them are kept.
use Rattle.std.proofs.Common.{◌≡◌, ◌∙◌, ℕ, ◌==◌, ◌&&◌, Bool, true, false, List, Option, Some, None, if◌then◌else◌, arith, refl, ap, sym}
use Rattle.std.specs.Option.{option_map}
use Rattle.std.proofs.lemmas.Bool.Decides.{nat_tests}
use Rattle.std.proofs.lemmas.Map.Text.{is_eq-slice_cmp}
use Rattle.std.proofs.lemmas.Slice.Eq.{bytes_eq-Decides}
use Rattle.std.specs.BTreeMap.{BTreeMap, Updates, get}
use Rattle.std.specs.Ordering.{is_eq}
use Rattle.std.specs.Str.{bytes_eq}
use Rattle.capture_walk.specs.Chains.{is_same}
use Rattle.capture_walk.specs.LeaseMaps.{lease_order}
use Rattle.capture_walk.specs.declared.event.Lease.{Lease}

pub same_order : (one other : Lease) → is_eq (lease_order one other) ≡ is_same one other
same_order one other = let e = is_eq-slice_cmp one.key.0 other.key.0 in grind (arith, nat_tests, e)

-- what is found of leases once that of one has changed
pub changed_at : {X : Type 0} (before after : BTreeMap Lease X) (lease : Lease) (value : Option X)
    → Updates lease_order before after lease value → (other : Lease)
    → get lease_order after other ≡ (if is_same lease other then value else get lease_order before other)
changed_at before after lease value updates other = let e = same_order lease other in grind (arith, nat_tests, e)

and_left : (a b : Bool) → (a && b) ≡ true → a ≡ true
and_left true b is = refl
and_left false b is = is

and_right : (a b : Bool) → (a && b) ≡ true → b ≡ true
and_right true b is = is
and_right false true is = refl
and_right false false is = is

eq_of : (m n : ℕ) → (m == n) ≡ true → m ≡ n
eq_of m n is = grind (arith, is)

lease_from : ℕ → List ℕ → ℕ → Lease
lease_from client key file = record { client = client; key = record { 0 = key }; file = file }

of_parts : (one other : Lease) → one.client ≡ other.client → one.key.0 ≡ other.key.0 → one.file ≡ other.file → one ≡ other
unfolding lease_from
of_parts one other client key file =
    ap (λ part. lease_from part one.key.0 one.file) client ∙ ap (λ part. lease_from other.client part one.file) key
    ∙ ap (λ part. lease_from other.client other.key.0 part) file

pub same_lease : (one other : Lease) → is_same one other ≡ true → one ≡ other
same_lease one other is =
    let numbers = and_left (one.client == other.client && one.file == other.file) (bytes_eq one.key.0 other.key.0) is in
    let bytes = and_right (one.client == other.client && one.file == other.file) (bytes_eq one.key.0 other.key.0) is in
    of_parts one other (eq_of one.client other.client (and_left (one.client == other.client) (one.file == other.file) numbers))
    ((bytes_eq-Decides one.key.0 other.key.0).0 bytes)
    (eq_of one.file other.file (and_right (one.client == other.client) (one.file == other.file) numbers))

-- what is found of one lease is found of the same one
pub found_same : {X : Type 0} (leases : BTreeMap Lease X) (one other : Lease) → is_same one other ≡ true
    → get lease_order leases one ≡ get lease_order leases other
found_same leases one other is = ap (get lease_order leases) (same_lease one other is)

pick : {X : Type 0} (b : Bool) (x y z : X) → (b ≡ true → x ≡ y) → (if b then x else z) ≡ (if b then y else z)
pick true x y z same = same refl
pick false x y z same = refl

same_picked : {X : Type 0} (b : Bool) (x z : X) → (b ≡ true → x ≡ z) → z ≡ (if b then x else z)
same_picked true x z same = sym (same refl)
same_picked false x z same = refl

-- what is found of leases once what is found of one is edited
pub edited_at : {X : Type 0} (edit : X → X) (before after : BTreeMap Lease X) (lease : Lease) (old new : X)
    → get lease_order before lease ≡ Some old → Updates lease_order before after lease (Some new) → new ≡ edit old
    → (other : Lease) → get lease_order after other
    ≡ (if is_same lease other then option_map edit (get lease_order before other) else get lease_order before other)
edited_at edit before after lease old new there updates edited other =
    changed_at before after lease (Some new) updates other
    ∙ pick (is_same lease other) (Some new) (option_map edit (get lease_order before other)) (get lease_order before other)
    (λ is. ap (λ value. Some value) edited ∙ ap (option_map edit) (sym there ∙ found_same before lease other is))

-- nothing to edit where nothing is found
pub none_at : {X : Type 0} (edit : X → X) (leases : BTreeMap Lease X) (lease : Lease)
    → get lease_order leases lease ≡ None → (other : Lease)
    → get lease_order leases other
    ≡ (if is_same lease other then option_map edit (get lease_order leases other) else get lease_order leases other)
none_at edit leases lease none other =
    same_picked (is_same lease other) (option_map edit (get lease_order leases other)) (get lease_order leases other)
    (λ is. let e = sym (found_same leases lease other is) ∙ none in ap (option_map edit) e ∙ sym e)
