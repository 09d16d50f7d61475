-- The tables of leases after one more.
use Rattle.std.proofs.Common.{◌≡◌, ◌∙◌, ◌++◌, ◌∷◌, [], ◌==◌, ◌||◌, ℕ, Bool, true, false, List, Some, None, arith, if◌then◌else◌}
use Rattle.std.proofs.Common.{refl, subst, sym}
use Rattle.std.proofs.lemmas.Bool.Decides.{nat_tests}
use Rattle.std.specs.BTreeMap.{BTreeMap, Updates, get}
use Rattle.std.specs.BTreeSet.{contains}
use Rattle.std.specs.Global.{Vec}
use Rattle.std.specs.List.{list_any}
use Rattle.std.specs.Option.{is_some}
use Rattle.std.specs.Ordering.{nat_cmp}
use Rattle.capture_walk.specs.Chains.{is_file, is_same}
use Rattle.capture_walk.specs.Index.{AreWhole, leases_at, places_at}
use Rattle.capture_walk.specs.LeaseMaps.{lease_order}
use Rattle.capture_walk.specs.declared.event.Lease.{Lease}
use Rattle.capture_walk.specs.declared.index.Grants.{Grants}
use Rattle.capture_walk.proofs.Leases.{changed_at, same_lease}

any_more : {X : Type 0} (p : X → Bool) (xs : List X) (one : X) → list_any p (xs ++ one ∷ []) ≡ (list_any p xs || p one)
any_more p [] one = grind arith
any_more p (x ∷ xs) one = let e = any_more p xs one in grind (arith, e)

either : {P : Type 0} (b : Bool) → (b ≡ true → P) → (b ≡ false → P) → P
either true there not-there = there refl
either false there not-there = not-there refl

same_back : (one other : Lease) → is_same one other ≡ true → is_same other one ≡ true
same_back one other is =
    let same = same_lease one other is in
    subst (λ it. is_same it one ≡ true) same (subst (λ it. is_same one it ≡ true) (sym same) is)

alike : (a b : Bool) → (a ≡ true → b ≡ true) → (b ≡ true → a ≡ true) → a ≡ b
alike true true there back = refl
alike true false there back = sym (there refl)
alike false true there back = back refl
alike false false there back = refl

same_both : (one other : Lease) → is_same one other ≡ is_same other one
same_both one other = alike (is_same one other) (is_same other one) (same_back one other) (same_back other one)

-- the places of a lease once one more is among them
pub placed_at : (before during after : BTreeMap Lease (Vec ℕ)) (lease : Lease) (found : Vec ℕ) (place : ℕ)
    → ((other : Lease) → get lease_order during other ≡ (if is_same lease other then None else get lease_order before other))
    → Updates lease_order during after lease (Some found) → found.items ≡ places_at before lease ++ place ∷ [] → (other : Lease)
    → places_at after other ≡ (if is_same lease other then places_at before lease ++ place ∷ [] else places_at before other)
placed_at before during after lease found place out updates is other =
    let e = changed_at during after lease (Some found) updates other in let f = out other in
    either (is_same lease other) (λ b. grind (arith, e, f, is, b)) (λ b. grind (arith, e, f, is, b))

files_more : (before : Grants) (files : List ℕ) (lease : Lease) → AreWhole before
    → files ≡ (if is_some (get nat_cmp before.by_file lease.file) then before.files.items
    else before.files.items ++ lease.file ∷ []) → (file : ℕ)
    → list_any (is_file file) files ≡ (file == lease.file || is_some (get nat_cmp before.by_file file))
files_more before files lease whole is file =
    let known = whole.files file in let own = whole.files lease.file in
    let more = any_more (is_file file) before.files.items lease.file in
    either (is_some (get nat_cmp before.by_file lease.file))
    (λ b. either (file == lease.file)
    (λ at. grind (arith, nat_tests, is, b, at, known, own))
    (λ at. grind (arith, nat_tests, is, b, at, known)))
    (λ b. either (file == lease.file)
    (λ at. grind (arith, nat_tests, is, b, at, known, more))
    (λ at. grind (arith, nat_tests, is, b, at, known, more)))

pub whole_more : (before after : Grants) (lease : Lease)
    → after.files.items ≡ (if is_some (get nat_cmp before.by_file lease.file) then before.files.items
    else before.files.items ++ lease.file ∷ [])
    → ((file : ℕ) → is_some (get nat_cmp after.by_file file) ≡ (file == lease.file || is_some (get nat_cmp before.by_file file)))
    → ((file : ℕ) → leases_at after file
    ≡ (if file == lease.file then leases_at before file ++ lease ∷ [] else leases_at before file))
    → ((other : Lease) → contains lease_order after.all other ≡ (is_same lease other || contains lease_order before.all other))
    → AreWhole before → AreWhole after
whole_more before after lease files known leases all whole = record {
  files = λ file. files_more before after.files.items lease whole files file ∙ sym (known file);
  leases = λ other.
      let now = leases other.file in let was = whole.leases other in let has = all other in let both = same_both lease other in
      let more = any_more (is_same other) (leases_at before other.file) lease in
      either (other.file == lease.file)
      (λ at. grind (arith, nat_tests, now, was, has, both, more, at))
      (λ at. grind (arith, nat_tests, now, was, has, both, more, at));
}
