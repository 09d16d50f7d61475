-- Sets under keys, as they change at one key.
use Rattle.lease_laws.proofs.Words.{◌∙◌, ◌∷◌, ◌≡◌, Bool, List, None, Option, Some, Updates, [], ap, arith, cond, drop, false, get}
use Rattle.lease_laws.proofs.Words.{if◌then◌else◌, refl, sym, true}
use Rattle.std.specs.BTreeMap.{BTreeMap, is_at}
use Rattle.std.specs.BTreeSet.{BTreeSet, insert_key}
use Rattle.std.specs.Cmp.{IsTotalOrder, eq_by_cmp_equiv}
use Rattle.std.specs.List.{slice_get}
use Rattle.std.specs.Map.{lookup}
use Rattle.std.specs.Ordering.{is_gt}
use Rattle.std.specs.Set.{remove_key}
use Rattle.std.specs.declared.cmp.Ordering.{Ordering}
use Rattle.lease_laws.proofs.server.Lists.{either}
use Rattle.lease_manager.specs.Multimaps.{with_first}
use Rattle.lease_manager.specs.Sets.{values_at, values_or_none}
use Rattle.lease_manager.specs.declared.tables.sets.Sets.{Sets}

-- keys that are equal in the order have the same entry
same_at : {K X : Type 0} {order : K → K → Ordering} → IsTotalOrder order → (entries : List (K × X)) (key other : K)
    → is_at (order key) other ≡ true → lookup (is_at (order other)) entries ≡ lookup (is_at (order key)) entries
same_at total [] key other at = refl
same_at total (e ∷ entries) key other at = rw (
  sym ((eq_by_cmp_equiv total).congr key other e.0 at),
  same_at total entries key other at,
) refl

-- nothing changes where the set has the same values
pub refused_at : {K V : Type 0} {order : K → K → Ordering} → IsTotalOrder order → (old new : BTreeMap K (BTreeSet V)) (key : K)
    (ids written : BTreeSet V) → get order old key ≡ Some ids → Updates order old new key (Some written)
    → written.keys ≡ ids.keys → (other : K) → values_or_none (get order new other) ≡ values_or_none (get order old other)
refused_at {K} {V} {order} total old new key ids written there updates same other = either (is_at (order key) other)
    (λ at. ap values_or_none (updates.0 other ∙ ap (λ b. cond b (Some written) (get order old other)) at)
    ∙ (same ∙ sym (ap values_or_none (same_at total old.entries key other at ∙ there))))
    (λ at. ap values_or_none (updates.0 other ∙ ap (λ b. cond b (Some written) (get order old other)) at))

-- a set comes where there was none
pub first_at : {K V : Type 0} {order : K → K → Ordering} → IsTotalOrder order → (value_order : V → V → Ordering)
    (old new : BTreeMap K (BTreeSet V)) (key : K) (value : V) (written : BTreeSet V) → get order old key ≡ None
    → Updates order old new key (Some written) → written.keys ≡ insert_key value_order [] value
    → (other : K) → values_or_none (get order new other)
    ≡ (if is_at (order key) other then insert_key value_order (values_or_none (get order old other)) value
    else values_or_none (get order old other))
first_at {K} {V} {order} total value_order old new key value written there updates same other = either (is_at (order key) other)
    (λ at. rw at (ap values_or_none (updates.0 other ∙ ap (λ b. cond b (Some written) (get order old other)) at)
    ∙ (same ∙ ap (λ o. insert_key value_order (values_or_none o) value) (sym (same_at total old.entries key other at ∙ there)))))
    (λ at. rw at (ap values_or_none (updates.0 other ∙ ap (λ b. cond b (Some written) (get order old other)) at)))

-- ---- a first value, and others

last_of : {V : Type 0} (value_order : V → V → Ordering) (first value : V) (others : List V)
    → is_gt (value_order value first) ≡ true
    → insert_key value_order (first ∷ others) value ≡ first ∷ insert_key value_order others value
last_of value_order first value others above = grind (arith, above)

-- a value comes above a key's first
pub above_at : {K V : Type 0} {order : K → K → Ordering} → IsTotalOrder order → (value_order : V → V → Ordering)
    (firsts : BTreeMap K V) (old new : K → List V) (key : K) (value first : V) → get order firsts key ≡ Some first
    → is_gt (value_order value first) ≡ true
    → ((other : K) → new other ≡ (if is_at (order key) other then insert_key value_order (old other) value else old other))
    → (other : K) → with_first (get order firsts other) (new other)
    ≡ (if is_at (order key) other then insert_key value_order (with_first (get order firsts other) (old other)) value
    else with_first (get order firsts other) (old other))
above_at {order = order} total value_order firsts old new key value first there above changed other = either (is_at (order key)
    other)
    (λ at. rw (changed other, at, same_at total firsts.entries key other at ∙ there)
    (sym (last_of value_order first value (old other) above)))
    (λ at. rw (changed other, at) refl)

-- one that isn't the first goes
pub other_gone_at : {K V : Type 0} {order : K → K → Ordering} → IsTotalOrder order → (test : V → Bool)
    (firsts written : BTreeMap K V) (old new : K → List V) (key : K) (first : V) → get order firsts key ≡ Some first
    → test first ≡ false → Updates order firsts written key (Some first)
    → ((other : K) → new other ≡ (if is_at (order key) other then remove_key test (old other) else old other))
    → (other : K) → with_first (get order written other) (new other)
    ≡ (if is_at (order key) other then remove_key test (with_first (get order firsts other) (old other))
    else with_first (get order firsts other) (old other))
other_gone_at {order = order} total test firsts written old new key first there apart updates changed other =
    either (is_at (order key) other)
    (λ at. rw (
      changed other,
      at,
      updates.0 other ∙ ap (λ b. cond b (Some first) (get order firsts other)) at,
      same_at total firsts.entries key other at ∙ there,
      apart,
    ) refl)
    (λ at. rw (changed other, at, updates.0 other ∙ ap (λ b. cond b (Some first) (get order firsts other)) at) refl)

-- the first goes, and there is none after it, or the next takes its place
pub first_gone_at : {K V : Type 0} {order : K → K → Ordering} → IsTotalOrder order → (test : V → Bool)
    (firsts written : BTreeMap K V) (old new : K → List V) (key : K) (first : V) (next : Option V)
    → get order firsts key ≡ Some first → test first ≡ true → ((other : K) → get order written other ≡ cond (is_at (order key)
    other) next (get order firsts other))
    → ((other : K) → is_at (order key) other ≡ true → old other ≡ old key) → next ≡ slice_get (old key) 0
    → ((other : K) → new other ≡ (if is_at (order key) other then drop 1 (old other) else old other))
    → (other : K) → with_first (get order written other) (new other)
    ≡ (if is_at (order key) other then remove_key test (with_first (get order firsts other) (old other))
    else with_first (get order firsts other) (old other))
first_gone_at {order = order} total test firsts written old new key first next there its updated same is changed other =
    either (is_at (order key) other)
    (λ at. rw (
      changed other,
      at,
      updated other ∙ ap (λ b. cond b next (get order firsts other)) at,
      same_at total firsts.entries key other at ∙ there,
      its,
      same other at,
      is,
    ) (moved_up (old key)))
    (λ at. rw (changed other, at, updated other ∙ ap (λ b. cond b next (get order firsts other)) at) refl)
  where
    moved_up : {V : Type 0} (others : List V) → with_first (slice_get others 0) (drop 1 others) ≡ others
    moved_up [] = refl
    moved_up (x ∷ others) = refl

-- the sets of equal keys are one
pub values_same : {K V : Type 0} {order : K → K → Ordering} → IsTotalOrder order → (sets : Sets K V) (key other : K)
    → is_at (order key) other ≡ true → values_at order sets other ≡ values_at order sets key
values_same total sets key other at = ap values_or_none (same_at total sets.by_key.entries key other at)

-- an entry that was written goes
pub removed_at : {K V : Type 0} (order : K → K → Ordering) (old written new : BTreeMap K V) (key : K) (value : V)
    → Updates order old written key (Some value) → Updates order written new key None
    → (other : K) → get order new other ≡ cond (is_at (order key) other) None (get order old other)
removed_at order old written new key value wrote removed other =
    removed.0 other ∙ (ap (λ o. cond (is_at (order key) other) None o) (wrote.0 other)
    ∙ twice (is_at (order key) other) (Some value) (get order old other))
  where
    twice : {V : Type 0} (at : Bool) (between before : Option V) → cond at None (cond at between before) ≡ cond at None before
    twice at between before = either at (λ its. rw its refl) (λ its. rw its refl)
