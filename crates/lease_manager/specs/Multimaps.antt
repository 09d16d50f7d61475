-- Values under keys, of which most have one.
use Rattle.std.specs.Prelude.{◌≡◌, true, Option, Some, None, List, [], ◌∷◌}
use Rattle.std.specs.BTreeMap.{get}
use Rattle.std.specs.Ordering.{is_gt}
use Rattle.std.specs.declared.cmp.Ordering.{Ordering}
use Rattle.lease_manager.specs.Sets.{values_at}
use Rattle.lease_manager.specs.declared.tables.multimap.Multimap.{Multimap}

-- a key's values, of its first and its others
abbrev pub with_first : {V : Type 0} → Option V → List V → List V
with_first None others = []
with_first (Some first) others = first ∷ others

-- the values of a key
abbrev pub listed_at : {K V : Type 0} → (K → K → Ordering) → Multimap K V → K → List V
listed_at order map key = with_first (get order map.firsts key) (values_at order map.others key)

-- the value is above the key's first, if it has one
abbrev pub IsAboveFirst : {K V : Type 0} → (K → K → Ordering) → (V → V → Ordering) → Multimap K V → K → V → Type 0
IsAboveFirst {K} {V} order value_order map key value = (first : V) → get order map.firsts key ≡ Some first
    → is_gt (value_order value first) ≡ true
