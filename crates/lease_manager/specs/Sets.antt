-- Sets under keys.
use Rattle.std.specs.Prelude.{Option, Some, None, List, []}
use Rattle.std.specs.BTreeMap.{get}
use Rattle.std.specs.BTreeSet.{BTreeSet}
use Rattle.std.specs.declared.cmp.Ordering.{Ordering}
use Rattle.lease_manager.specs.declared.tables.sets.Sets.{Sets}

abbrev pub values_or_none : {V : Type 0} → Option (BTreeSet V) → List V
values_or_none None = []
values_or_none (Some values) = values.keys

-- the values of a key
abbrev pub values_at : {K V : Type 0} → (K → K → Ordering) → Sets K V → K → List V
values_at order sets key = values_or_none (get order sets.by_key key)
