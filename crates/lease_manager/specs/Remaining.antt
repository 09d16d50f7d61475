-- Keys of a set that aren't marked: how many of them are the request's.
use Rattle.std.specs.Prelude.{ℕ, Bool, Option, Some, None, ◌&&◌, not, if◌then◌else◌}
use Rattle.std.specs.BTreeSet.{BTreeSet, contains}
use Rattle.lease_model.specs.values.Keys.{Key}
use Rattle.lease_manager.specs.KeyOrder.{key_order}

abbrev pub remains : BTreeSet Key → BTreeSet Key → Key → Bool
remains keys marked key = contains key_order keys key && not (contains key_order marked key)

abbrev pub own_remaining : Option Key → BTreeSet Key → BTreeSet Key → ℕ
own_remaining None keys marked = 0
own_remaining (Some key) keys marked = if remains keys marked key then 1 else 0
