-- The opens that ended by a try, and those that are left.
use Rattle.std.specs.Prelude.{◌≡◌, ℕ, Bool, List, [], ◌∷◌, filter}
use Rattle.std.specs.BTreeSet.{insert_key}
use Rattle.std.specs.Ordering.{nat_cmp}
use Rattle.lease_laws.specs.server.Laws.{AreInOrder}
use Rattle.lease_model.specs.server.State.{Open}
use Rattle.lease_model.specs.values.Lists.{without}
use Rattle.lease_manager.specs.LeftOpens.{ids_of, numbers}
use Rattle.lease_manager.specs.declared.ended.Ended.{Ended}

abbrev pub ids_in : Ended → List ℕ
ids_in ended = numbers ended.ids.keys

-- the rising numbers with these too
abbrev pub all_added : List ℕ → List ℕ → List ℕ
all_added ids [] = ids
all_added ids (n ∷ more) = all_added (insert_key nat_cmp ids n) more

-- Of the opens that there were, those of these FileIds ended, and the others are left.
pub record AreEnded (before : List Open) (ids : List ℕ) (now : List Open) : Type 0 where
  pub test : Open → Bool
  pub ended : ids ≡ ids_of (filter test before)
  pub left : now ≡ without test before

-- more of the opens that there were ended
abbrev pub EndsMore : List Open → List ℕ → List Open → List ℕ → Type 0
EndsMore opens ids now more =
    (before : List Open) → AreInOrder before → AreEnded before ids opens → AreEnded before more now
