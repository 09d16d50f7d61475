-- Beginnings of placements, and when there are too many to be kept.
use Rattle.std.specs.Prelude.{◌≡◌, ◌≢◌, ◌<◌, ◌≤◌, ⊤, ℕ, List, ◌∷◌, [], Some, None, length}
use Rattle.std.specs.List.{AllByRecursion}
use Rattle.capture_judge.specs.Placing.{change_of, reached, IsWithinBounds, IsClean}
use Rattle.capture_judge.specs.declared.values.Change.{Change}
use Rattle.capture_judge.specs.declared.values.Chain.{Chain}
use Rattle.capture_judge.specs.declared.values.Step.{Step}
use Rattle.capture_judge.specs.declared.ways.TheConstants.{WAY_LIMIT}

-- the position of the last step
abbrev pub newest : List Step → ℕ
newest [] = 0
newest (step ∷ past) = step.position

-- A chain that has come so far may take the step next: it passes over no change that has a last position.
pub record MayTake (chains : List Chain) (came : ℕ) (step : Step) : Type 0 where
  pub bounds : IsWithinBounds chains step
  pub order : came ≤ step.change
  pub skips : (k : ℕ) (change : Change) → came ≤ k → k < step.change → change_of chains step.chain k ≡ Some change
      → change.last ≡ None

-- The steps begin a placement in which positions never fall.
abbrev pub IsBeginning : List Chain → List Step → Type 0
IsBeginning chains [] = ⊤
IsBeginning chains (step ∷ past) =
    MayTake chains (reached past step.chain) step × (newest past ≤ step.position) × IsBeginning chains past

-- The changes that have to follow can all wait until the position.
abbrev pub CanWait : List Chain → ℕ → List Step → Type 0
CanWait chains position past = (i k : ℕ) (change : Change) (last : ℕ) → reached past i ≤ k → change_of chains i k ≡ Some change
    → change.last ≡ Some last → position ≤ last

-- A way to have come to the position: a clean beginning of steps up to it that has left out no change whose last position is
-- before it.
pub record IsWay (chains : List Chain) (position : ℕ) (past : List Step) : Type 0 where
  pub steps : IsBeginning chains past
  pub clean : IsClean chains past
  pub within : newest past ≤ position
  pub waits : CanWait chains position past

-- Some chain has come further by one than by the other.
abbrev pub Differ : List Step → List Step → Type 0
Differ past other = (i : ℕ) × (reached past i ≢ reached other i)

abbrev pub AllDiffer : List (List Step) → Type 0
AllDiffer [] = ⊤
AllDiffer (past ∷ pasts) = AllByRecursion (Differ past) pasts × AllDiffer pasts

-- There are more ways to have come to some position than are kept, no two of which have come equally far.
pub record IsCrowded (chains : List Chain) : Type 0 where
  pub position : ℕ
  pub ways : List (List Step)
  pub each : AllByRecursion (IsWay chains position) ways
  pub apart : AllDiffer ways
  pub many : WAY_LIMIT < length ways
