-- Placements of the changes of chains, and when they are clean. A list of steps that is called past has the newest step first.
use Rattle.std.specs.Prelude.{◌≡◌, ◌≢◌, ◌+◌, ◌<◌, ◌≤◌, ◌⊎◌, ⊤, ℕ, zero, suc, Bool, true, List, ◌∷◌, [], Option, Some, None}
use Rattle.std.specs.Prelude.{slice_get}
use Rattle.std.specs.Prelude.{if◌then◌else◌, ◌==◌, ◌&&◌, ◌||◌, false}
use Rattle.std.specs.List.{AllByRecursion}
use Rattle.capture_judge.specs.declared.values.Level.{Level}
use Rattle.capture_judge.specs.declared.values.Level.TheVariants.{Nothing, Something, Writes}
use Rattle.capture_judge.specs.declared.values.Change.{Change}
use Rattle.capture_judge.specs.declared.values.Chain.{Chain}
use Rattle.capture_judge.specs.declared.values.Step.{Step}

-- ---- levels, and when clients clash

abbrev pub height : Level → ℕ
height Nothing = 0
height Something = 1
height Writes = 2

abbrev pub change_at : Option Chain → ℕ → Option Change
change_at None change = None
change_at (Some chain) change = slice_get chain.changes.items change

-- the change of a chain, both by their indexes
unfoldable pub change_of : List Chain → ℕ → ℕ → Option Change
change_of chains chain change = change_at (slice_get chains chain) change

abbrev pub level_of : Option Change → ℕ
level_of None = 0
level_of (Some change) = height change.level

-- the level of a chain that has come so far: nothing is cached at its start
abbrev pub level_at : List Chain → ℕ → ℕ → ℕ
level_at chains chain zero = 0
level_at chains chain (suc change) = level_of (change_of chains chain change)

-- how far a chain has come: 0 at its start, and after a step one more than the index of the step's change
abbrev pub reached : List Step → ℕ → ℕ
reached [] chain = 0
reached (step ∷ past) chain = if step.chain == chain then step.change + 1 else reached past chain

-- The client has this level after the steps: the highest of its chains', or 0 where it has none.
pub record IsLevel (chains : List Chain) (past : List Step) (client level : ℕ) : Type 0 where
  pub highest : (i : ℕ) (chain : Chain) → slice_get chains i ≡ Some chain → chain.client ≡ client
      → level_at chains i (reached past i) ≤ level
  pub one : (level ≡ 0) ⊎ ((i : ℕ) × (chain : Chain) × (slice_get chains i ≡ Some chain) × (chain.client ≡ client)
      × (level_at chains i (reached past i) ≡ level))

-- No two clients clash after the steps.
unfoldable pub IsCalm : List Chain → List Step → Type 0
IsCalm chains past = (client other m n : ℕ) → client ≢ other → IsLevel chains past client m → IsLevel chains past other n
    → m + n < 3

-- ---- placements

-- The step is of a change that there is, and at a position within its bounds.
pub record IsWithinBounds (chains : List Chain) (step : Step) : Type 0 where
  pub change : Change
  pub is : change_of chains step.chain step.change ≡ Some change
  pub first : change.first ≤ step.position
  pub last : (last : ℕ) → change.last ≡ Some last → step.position ≤ last

-- Positions never fall, and within a chain changes keep their order, so that none occurs twice.
pub record Precedes (step earlier : Step) : Type 0 where
  pub position : earlier.position ≤ step.position
  pub change : earlier.chain ≡ step.chain → earlier.change < step.change

abbrev pub IsInOrder : List Step → Type 0
IsInOrder [] = ⊤
IsInOrder (step ∷ past) = AllByRecursion (Precedes step) past × IsInOrder past

abbrev pub is_placed : ℕ → ℕ → List Step → Bool
is_placed chain change [] = false
is_placed chain change (step ∷ past) = (step.chain == chain && step.change == change) || is_placed chain change past

-- Each change that has a last position is placed, and each of the others may be.
pub record IsPlacement (chains : List Chain) (past : List Step) : Type 0 where
  pub bounds : AllByRecursion (IsWithinBounds chains) past
  pub order : IsInOrder past
  pub certain : (i k : ℕ) (change : Change) (last : ℕ) → change_of chains i k ≡ Some change → change.last ≡ Some last
      → is_placed i k past ≡ true

-- after each step no two clients clash
abbrev pub IsClean : List Chain → List Step → Type 0
IsClean chains [] = ⊤
IsClean chains (step ∷ past) = IsCalm chains (step ∷ past) × IsClean chains past

-- after each step up to a position no two clients clash
abbrev pub IsCleanUpTo : List Chain → ℕ → List Step → Type 0
IsCleanUpTo chains position [] = ⊤
IsCleanUpTo chains position (step ∷ past) =
    (step.position ≤ position → IsCalm chains (step ∷ past)) × IsCleanUpTo chains position past

-- after each step before a position no two clients clash
abbrev pub IsCleanBefore : List Chain → ℕ → List Step → Type 0
IsCleanBefore chains position [] = ⊤
IsCleanBefore chains position (step ∷ past) =
    (step.position < position → IsCalm chains (step ∷ past)) × IsCleanBefore chains position past
