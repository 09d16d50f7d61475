-- What clients cache after each step of a placement.
use Rattle.std.specs.Prelude.{◌≡◌, ◌<◌, ◌≤◌, ◌⊎◌, ⊤, ℕ, suc, List, [], ◌∷◌, Option, Some, None, length, slice_get}
use Rattle.capture_judge.specs.Placing.{height, reached, level_of, IsLevel}
use Rattle.capture_judge.specs.declared.values.Chain.{Chain}
use Rattle.capture_judge.specs.declared.values.Level.{Level}
use Rattle.capture_judge.specs.declared.values.Step.{Step}

-- The level is that of the step's client after these steps, of which it is the last.
abbrev pub IsLevelAfter : List Chain → List Step → Step → Level → Type 0
IsLevelAfter chains past step level = (chain : Chain) → slice_get chains step.chain ≡ Some chain
    → IsLevel chains past chain.client (height level)

-- one for each step, of which the newest comes first
abbrev pub AreLevels : List Chain → List Step → List Level → Type 0
AreLevels chains [] [] = ⊤
AreLevels chains [] (level ∷ levels) = ⊥
AreLevels chains (step ∷ past) [] = ⊥
AreLevels chains (step ∷ past) (level ∷ levels) =
    IsLevelAfter chains (step ∷ past) step level × AreLevels chains past levels

-- ---- what is kept of the steps: of each chain its change that was placed last, if there is one

abbrev pub reached_by : Option ℕ → ℕ
reached_by None = 0
reached_by (Some change) = suc change

-- The steps have brought each chain there.
pub record HaveCome (chains : List Chain) (past : List Step) (came : List (Option ℕ)) : Type 0 where
  pub count : length came ≡ length chains
  pub each : (i : ℕ) (one : Option ℕ) → slice_get came i ≡ Some one → reached past i ≡ reached_by one

-- the level of a chain whose change was placed last
abbrev pub level_by : Chain → Option ℕ → ℕ
level_by chain None = 0
level_by chain (Some change) = level_of (slice_get chain.changes.items change)

-- The level is the highest of the client's chains among the first so many.
pub record IsHighest (chains : List Chain) (came : List (Option ℕ)) (client count level : ℕ) : Type 0 where
  pub highest : (i : ℕ) (chain : Chain) (one : Option ℕ) → i < count → slice_get chains i ≡ Some chain
      → slice_get came i ≡ Some one → chain.client ≡ client → level_by chain one ≤ level
  pub one : (level ≡ 0) ⊎ ((i : ℕ) × (chain : Chain) × (one : Option ℕ) × (slice_get chains i ≡ Some chain)
      × (slice_get came i ≡ Some one) × (chain.client ≡ client) × (level_by chain one ≡ level))
