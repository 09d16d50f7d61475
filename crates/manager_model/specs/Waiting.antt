-- The files where requests wait.
use Rattle.std.specs.Prelude.{◌≡◌, ◌⊎◌, ⊤, ℕ, ◌≤◌, ◌<◌, List, [], ◌∷◌}
use Rattle.lease_laws.specs.server.Laws.{Among}
use Rattle.manager_model.specs.Handling.{Tagged}

-- rising numbers, each above the bound
abbrev pub AreAbove : ℕ → List ℕ → Type 0
AreAbove bound [] = ⊤
AreAbove bound (n ∷ numbers) = (bound < n) × AreAbove n numbers

-- Rising numbers of files, from 1 to the last, among which are all where requests wait.
pub record AreWaitingFiles (last : ℕ) (queues : ℕ → List Tagged) (files : List ℕ) : Type 0 where
  pub rising : AreAbove 0 files
  pub within : (file : ℕ) → Among file files → file ≤ last
  pub others : (file : ℕ) → 0 < file → file ≤ last → Among file files ⊎ (queues file ≡ [])
