-- Worked examples: chains, and what is right of them.
use Rattle.std.specs.Prelude.{◌≡◌, ℕ, List, ◌∷◌, [], Some, None, map}
use Rattle.capture_judge.specs.Placing.{IsPlacement, IsClean}
use Rattle.capture_judge.specs.Verdicts.{IsUnsafe, IsVerdict}
use Rattle.capture_judge.specs.declared.values.Level.{Level}
use Rattle.capture_judge.specs.declared.values.Level.TheVariants.{Nothing, Something, Writes}
use Rattle.capture_judge.specs.declared.values.Change.{Change}
use Rattle.capture_judge.specs.declared.values.Chain.{Chain}
use Rattle.capture_judge.specs.declared.values.Step.{Step}
use Rattle.capture_judge.specs.declared.values.Placing.TheVariants as verdict

-- a chain without where it lies in memory: its client, and its changes
abbrev pub shown : Chain → ℕ × List Change
shown chain = (chain.client, chain.changes.items)

-- a change that must happen between two positions, and one that may happen from a position on
abbrev pub certain : Level → ℕ → ℕ → Change
certain level first last = record { level = level; first = first; last = Some last }

abbrev pub doubtful : Level → ℕ → Change
doubtful level first = record { level = level; first = first; last = None }

abbrev pub at : ℕ → ℕ → ℕ → Step
at position chain change = record { position = position; chain = chain; change = change }

-- The writer may have lowered its lease in time.
abbrev pub lowered : List (ℕ × List Change)
lowered = (1, certain Writes 2 2 ∷ doubtful Something 2 ∷ []) ∷ (2, certain Something 8 8 ∷ []) ∷ []

abbrev pub lowered_steps : List Step
lowered_steps = at 8 1 0 ∷ at 2 0 1 ∷ at 2 0 0 ∷ []

abbrev pub LoweredIsClean : Type 0
LoweredIsClean = (chains : List Chain) → map shown chains ≡ lowered
    → IsPlacement chains lowered_steps × IsClean chains lowered_steps

-- The writer's first change comes before its second one, and so at 1, where the reader caches something too.
abbrev pub hurried : List (ℕ × List Change)
hurried = (1, certain Writes 1 3 ∷ certain Writes 1 1 ∷ []) ∷ (2, certain Something 1 1 ∷ certain Nothing 3 3 ∷ []) ∷ []

abbrev pub HurriedIsUnsafe : Type 0
HurriedIsUnsafe = (chains : List Chain) → map shown chains ≡ hurried → IsUnsafe chains 1

-- The doubtful change can't have happened before 6, and the one behind it may have happened without it.
abbrev pub left_out : List (ℕ × List Change)
left_out = (1, certain Writes 2 2 ∷ doubtful Nothing 6 ∷ certain Nothing 3 6 ∷ []) ∷ (2, certain Something 4 5 ∷ []) ∷ []

abbrev pub left_out_steps : List Step
left_out_steps = at 5 1 0 ∷ at 5 0 2 ∷ at 2 0 0 ∷ []

abbrev pub LeftOutIsClean : Type 0
LeftOutIsClean = (chains : List Chain) → map shown chains ≡ left_out
    → IsPlacement chains left_out_steps × IsClean chains left_out_steps

-- The first change comes after the last position of the second one.
abbrev pub reversed : List (ℕ × List Change)
reversed = (1, certain Writes 5 9 ∷ certain Nothing 1 4 ∷ []) ∷ []

abbrev pub ReversedIsContradictory : Type 0
ReversedIsContradictory = (chains : List Chain) → map shown chains ≡ reversed → IsVerdict chains verdict.Contradictory
