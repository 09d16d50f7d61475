-- What a verdict says.
use Rattle.std.specs.Prelude.{◌≡◌, ◌<◌, ⊤, ℕ, List, reverse}
use Rattle.capture_judge.specs.Placing.{IsPlacement, IsClean, IsCleanUpTo, IsCleanBefore}
use Rattle.capture_judge.specs.Beginnings.{IsCrowded}
use Rattle.capture_judge.specs.declared.values.Chain.{Chain}
use Rattle.capture_judge.specs.declared.values.Charge.{Charge}
use Rattle.capture_judge.specs.declared.values.Step.{Step}
use Rattle.capture_judge.specs.declared.values.Placing.{Placing}
use Rattle.capture_judge.specs.declared.values.Placing.TheVariants as verdict

-- There are placements, and each has an unclean step at the position or before it, which is the first such position.
pub record IsUnsafe (chains : List Chain) (position : ℕ) : Type 0 where
  pub placed : (past : List Step) × IsPlacement chains past
  pub unclean : (past : List Step) → IsPlacement chains past → IsCleanUpTo chains position past → ⊥
  pub first : (earlier : ℕ) → earlier < position → (past : List Step) × IsPlacement chains past × IsCleanUpTo chains earlier past

-- The charge is at such a position, and its steps are a placement that is clean before it.
pub record IsCharged (chains : List Chain) (charge : Charge) : Type 0 where
  pub unsafe : IsUnsafe chains charge.position
  pub placed : IsPlacement chains (reverse charge.steps.items)
  pub clean : IsCleanBefore chains charge.position (reverse charge.steps.items)

abbrev pub IsVerdict : List Chain → Placing → Type 0
IsVerdict chains verdict.Contradictory = (past : List Step) → IsPlacement chains past → ⊥
IsVerdict chains (verdict.Clean steps) = IsPlacement chains (reverse steps.items) × IsClean chains (reverse steps.items)
IsVerdict chains (verdict.Unsafe charge) = IsCharged chains charge
IsVerdict chains verdict.TooMany = IsCrowded chains

-- The verdicts say the same, or one of them says nothing.
abbrev pub Agree : Placing → Placing → Type 0
Agree verdict.TooMany other = ⊤
Agree verdict.Contradictory verdict.TooMany = ⊤
Agree verdict.Contradictory verdict.Contradictory = ⊤
Agree verdict.Contradictory (verdict.Clean steps) = ⊥
Agree verdict.Contradictory (verdict.Unsafe charge) = ⊥
Agree (verdict.Clean steps) verdict.TooMany = ⊤
Agree (verdict.Clean steps) verdict.Contradictory = ⊥
Agree (verdict.Clean steps) (verdict.Clean others) = ⊤
Agree (verdict.Clean steps) (verdict.Unsafe charge) = ⊥
Agree (verdict.Unsafe charge) verdict.TooMany = ⊤
Agree (verdict.Unsafe charge) verdict.Contradictory = ⊥
Agree (verdict.Unsafe charge) (verdict.Clean steps) = ⊥
Agree (verdict.Unsafe charge) (verdict.Unsafe other) = charge.position ≡ other.position

-- Two verdicts that are right of the same chains agree.
abbrev pub VerdictsAgree : Type 0
VerdictsAgree = (chains : List Chain) (one other : Placing) → IsVerdict chains one → IsVerdict chains other → Agree one other
