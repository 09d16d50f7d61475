-- Two verdicts that are right of the same chains agree.
use Rattle.std.proofs.Common.{◌≡◌, inl, inr, ℕ, List, reverse}
use Rattle.std.proofs.lemmas.Bool.{cases_order}
use Rattle.capture_judge.specs.Verdicts.{IsUnsafe, VerdictsAgree}
use Rattle.capture_judge.specs.declared.values.Chain.{Chain}
use Rattle.capture_judge.specs.declared.values.Placing.TheVariants as verdict
use Rattle.capture_judge.proofs.calm.Standing.{clean-up_to}

same-position : (chains : List Chain) (position other : ℕ) → IsUnsafe chains position → IsUnsafe chains other
    → position ≡ other
same-position chains position other one two = elim (cases_order position other) as (λ _. position ≡ other) [
  | inl same ↦ same
  | inr apart ↦ elim apart as (λ _. position ≡ other) [
    | inl less ↦ let past = two.first position less in absurd (one.unclean past.0 past.1 past.2)
    | inr more ↦ let past = one.first other more in absurd (two.unclean past.0 past.1 past.2)
  ]
]

pub agree : VerdictsAgree
agree chains verdict.TooMany other one two = tt
agree chains verdict.Contradictory verdict.TooMany one two = tt
agree chains verdict.Contradictory verdict.Contradictory one two = tt
agree chains verdict.Contradictory (verdict.Clean steps) one two = one (reverse steps.items) two.0
agree chains verdict.Contradictory (verdict.Unsafe charge) one two = one two.unsafe.placed.0 two.unsafe.placed.1
agree chains (verdict.Clean steps) verdict.TooMany one two = tt
agree chains (verdict.Clean steps) verdict.Contradictory one two = two (reverse steps.items) one.0
agree chains (verdict.Clean steps) (verdict.Clean others) one two = tt
agree chains (verdict.Clean steps) (verdict.Unsafe charge) one two =
    two.unsafe.unclean (reverse steps.items) one.0 (clean-up_to chains charge.position (reverse steps.items) one.1)
agree chains (verdict.Unsafe charge) verdict.TooMany one two = tt
agree chains (verdict.Unsafe charge) verdict.Contradictory one two = two one.unsafe.placed.0 one.unsafe.placed.1
agree chains (verdict.Unsafe charge) (verdict.Clean steps) one two =
    one.unsafe.unclean (reverse steps.items) two.0 (clean-up_to chains charge.position (reverse steps.items) two.1)
agree chains (verdict.Unsafe charge) (verdict.Unsafe other) one two =
    same-position chains charge.position other.position one.unsafe two.unsafe
