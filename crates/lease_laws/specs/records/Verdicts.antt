-- The verdict, which computes, against what is promised of a record.
use Rattle.std.specs.Prelude.{◌≡◌, ◌⊎◌, ℕ, ◌+◌, List, ◌∷◌, ◌++◌, length, reverse}
use Rattle.lease_model.specs.records.Facts.{Fact}
use Rattle.lease_model.specs.records.Safe.{Safe, WellFormed, OneWriteCache, FreshRead, NoLateWrite, NoFalseDone}
use Rattle.lease_model.specs.records.Verdict.{Verdict, verdict}

-- The verdict is Safe exactly where the record is safe.
abbrev pub VerdictDecides : Type 0
VerdictDecides = (facts : List Fact)
    → (verdict facts ≡ Verdict.Safe → Safe facts) × (Safe facts → verdict facts ≡ Verdict.Safe)

-- What can be wrong with a fact in the light of the past. Only the first of these is told.
abbrev pub IsMalformed : Fact → List Fact → Type 0
IsMalformed fact past = ¬ WellFormed fact past

abbrev pub MakesTwoCaches : Fact → List Fact → Type 0
MakesTwoCaches fact past = WellFormed fact past × (¬ OneWriteCache (fact ∷ past))

abbrev pub IsStaleRead : Fact → List Fact → Type 0
IsStaleRead fact past = WellFormed fact past × OneWriteCache (fact ∷ past) × (¬ FreshRead fact past)

abbrev pub IsLateWrite : Fact → List Fact → Type 0
IsLateWrite fact past =
    WellFormed fact past × OneWriteCache (fact ∷ past) × FreshRead fact past × (¬ NoLateWrite fact past)

abbrev pub IsFalseDone : Fact → List Fact → Type 0
IsFalseDone fact past = WellFormed fact past × OneWriteCache (fact ∷ past) × FreshRead fact past
    × NoLateWrite fact past × (¬ NoFalseDone fact past)

-- All before the place is safe, and the fact at the place is wrong so.
pub record IsFirstBad (wrong : Fact → List Fact → Type 0) (facts : List Fact) (place : ℕ) : Type 0 where
  pub before : List Fact
  pub fact : Fact
  pub later : List Fact
  pub parts : facts ≡ before ++ fact ∷ later
  pub place_is : place ≡ length before + 1
  pub safe_before : Safe before
  pub is_wrong : wrong fact (reverse before)

-- what each verdict says
abbrev pub Says : List Fact → Verdict → Type 0
Says facts Verdict.Safe = Safe facts
Says facts (Verdict.Malformed place) = IsFirstBad IsMalformed facts place
Says facts (Verdict.Unsafe place rule) =
    ((rule ≡ 1) × IsFirstBad MakesTwoCaches facts place)
    ⊎ (((rule ≡ 2) × IsFirstBad IsStaleRead facts place)
    ⊎ (((rule ≡ 3) × IsFirstBad IsLateWrite facts place)
    ⊎ ((rule ≡ 4) × IsFirstBad IsFalseDone facts place)))

-- The first bad place is told, and there Malformed before the lowest rule.
abbrev pub VerdictTells : Type 0
VerdictTells = (facts : List Fact) → Says facts (verdict facts)
