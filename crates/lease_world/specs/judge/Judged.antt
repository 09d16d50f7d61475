-- A judge, and the record that it was given.
use Rattle.std.specs.Prelude.{◌≡◌, ℕ, ◌+◌, Bool, true, false, List, [], ◌∷◌, ◌++◌, length, reverse, MatchBool}
use Rattle.lease_model.specs.records.Facts.{Fact}
use Rattle.lease_model.specs.records.Verdict as model
use Rattle.lease_facts.specs.Verdicts.{verdict_of}
use Rattle.lease_facts.specs.declared.verdict.Verdict.{Verdict}
use Rattle.lease_world.specs.judge.Added.{Adds}
use Rattle.lease_world.specs.judge.Knows.{Knows}
use Rattle.lease_world.specs.judge.Seen.{KeptFacts}

-- what a judge has told so far, how many facts it took, and what it keeps of them
pub record Judging : Type 0 where
  pub verdict : Verdict
  pub count : ℕ
  pub known : KeptFacts

abbrev pub is_safe : Verdict → Bool
is_safe Verdict.Safe = true
is_safe _ = false

-- A judge takes one fact more. Once something was wrong it takes no notice.
abbrev pub Steps : Judging → Fact → Judging → Type 0
Steps old fact new = MatchBool (is_safe old.verdict)
    (Adds (old.count + 1) fact old.known new.known new.verdict × (new.count ≡ old.count + 1))
    (new ≡ old)

-- The judge was given these facts, in their order.
pub record HasJudged (judge : Judging) (facts : List Fact) : Type 0 where
  pub verdict : verdict_of judge.verdict ≡ model.verdict facts
  pub known : is_safe judge.verdict ≡ true → (judge.count ≡ length facts) × Knows judge.known (reverse facts)

-- Whatever facts the judge was given, the other one was given one more.
abbrev pub JudgesOneMore : Judging → Fact → Judging → Type 0
JudgesOneMore old fact new = (facts : List Fact) → HasJudged old facts → HasJudged new (facts ++ fact ∷ [])
