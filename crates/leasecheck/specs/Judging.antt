-- Records that are judged as they are read, block by block.
use Rattle.std.specs.Prelude.{◌≡◌, ◌⊎◌, ◌++◌, ◌+◌, ◌^◌, ◌≤◌, ℕ, map, List, [], ◌∷◌, length, Option, Some, None, Result, Ok, Err}
use Rattle.std.specs.Prelude.{MatchResult}
use Rattle.std.specs.declared.io.ErrorKind.{ErrorKind}
use Rattle.lease_model.specs.records.Verdict as model
use Rattle.lease_facts.specs.Facts.{fact_of}
use Rattle.lease_facts.specs.Verdicts.{verdict_of}
use Rattle.lease_facts.specs.declared.fact.Fact.{Fact}
use Rattle.lease_facts.specs.declared.verdict.Verdict.{Verdict}
use Rattle.lease_world.specs.judge.Judged.{Judging, HasJudged}
use Rattle.lease_texts.specs.Pieces.{lines_of}
use Rattle.lease_texts.specs.declared.fault.LineFault.{LineFault}
use Rattle.lease_texts.specs.declared.fault.LineFault.TheVariants.{Refused}
use Rattle.lease_texts.specs.Reading.{reads_on}
use Rattle.lease_texts.specs.Records.{with_line, record_in}
use Rattle.leasecheck.specs.FileFaults.{reading_failure}
use Rattle.leasecheck.specs.Known.{OfBytes}
use Rattle.leasecheck.specs.declared.failure.Failure.{Failure}
use Rattle.leasecheck.specs.declared.failure.Failure.TheVariants as failure
use Rattle.leasecheck.specs.declared.judging.Progress.{Progress}
use Rattle.leasecheck.specs.declared.judging.Stop.{Stop}
use Rattle.leasecheck.specs.declared.judging.Stop.TheVariants as stop
use Rattle.leasecheck.specs.declared.refusal.Refusal.{Refusal}

-- ---- the verdict on a text

-- The text is a record, and this is the verdict on it.
abbrev pub IsVerdictOn : List ℕ → Verdict → Type 0
IsVerdictOn text verdict =
    (facts : List Fact) × (record_in text ≡ Ok facts) × (verdict_of verdict ≡ model.verdict (map fact_of facts))

-- a failure of which nothing more is said
abbrev pub bare : Failure → Refusal
bare failure = record { failure = failure; second = None }

-- a read failed, of which nothing more is said yet
abbrev pub IsUnread : Refusal → Type 0
IsUnread told = (why : ErrorKind) × (told ≡ bare (reading_failure why))

-- The refusal tells the first of the lines that is refused.
abbrev pub RefusesLine : List (List ℕ) → Refusal → Type 0
RefusesLine lines told =
    (number : ℕ) × (reads_on with_line 1 [] lines ≡ Err number) × (told.failure ≡ failure.Line number)

-- There are more lines than numbers of 64 bits, which only a text of so many bytes has.
abbrev pub RunsOut : ℕ → Refusal → Type 0
RunsOut count told = (told ≡ bare failure.Lines) × (2 ^ 64 ≤ count + 2)

-- The verdict on a text that is a record; of another one the first line that is refused. Else there was no memory, a read failed,
-- or there are more lines than numbers.
abbrev pub JudgesText : List ℕ → Result Verdict Refusal → Type 0
JudgesText text answer = MatchResult answer (λ verdict. IsVerdictOn text verdict)
    (λ told. (told ≡ bare failure.Memory) ⊎ IsUnread told ⊎ RunsOut (length text) told
    ⊎ RefusesLine (lines_of text) told)

-- The same of a reader's text.
abbrev pub Judges : Option (List ℕ) → Result Verdict Refusal → Type 0
Judges known answer = OfBytes known (λ text. JudgesText text answer)

-- ---- lines

-- The lines were read: the judge was given their facts, and what follows is read after them.
pub record HasRead (progress : Progress) (lines : List (List ℕ)) : Type 0 where
  pub facts : List Fact
  pub judged : HasJudged progress.judge (map fact_of facts)
  pub read : (more : List (List ℕ)) → reads_on with_line 1 [] (lines ++ more) ≡ reads_on with_line progress.number facts more
  pub counted : progress.number ≡ length lines + 1

-- A judge of these facts takes a line, or it is refused.
abbrev pub TakesLine : {A : Type 0} → List Fact → List ℕ → Judging → Result A LineFault → Type 0
TakesLine facts line judge answer = MatchResult answer
    (λ _. (more : List Fact) × (with_line facts line ≡ Some more) × HasJudged judge (map fact_of more))
    (λ fault. fault ≡ Refused → with_line facts line ≡ None)

-- What is told where the line of this number isn't taken.
abbrev pub TellsStop : ℕ → Stop → Refusal → Type 0
TellsStop number stop.Lines told = told ≡ bare failure.Lines
TellsStop number stop.Memory told = told ≡ bare failure.Memory
TellsStop number stop.Refused told = told.failure ≡ failure.Line number

-- Lines are read after those that were, or one of them is refused.
abbrev pub ReadsMore : List (List ℕ) → List (List ℕ) → Result Progress Refusal → Type 0
ReadsMore lines new answer = MatchResult answer (λ progress. HasRead progress (lines ++ new))
    (λ told. (told ≡ bare failure.Memory) ⊎ RunsOut (length (lines ++ new)) told
    ⊎ ((more : List (List ℕ)) → RefusesLine (lines ++ (new ++ more)) told))

-- ---- blocks

-- whole lines, each with its line feed
abbrev pub EndsLine : List ℕ → Type 0
EndsLine text = (text ≡ []) ⊎ ((front : List ℕ) × (text ≡ front ++ 10 ∷ []))

pub record HasReadText (progress : Progress) (text : List ℕ) : Type 0 where
  pub whole : EndsLine text
  pub read : HasRead progress (lines_of text)

-- Behind a text that was read a line had begun, and a block goes on with it: more whole lines were read, and what is left has
-- begun the next one. Or a line is refused, whatever follows.
abbrev pub ReadsBlock : List ℕ → List ℕ → List ℕ → List ℕ → Result Progress Refusal → Type 0
ReadsBlock text old new block answer = MatchResult answer
    (λ progress. (more : List ℕ) × HasReadText progress (text ++ more) × (more ++ new ≡ old ++ block))
    (λ told. (told ≡ bare failure.Memory) ⊎ RunsOut (length (text ++ (old ++ block))) told
    ⊎ ((rest : List ℕ) → RefusesLine (lines_of (text ++ ((old ++ block) ++ rest))) told))
