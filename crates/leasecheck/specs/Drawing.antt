-- The picture of a record, or of the run of a schedule, and why there is none.
use Rattle.std.specs.Prelude.{◌≡◌, ◌⊎◌, ℕ, nat_lt, Bool, true, false, List, [], length, map, if◌then◌else◌}
use Rattle.std.specs.Prelude.{Option, Some, None, Result, Ok, Err, MatchResult}
use Rattle.lease_model.specs.records.Verdict as model
use Rattle.lease_facts.specs.Facts.{fact_of}
use Rattle.lease_facts.specs.declared.fact.Fact.{Fact}
use Rattle.lease_reasons.specs.Reasons.{Explains}
use Rattle.lease_reasons.specs.declared.reason.Reason.{Reason}
use Rattle.lease_texts.specs.Records.{record_in}
use Rattle.lease_texts.specs.Schedules.{Draft, schedule_in}
use Rattle.lease_facts.specs.Verdicts.{verdict_of}
use Rattle.lease_facts.specs.declared.verdict.Verdict.{Verdict}
use Rattle.record_words.specs.words.BadPlaces.{bad_places}
use Rattle.record_words.specs.words.Placed.{IsPlaced}
use Rattle.record_words.specs.declared.words.placed.Placed.{Placed}
use Rattle.lease_facts.specs.Setups.{event_of}
use Rattle.lease_facts.specs.declared.passage.Passage.{Passage}
use Rattle.lease_facts.specs.Passages.{passage_meant}
use Rattle.lease_world.specs.world.Passages.{passages_told_under}
use Rattle.record_words.specs.pictures.Captions.{captions, seen_mark}
use Rattle.record_words.specs.pictures.Remarks.{said_of, words_of}
use Rattle.record_words.specs.pictures.Requests.{requests_drawn, seen_request}
use Rattle.record_words.specs.declared.pictures.picture.Picture.{Picture}
use Rattle.record_words.specs.declared.pictures.fault.PictureFault.{PictureFault}
use Rattle.record_words.specs.declared.pictures.fault.PictureFault.TheVariants as fault
use Rattle.lease_state.specs.Rules.{profile_rules}
use Rattle.leasecheck.specs.Comments.{comments}
use Rattle.leasecheck.specs.Replayed.{record_of, run_refusal, setup_of}
use Rattle.leasecheck.specs.declared.failure.Failure.{Failure}
use Rattle.leasecheck.specs.declared.failure.Failure.TheVariants as failure
use Rattle.leasecheck.specs.declared.refusal.Refusal.{Refusal}

-- ---- what is drawn

-- A picture of facts has one mark for each of them, in their order, and beside them what comments say of them. The marks of
-- the facts that make the record bad say so. Where it is known what became of the requests of clients, there is a mark for
-- each of these. Of words, shapes and the text of a picture nothing is said here.
pub record IsDrawn (placed : Placed) (said : List (List ℕ)) (passages : List Passage) (picture : Picture) : Type 0 where
  pub verdict : Verdict
  pub reason : Option Reason
  pub verdict_is : verdict_of verdict ≡ model.verdict (map fact_of placed.facts.items)
  pub explains : Explains (map fact_of placed.facts.items) verdict reason
  pub marks : map seen_mark picture.marks.items ≡ captions (bad_places verdict reason) 1 placed.facts.items
  pub requests : map seen_request picture.requests.items ≡ requests_drawn passages
  pub remarks : map words_of picture.remarks.items ≡ said_of (length placed.facts.items) said

-- the facts of a run of this draft
abbrev pub IsRunOf : Draft → Placed → Type 0
IsRunOf draft placed = map fact_of placed.facts.items ≡ record_of profile_rules draft

-- what became of the requests of a run of this draft
abbrev pub ArePassagesOf : Draft → List Passage → Type 0
ArePassagesOf draft passages =
    map passage_meant passages ≡ passages_told_under profile_rules (setup_of draft) (map event_of draft.events)

-- The picture is of the record that the file is, with its comments, or else of the run of the schedule that it is, with its
-- requests.
abbrev pub Draws : List ℕ → Picture → Type 0
Draws file picture = (placed : Placed) × (passages : List Passage)
    × ((IsPlaced file placed × (passages ≡ []) × IsDrawn placed (comments file) passages picture)
    ⊎ ((draft : Draft) × (schedule_in file ≡ Ok draft) × IsRunOf draft placed × ArePassagesOf draft passages
    × IsDrawn placed [] passages picture))

-- ---- why there is no picture

abbrev pub picture_failure : PictureFault → Failure
picture_failure fault.TooMany = failure.Picture
picture_failure fault.Memory = failure.Memory

abbrev pub too_many_facts : ℕ → Option Failure
too_many_facts count = if nat_lt 5000 count then Some failure.Picture else None

-- A file that is no record is read as a schedule, where that has more lines in order before the first that isn't.
abbrev pub is_schedule : {A B : Type 0} → Result A ℕ → Result B ℕ → Bool
is_schedule (Ok facts) draft = false
is_schedule (Err number) (Ok draft) = true
is_schedule (Err number) (Err other) = nat_lt number other

abbrev pub or_failure : Option Failure → Option Failure → Option Failure
or_failure None later = later
or_failure (Some earlier) later = Some earlier

abbrev pub facts_refusal : Result (List Fact) ℕ → Option Failure
facts_refusal (Ok facts) = too_many_facts (length facts)
facts_refusal (Err number) = Some (failure.Line number)

abbrev pub run_facts_refusal : Result Draft ℕ → Option Failure
run_facts_refusal (Ok draft) = or_failure (run_refusal (Ok draft)) (too_many_facts (length (record_of profile_rules draft)))
run_facts_refusal (Err number) = Some (failure.Line number)

abbrev pub either_refusal : Result (List Fact) ℕ → Result Draft ℕ → Option Failure
either_refusal facts draft = if is_schedule facts draft then run_facts_refusal draft else facts_refusal facts

-- what a file is refused as
abbrev pub draw_refusal : List ℕ → Option Failure
draw_refusal file = either_refusal (record_in file) (schedule_in file)

-- It is drawn only where it isn't refused, and refused as that, or for want of memory.
abbrev pub RefusesDraw : {X : Type 0} → List ℕ → Result X Refusal → Type 0
RefusesDraw file answer = MatchResult answer (λ _. draw_refusal file ≡ None)
    (λ told. (told.failure ≡ failure.Memory) ⊎ (draw_refusal file ≡ Some told.failure))
