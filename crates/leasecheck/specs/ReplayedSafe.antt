-- What is printed of a run is a record that is safe, whatever else is told in it.
use Rattle.std.specs.Prelude.{◌≡◌, ℕ, map, List, None, Ok}
use Rattle.lease_facts.specs.Facts.{fact_of}
use Rattle.lease_facts.specs.declared.fact.Fact.{Fact}
use Rattle.lease_state.specs.declared.rules.Rules.{Rules}
use Rattle.lease_texts.specs.Records.{record_in}
use Rattle.lease_texts.specs.Schedules.{Draft, schedule_in}
use Rattle.lease_facts.specs.declared.verdict.Verdict.TheVariants as verdict
use Rattle.leasecheck.specs.Judging.{IsVerdictOn}
use Rattle.leasecheck.specs.Replayed.{Replays, record_of, replay_refusal}
use Rattle.leasecheck.specs.declared.tasks.Telling.{Telling}

-- What is printed for a schedule that isn't refused is read as the record of the run that it asks for: what is told of messages
-- and of events that did nothing changes nothing in that.
abbrev pub ReplaysAreReadBack : Type 0
ReplaysAreReadBack = (telling : Telling) (rules : Rules) (schedule text : List ℕ) → replay_refusal schedule ≡ None
    → Replays telling rules schedule text
    → (draft : Draft) × (read : List Fact) × (schedule_in schedule ≡ Ok draft) × (record_in text ≡ Ok read)
    × (map fact_of read ≡ record_of rules draft)

-- And the verdict on it is that it is safe.
abbrev pub ReplaysAreSafe : Type 0
ReplaysAreSafe = (telling : Telling) (rules : Rules) (schedule text : List ℕ) → replay_refusal schedule ≡ None
    → Replays telling rules schedule text → IsVerdictOn text verdict.Safe
