-- What is true of records and schedules as texts.
use Rattle.std.specs.Prelude.{◌≡◌, ◌+◌, ◌++◌, ℕ, List, length, Ok}
use Rattle.lease_facts.specs.declared.fact.Fact.{Fact}
use Rattle.lease_texts.specs.Complaints.{complaint, fact_table, part_table}
use Rattle.lease_texts.specs.{FirstFaults.ComplainsExactly, Pieces.lines_of, Reading.reads_on, declared.parts.Part.Part}
use Rattle.lease_texts.specs.Records.{fact_in, fact_kinds, fact_said, record_in, record_text, with_line}
use Rattle.lease_texts.specs.Schedules.{Draft, part_in, part_kinds, part_said, schedule_in, schedule_text}
use Rattle.lease_texts.specs.Tables.{AreReadBack, CanBeWritten, Each, FieldSays, ReadsExactly}

-- What is read in a line is the fact, or the part of a schedule, that the line tells.
abbrev pub LinesTellFacts : Type 0
LinesTellFacts = ReadsExactly fact_kinds fact_in

abbrev pub LinesTellParts : Type 0
LinesTellParts = ReadsExactly part_kinds part_in

-- What is said of a line that is no fact, or no part of a schedule, is its first fault.
abbrev pub FactFaultsAreFirst : Type 0
FactFaultsAreFirst = ComplainsExactly FieldSays fact_kinds fact_in (complaint fact_table)

abbrev pub PartFaultsAreFirst : Type 0
PartFaultsAreFirst = ComplainsExactly FieldSays part_kinds part_in (complaint part_table)

-- A line can say the fact, and so can one the part of a schedule.
abbrev pub CanBeTold : Fact → Type 0
CanBeTold told = CanBeWritten (fact_said told)

abbrev pub FactsAreReadBack : Type 0
FactsAreReadBack = AreReadBack fact_said fact_in

abbrev pub PartsAreReadBack : Type 0
PartsAreReadBack = AreReadBack part_said part_in

abbrev pub RecordsAreReadBack : Type 0
RecordsAreReadBack = (facts : List Fact) → Each CanBeTold facts → record_in (record_text facts) ≡ Ok facts

-- And what stands after a record in a text is read after it.
abbrev pub TextsGoOn : Type 0
TextsGoOn = (facts : List Fact) (rest : List ℕ) → Each CanBeTold facts
    → record_in (record_text facts ++ rest) ≡ reads_on with_line (length facts + 1) facts (lines_of rest)

-- Lines can say the schedule.
pub record CanBeScheduled (draft : Draft) : Type 0 where
  pub files : Each (λ content. CanBeWritten (part_said (Part.File content))) draft.files
  pub clients : Each (λ guid. CanBeWritten (part_said (Part.Client guid))) draft.clients
  pub events : Each (λ happening. CanBeWritten (part_said (Part.Happens happening))) draft.events

abbrev pub SchedulesAreReadBack : Type 0
SchedulesAreReadBack = (draft : Draft) → CanBeScheduled draft → schedule_in (schedule_text draft) ≡ Ok draft
