-- Records of runs as texts: what a run is printed as is read as its record, and judged to be safe.
use Rattle.std.specs.Prelude.{◌≡◌, ◌++◌, ◌<◌, ◌^◌, ⊤, ℕ, true, map, List, Ok}
use Rattle.lease_model.specs.records.Verdict.{Verdict, verdict}
use Rattle.lease_model.specs.world.{Allowed.is_allowed_setup, Events.Event, Events.recorded_under, World.Setup}
use Rattle.lease_facts.specs.{Facts.fact_of, declared.fact.Fact.Fact}
use Rattle.lease_texts.specs.{Kinds.Value, Remarks.safe_end, Tables.Each, declared.kinds.Field.Field}
use Rattle.lease_texts.specs.Records.{fact_said, record_text, record_in}
use Rattle.{hex.specs.Hex.IsBytes, lease_state.specs.declared.rules.Rules.Rules}

-- What the types of a fact's parts give: clients and files are numbers of 8 bits, numbers of writes have 64, offsets 32, bytes 8.
abbrev pub HasType : (field : Field) → Value field → Type 0
HasType Field.Client client = client.0 < 256
HasType Field.File file = file.0 < 256
HasType Field.Number number = number < 2 ^ 64
HasType Field.Offset offset = offset < 2 ^ 32
HasType Field.Bytes bytes = IsBytes bytes
HasType Field.Content bytes = IsBytes bytes
HasType other value = ⊤

abbrev pub IsTyped : Fact → Type 0
IsTyped told = Each (λ one. HasType one.field one.value) (fact_said told).spoken

-- These facts are the record of the run of this setup by these events, with a server of these rules.
pub record AreOfRun (rules : Rules) (setup : Setup) (events : List Event) (facts : List Fact) : Type 0 where
  pub is_allowed : is_allowed_setup setup ≡ true
  pub are_recorded : map fact_of facts ≡ recorded_under rules setup events
  pub are_typed : Each IsTyped facts

-- The text is read as a record of the run.
abbrev pub RunsAreReadBack : Type 0
RunsAreReadBack = (rules : Rules) (setup : Setup) (events : List Event) (facts : List Fact)
    → AreOfRun rules setup events facts
    → (read : List Fact) × (record_in (record_text facts) ≡ Ok read) × (map fact_of read ≡ recorded_under rules setup events)

-- The text is a record, and the verdict on it is that it is safe.
abbrev pub IsJudgedSafe : List ℕ → Type 0
IsJudgedSafe text = (facts : List Fact) × (record_in text ≡ Ok facts) × (Verdict.Safe ≡ verdict (map fact_of facts))

-- So a judge is to call a run's record safe, alone and with what a replay prints after it.
abbrev pub RunsAreJudgedSafe : Type 0
RunsAreJudgedSafe = (rules : Rules) (setup : Setup) (events : List Event) (facts : List Fact)
    → AreOfRun rules setup events facts
    → IsJudgedSafe (record_text facts)

abbrev pub ReplaysAreJudgedSafe : Type 0
ReplaysAreJudgedSafe = (rules : Rules) (setup : Setup) (events : List Event) (facts : List Fact)
    → AreOfRun rules setup events facts
    → IsJudgedSafe (record_text facts ++ safe_end rules)
