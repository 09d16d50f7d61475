-- Records of runs with comment lines in them, as a replay prints them: they are read as the record alone.
use Rattle.std.specs.Prelude.{◌≡◌, ◌++◌, ◌==◌, ℕ, Bool, true, not, map, List, [], ◌∷◌, Ok}
use Rattle.std.specs.List.{flat_map, list_all}
use Rattle.lease_model.specs.world.{Events.Event, Events.recorded_under, World.Setup}
use Rattle.lease_facts.specs.{Facts.fact_of, declared.fact.Fact.Fact}
use Rattle.lease_texts.specs.{Records.fact_line, Records.record_in, Tables.Each}
use Rattle.lease_state.specs.declared.rules.Rules.{Rules}
use Rattle.text_laws.specs.Runs.{AreOfRun, IsJudgedSafe}

-- no byte is a line feed
abbrev pub is_one_line : List ℕ → Bool
is_one_line text = list_all (λ byte. not (byte == 10)) text

-- the comment line of these words, with its line feed
abbrev pub remark : List ℕ → List ℕ
remark words = 35 ∷ words ++ 10 ∷ []

-- the text is comment lines, any number of them
abbrev pub AreRemarks : List ℕ → Type 0
AreRemarks text = (remarks : List (List ℕ)) × Each (λ words. is_one_line words ≡ true) remarks × (text ≡ flat_map remark remarks)

-- The text is the lines of these facts in their order, with comment lines before each of them and after the last.
abbrev pub IsRemarked : List Fact → List ℕ → Type 0
IsRemarked [] text = AreRemarks text
IsRemarked (fact ∷ facts) text =
    (remarks : List ℕ) × (rest : List ℕ) × AreRemarks remarks × IsRemarked facts rest
    × (text ≡ remarks ++ (fact_line fact ++ rest))

-- Such a text of the record of a run is read as the record of that run.
abbrev pub RemarkedRunsAreReadBack : Type 0
RemarkedRunsAreReadBack = (rules : Rules) (setup : Setup) (events : List Event) (facts : List Fact) (text : List ℕ)
    → AreOfRun rules setup events facts → IsRemarked facts text
    → (read : List Fact) × (record_in text ≡ Ok read) × (map fact_of read ≡ recorded_under rules setup events)

-- So a judge is to call it safe.
abbrev pub RemarkedRunsAreJudgedSafe : Type 0
RemarkedRunsAreJudgedSafe = (rules : Rules) (setup : Setup) (events : List Event) (facts : List Fact) (text : List ℕ)
    → AreOfRun rules setup events facts → IsRemarked facts text → IsJudgedSafe text
