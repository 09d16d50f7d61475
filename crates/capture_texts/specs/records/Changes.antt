-- The changes of a record: what its clients cache, by its numbers of files and clients, which are from 1.
use Rattle.std.specs.Prelude.{◌+◌, ℕ, List, [], ◌∷◌, ◌++◌, Option, Some, None}
use Rattle.std.specs.List.{position}
use Rattle.capture_judge.specs.declared.values.Level.{Level}
use Rattle.capture_texts.specs.declared.finding.Belief.{Belief}
use Rattle.capture_texts.specs.declared.finding.FileFinding.{FileFinding}
use Rattle.capture_texts.specs.records.Casts.{is_number}
use Rattle.capture_texts.specs.declared.records.change.Change.{Change}

pub record Shown : Type 0 where
  pub position : ℕ
  pub file : ℕ
  pub client : ℕ
  pub level : Level
  pub finding : ℕ
  pub belief : ℕ

abbrev pub shown : Change → Shown
shown change = record {
  position = change.position;
  file = change.file.0;
  client = change.client.0;
  level = change.level;
  finding = change.finding;
  belief = change.belief;
}

-- that of a belief, by its client's place among those of the record; the finding and the belief have these places
abbrev pub shown_by : ℕ → ℕ → ℕ → Belief → Option ℕ → List Shown
shown_by file finding index belief None = []
shown_by file finding index belief (Some place) = record {
  position = belief.position;
  file = file;
  client = place + 1;
  level = belief.level;
  finding = finding;
  belief = index;
} ∷ []

-- those of beliefs, of which so many come before
abbrev pub changes_in : List ℕ → ℕ → ℕ → ℕ → List Belief → List Shown
changes_in clients file finding index [] = []
changes_in clients file finding index (belief ∷ beliefs) =
    shown_by file finding index belief (position (is_number belief.client) clients)
    ++ changes_in clients file finding (index + 1) beliefs

-- those of files, by the places of their findings, of which so many come before
abbrev pub changes_after : List ℕ → ℕ → List FileFinding → List ℕ → List Shown
changes_after clients count [] places = []
changes_after clients count (file ∷ files) [] = []
changes_after clients count (file ∷ files) (place ∷ places) =
    changes_in clients (count + 1) place 0 file.beliefs.items ++ changes_after clients (count + 1) files places

abbrev pub changes_of : List ℕ → List ℕ → List FileFinding → List Shown
changes_of clients places files = changes_after clients 0 files places
