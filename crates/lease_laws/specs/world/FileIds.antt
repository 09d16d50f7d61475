-- FileIds are given one after the other, one for each open that the record tells of.
use Rattle.std.specs.Prelude.{◌≡◌, ◌==◌, ◌&&◌, ◌||◌, ℕ, ◌+◌, Bool, true, false, List, [], ◌∷◌}
use Rattle.lease_state.specs.declared.rules.Rules.{Rules}
use Rattle.lease_model.specs.records.Facts.{Fact}
use Rattle.lease_model.specs.server.State.{Open}
use Rattle.lease_model.specs.world.Events.{Event, after}
use Rattle.lease_model.specs.world.World.{Setup, first_world_under}
use Rattle.lease_laws.specs.server.Laws.{Among}

-- how many opens the record tells of
unfoldable pub opened_count : List Fact → ℕ
opened_count [] = 0
opened_count (Fact.Opened file client ∷ past) = opened_count past + 1
opened_count (_ ∷ past) = opened_count past

-- the open that the record tells of in this place, counted from 1, is one on the file by the client
unfoldable pub was_opened : ℕ → ℕ → ℕ → List Fact → Bool
was_opened place file client [] = false
was_opened place file client (Fact.Opened of_file by ∷ past) =
    (place == opened_count past + 1 && (of_file == file && by == client)) || was_opened place file client past
was_opened place file client (_ ∷ past) = was_opened place file client past

-- The FileId given last is the number of opens that the record tells of.
abbrev pub FileIdsAreCounted : Type 0
FileIdsAreCounted = (rules : Rules) (setup : Setup) (events : List Event)
    → (after (first_world_under rules setup) events).server.last_id
    ≡ opened_count (after (first_world_under rules setup) events).past

-- Each open of the server is the one that the record tells of in the place of its FileId.
abbrev pub OpensAreTold : Type 0
OpensAreTold = (rules : Rules) (setup : Setup) (events : List Event) (one : Open)
    → Among one (after (first_world_under rules setup) events).server.opens
    → was_opened one.file_id one.file one.client (after (first_world_under rules setup) events).past ≡ true
