-- What holds in every run: of its server, of the contents of files, and of what its record says of beliefs.
use Rattle.std.specs.Prelude.{◌≡◌, ◌≤◌, ℕ, true, List, length}
use Rattle.lease_state.specs.declared.content.TheConstants.{FILE_LIMIT}
use Rattle.lease_state.specs.declared.rules.Rules.{Rules}
use Rattle.lease_model.specs.client.State.{belief}
use Rattle.lease_model.specs.records.Past.{believed}
use Rattle.lease_model.specs.world.Allowed.{is_allowed_setup}
use Rattle.lease_model.specs.world.Events.{Event, after}
use Rattle.lease_model.specs.world.World.{Setup, first_world_under}
use Rattle.lease_laws.specs.server.Laws.{IsSound}
use Rattle.lease_laws.specs.server.Waiting.{WaitsWell}

-- the server meets the laws of servers and of waiting
abbrev pub ServersOfRunsAreSound : Type 0
ServersOfRunsAreSound = (rules : Rules) (setup : Setup) (events : List Event)
    → IsSound (after (first_world_under rules setup) events).server
    × WaitsWell (after (first_world_under rules setup) events).server

-- no content is longer than a file may be
abbrev pub ContentsOfRunsFit : Type 0
ContentsOfRunsFit = (rules : Rules) (setup : Setup) (events : List Event) → is_allowed_setup setup ≡ true
    → (file : ℕ) → length ((after (first_world_under rules setup) events).server.contents file) ≤ FILE_LIMIT

-- what the record says that a client believes is what it believes
abbrev pub BeliefsOfRuns : Type 0
BeliefsOfRuns = (rules : Rules) (setup : Setup) (events : List Event) (client file : ℕ)
    → believed client file (after (first_world_under rules setup) events).past
    ≡ belief ((after (first_world_under rules setup) events).clients client) file
