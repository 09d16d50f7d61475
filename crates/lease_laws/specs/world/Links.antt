-- What holds in every run of links, queues and connections, and what the record says of them.
use Rattle.std.specs.Prelude.{◌≡◌, ℕ, ◌+◌, Bool, true, false, not, List, [], length}
use Rattle.lease_state.specs.declared.rules.Rules.{Rules}
use Rattle.lease_model.specs.records.Past.{is_served, sendings, takings}
use Rattle.lease_model.specs.world.Events.{Event, after}
use Rattle.lease_model.specs.world.World.{World, Link, Setup, first_world_under}

abbrev pub is_up : Link → Bool
is_up Link.Up = true
is_up link = false

abbrev pub is_down : Link → Bool
is_down Link.Down = true
is_down link = false

-- The server has a client's connection where the link is up, and only over such a link something is on its
-- way. Where the record says that the client is served, its link is up. What was sent to it since it joined
-- is what it took since, and what is on its way.
pub record IsTied (world : World) (client : ℕ) : Type 0 where
  pub present : world.server.present client ≡ is_up (world.links client)
  pub requests : is_up (world.links client) ≡ false → world.requests client ≡ []
  pub replies : is_up (world.links client) ≡ false → world.replies client ≡ []
  pub served : is_served client world.past ≡ true → is_up (world.links client) ≡ true
  pub counted : is_up (world.links client) ≡ true
      → length (sendings client world.past) ≡ takings client world.past + length (world.replies client)

-- A client believes that it is connected until it has noticed that it isn't.
abbrev pub IsOnline : World → ℕ → Type 0
IsOnline world client = (world.clients client).is_online ≡ not (is_down (world.links client))

abbrev pub LinksOfRuns : Type 0
LinksOfRuns = (rules : Rules) (setup : Setup) (events : List Event) (client : ℕ)
    → IsTied (after (first_world_under rules setup) events) client
    × IsOnline (after (first_world_under rules setup) events) client
