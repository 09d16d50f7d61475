-- What the record says of timers that ran out.
use Rattle.std.specs.Prelude.{◌≡◌, true, false, List}
use Rattle.lease_state.specs.declared.rules.Rules.{Rules}
use Rattle.lease_model.specs.records.Past.{is_served}
use Rattle.lease_model.specs.values.Keys.{Key}
use Rattle.lease_model.specs.world.Events.{Event, after}
use Rattle.lease_model.specs.world.World.{Setup, first_world_under}

-- Where the timer of a key ran out, and its client hasn't connected since, the record doesn't say that the client
-- is served.
abbrev pub TimersAreTold : Type 0
TimersAreTold = (rules : Rules) (setup : Setup) (events : List Event) (key : Key)
    → (after (first_world_under rules setup) events).server.expired key ≡ true
    → is_served key.client (after (first_world_under rules setup) events).past ≡ false
