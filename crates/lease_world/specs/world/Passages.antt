-- What becomes of the requests of a run on their way to the server.
use Rattle.std.specs.Prelude.{ℕ, nat_le, nat_lt, ◌&&◌, List, [], ◌∷◌, ◌++◌, length, map, drop, if◌then◌else◌}
use Rattle.lease_model.specs.messages.Requests.{Request}
use Rattle.lease_model.specs.world.Events.{Event, client_of, happens}
use Rattle.lease_model.specs.world.World.{World, Setup, has_client, first_world_under}
use Rattle.lease_facts.specs.Passages.{Passage}
use Rattle.lease_facts.specs.Setups.{event_client}
use Rattle.lease_facts.specs.declared.passage.Passage as code
use Rattle.lease_facts.specs.declared.setup.Event as code_event
use Rattle.lease_state.specs.declared.number.ClientNo.{ClientNo}
use Rattle.lease_state.specs.declared.request.Request as code_request
use Rattle.lease_state.specs.declared.rules.Rules.{Rules}
use Rattle.lease_world.specs.world.Seats.{seat_in}
use Rattle.lease_world.specs.world.Stands.{CodeWorld}

-- what became of requests that aren't on their way any more after an event
abbrev pub gone : Event → ℕ → Passage
gone (Event.ServerTakes client) facts = Passage.Taken client facts
gone event facts = Passage.Lost (client_of event) facts

-- Of an event before which there were so many facts and so many requests of its client on their way, and after which these are,
-- and so many facts. Where fewer are on their way, some are gone; where more are, the last ones were sent.
abbrev pub passages_between : Event → ℕ → ℕ → List Request → ℕ → List Passage
passages_between event facts waiting queue later =
    (if nat_lt (length queue) waiting then gone event facts ∷ [] else [])
    ++ map (λ request. Passage.Sent (client_of event) request later) (drop waiting queue)

-- of an event in a world
unfoldable pub passages_in : World → Event → List Passage
passages_in world event =
    if has_client world (client_of event)
    then passages_between event (length world.past) (length (world.requests (client_of event)))
    ((happens world event).requests (client_of event)) (length (happens world event).past)
    else []

unfoldable pub passages_from : World → List Event → List Passage
passages_from world [] = []
passages_from world (event ∷ events) = passages_in world event ++ passages_from (happens world event) events

-- of a run, in order
abbrev pub passages_told_under : Rules → Setup → List Event → List Passage
passages_told_under rules setup events = passages_from (first_world_under rules setup) events

-- ---- the same of the code

abbrev pub gone_noted : code_event.Event → ℕ → code.Passage
gone_noted (code_event.TheVariants.ServerTakes client) facts = code.TheVariants.Taken client facts
gone_noted event facts = code.TheVariants.Lost (event_client event) facts

-- these are sent after so many facts
abbrev pub sent_noted : ClientNo → ℕ → List code_request.Request → List code.Passage
sent_noted client facts requests = map (λ request. code.TheVariants.Sent client request facts) requests

abbrev pub noted_between : code_event.Event → ℕ → ℕ → List code_request.Request → ℕ → List code.Passage
noted_between event facts waiting queue later =
    (if nat_lt (length queue) waiting then gone_noted event facts ∷ [] else [])
    ++ sent_noted (event_client event) later (drop waiting queue)

abbrev pub passages_noted : code_event.Event → ℕ → ℕ → CodeWorld → List code.Passage
passages_noted event facts waiting new =
    if nat_le 1 (event_client event).0 && nat_le (event_client event).0 (length new.seats)
    then noted_between event facts waiting (seat_in new.seats (event_client event).0).requests (length new.facts)
    else []
