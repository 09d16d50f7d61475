-- The messages that the facts of a run speak of: the reply of each `sent` and of each `took`, in the order of the facts.
use Rattle.std.specs.Prelude.{ℕ, suc, Option, Some, None, List, [], ◌∷◌, ◌++◌, if◌then◌else◌}
use Rattle.lease_state.specs.declared.rules.Rules.{Rules}
use Rattle.lease_model.specs.messages.Replies.{Reply, Out}
use Rattle.lease_model.specs.messages.Requests.{Request}
use Rattle.lease_model.specs.records.Facts.{Fact}
use Rattle.lease_model.specs.server.Calls.{Call, called}
use Rattle.lease_model.specs.server.Queries.{breaking, kept}
use Rattle.lease_model.specs.server.State.{has_file}
use Rattle.lease_model.specs.world.Events.{Event, client_of, happens, machine_key}
use Rattle.lease_model.specs.world.World.{World, Setup, Link, has_client, first_world_under}

-- the replies among what a server gives out
abbrev pub sent_among : List Out → List Reply
sent_among [] = []
sent_among (Out.Sent client reply ∷ outs) = reply ∷ sent_among outs
sent_among (_ ∷ outs) = sent_among outs

-- those of a call of the server
abbrev pub sent_by : World → Call → List Reply
sent_by world call = sent_among (called world.server call).outs

-- the server takes the oldest request of a client
abbrev pub sent_by_oldest : World → ℕ → List Request → List Reply
sent_by_oldest world client [] = []
sent_by_oldest world client (request ∷ queue) = sent_by world (Call.Receive client request)

-- the oldest reply of a queue
abbrev pub oldest : List Reply → List Reply
oldest [] = []
oldest (reply ∷ queue) = reply ∷ []

abbrev pub sent_by_cut : World → ℕ → Link → List Reply
sent_by_cut world client Link.Up = sent_by world (Call.Cut client)
sent_by_cut world client link = []

abbrev pub sent_by_join : World → ℕ → Link → List Reply
sent_by_join world client Link.Down = sent_by world (Call.Join client)
sent_by_join world client link = []

abbrev pub sent_by_scavenge : World → Option ℕ → List Reply
sent_by_scavenge world None = []
sent_by_scavenge world (Some file_id) = sent_by world (Call.Scavenge file_id)

-- of an event that names a client of the setup
unfoldable pub messages_of : World → Event → List Reply
messages_of world (Event.ServerTakes client) = sent_by_oldest world client (world.requests client)
messages_of world (Event.ClientTakes client) = oldest (world.replies client)
messages_of world (Event.Cut client) = sent_by_cut world client (world.links client)
messages_of world (Event.Connect client) = sent_by_join world client (world.links client)
messages_of world (Event.Expire client file) =
    if has_file world.server file
    then (if breaking world.server (machine_key world client file)
    then sent_by world (Call.Expire (machine_key world client file)) else [])
    else []
messages_of world (Event.Scavenge client file) = sent_by_scavenge world (kept world.server client file)
messages_of world event = []

unfoldable pub messages_in : World → Event → List Reply
messages_in world event = if has_client world (client_of event) then messages_of world event else []

unfoldable pub messages_from : World → List Event → List Reply
messages_from world [] = []
messages_from world (event ∷ events) = messages_in world event ++ messages_from (happens world event) events

-- of a run, in the order of its record
abbrev pub messages_told_under : Rules → Setup → List Event → List Reply
messages_told_under rules setup events = messages_from (first_world_under rules setup) events

-- how many facts speak of a message
unfoldable pub speaking : List Fact → ℕ
speaking [] = 0
speaking (Fact.Sent client ∷ facts) = suc (speaking facts)
speaking (Fact.Took client ∷ facts) = suc (speaking facts)
speaking (_ ∷ facts) = speaking facts
