-- What can happen in a world, and the record of a run (profile).
use Rattle.std.specs.Prelude.{ℕ, Option, Some, None, List, [], ◌∷◌, reverse, if◌then◌else◌}
use Rattle.lease_state.specs.Rules.{profile_rules}
use Rattle.lease_state.specs.declared.rules.Rules.{Rules}
use Rattle.lease_model.specs.server.Calls.{receive, join, cut, expire, scavenge}
use Rattle.lease_model.specs.client.Commanded.{commanded}
use Rattle.lease_model.specs.client.Connection.{noticed, connection_made}
use Rattle.lease_model.specs.client.Taken.{taken}
use Rattle.lease_model.specs.client.State.{lease_key}
use Rattle.lease_model.specs.client.Step.{Step}
use Rattle.lease_model.specs.client.Commands.{Command}
use Rattle.lease_model.specs.records.Facts.{Fact}
use Rattle.lease_model.specs.values.Keys.{Key}
use Rattle.lease_model.specs.server.Progress.{Progress}
use Rattle.lease_model.specs.server.Queries.{breaking, kept}
use Rattle.lease_model.specs.messages.Replies.{Reply}
use Rattle.lease_model.specs.messages.Requests.{Request}
use Rattle.lease_model.specs.server.State.{has_file}
use Rattle.lease_model.specs.values.Tables.{put}
use Rattle.lease_model.specs.server.Naming.{key_of}
use Rattle.lease_model.specs.world.World.{World, Setup, Link, has_client, happened, first_world_under, all_delivered, requests_sent}
use Rattle.lease_model.specs.world.World.{noted}

-- App: a client's application gives a command. ServerTakes, ClientTakes: the server or a client
-- takes the oldest message from the client. Cut: the server loses a client's connection. Notice:
-- the client notices. Connect: it connects. Expire: the timer of the lease of a client's key of a
-- file runs out. Scavenge: that of its lowest kept open of a file. Raw: a request is sent in the
-- client's name that its machine didn't make.
pub data Event : Type 0 where
  App : (client : ℕ) (command : Command) → Event
  ServerTakes : (client : ℕ) → Event
  ClientTakes : (client : ℕ) → Event
  Cut : (client : ℕ) → Event
  Notice : (client : ℕ) → Event
  Connect : (client : ℕ) → Event
  Expire : (client : ℕ) (file : ℕ) → Event
  Scavenge : (client : ℕ) (file : ℕ) → Event
  Raw : (client : ℕ) (request : Request) → Event

-- the server has taken a call: its outs are delivered in order
abbrev pub served : World → Progress → World
served world progress = all_delivered (record world { server = progress.server }) progress.outs

-- a client has made a step: its notes are facts, and its requests are sent
abbrev pub stepped_in : World → ℕ → Step → World
stepped_in world client step = noted
    (requests_sent (record world { clients = put world.clients client step.client }) client step.requests)
    client step.notes

-- the server takes the oldest request of a client
abbrev pub server_takes : World → ℕ → List Request → World
server_takes world client [] = world
server_takes world client (request ∷ queue) =
    served (record world { requests = put world.requests client queue })
    (receive world.server client request)

-- a client takes its oldest reply
abbrev pub client_takes : World → ℕ → List Reply → World
client_takes world client [] = world
client_takes world client (reply ∷ queue) = stepped_in
    (happened (record world { replies = put world.replies client queue }) (Fact.Took client))
    client (taken (world.clients client) reply)

-- The connection is lost: all in flight is gone, and the server's part is cut.
abbrev pub link_cut : World → ℕ → World
link_cut world client = served
    (happened
    (record world {
      links = put world.links client Link.Cut;
      requests = put world.requests client [];
      replies = put world.replies client [];
    })
    (Fact.Dropped client))
    (cut world.server client)

abbrev pub cut_over : World → ℕ → Link → World
cut_over world client Link.Up = link_cut world client
cut_over world client link = world

abbrev pub link_noticed : World → ℕ → World
link_noticed world client = stepped_in (record world { links = put world.links client Link.Down })
    client (noticed (world.clients client))

abbrev pub notice_over : World → ℕ → Link → World
notice_over world client Link.Cut = link_noticed world client
notice_over world client link = world

-- the client connects: the server joins it, and then it notes
abbrev pub link_connected : World → ℕ → World
link_connected world client = stepped_in
    (served
    (happened (record world { links = put world.links client Link.Up }) (Fact.Joined client))
    (join world.server client))
    client (connection_made (world.clients client))

abbrev pub connect_over : World → ℕ → Link → World
connect_over world client Link.Down = link_connected world client
connect_over world client link = world

-- the key under which a client's machine has a file
abbrev pub machine_key : World → ℕ → ℕ → Key
machine_key world client file = key_of client (lease_key (world.clients client).guid file)

abbrev pub timer_expired : World → ℕ → ℕ → World
timer_expired world client file = served (happened world (Fact.Expired client file))
    (expire world.server (machine_key world client file))

abbrev pub scavenged : World → Option ℕ → World
scavenged world None = world
scavenged world (Some file_id) = served world (scavenge world.server file_id)

-- a request that the client's machine didn't make is on its way
abbrev pub strayed_over : World → ℕ → Request → Link → World
strayed_over world client request Link.Up =
    requests_sent (happened world (Fact.Strayed client)) client (request ∷ [])
strayed_over world client request link = world

-- what an event does that names a client of the setup; where it doesn't apply it does nothing
abbrev pub applied : World → Event → World
applied world (Event.App client command) =
    stepped_in world client (commanded (world.clients client) command)
applied world (Event.ServerTakes client) = server_takes world client (world.requests client)
applied world (Event.ClientTakes client) = client_takes world client (world.replies client)
applied world (Event.Cut client) = cut_over world client (world.links client)
applied world (Event.Notice client) = notice_over world client (world.links client)
applied world (Event.Connect client) = connect_over world client (world.links client)
applied world (Event.Expire client file) =
    if has_file world.server file
    then (if breaking world.server (machine_key world client file)
    then timer_expired world client file else world)
    else world
applied world (Event.Scavenge client file) = scavenged world (kept world.server client file)
applied world (Event.Raw client request) =
    strayed_over world client request (world.links client)

abbrev pub client_of : Event → ℕ
client_of (Event.App client command) = client
client_of (Event.ServerTakes client) = client
client_of (Event.ClientTakes client) = client
client_of (Event.Cut client) = client
client_of (Event.Notice client) = client
client_of (Event.Connect client) = client
client_of (Event.Expire client file) = client
client_of (Event.Scavenge client file) = client
client_of (Event.Raw client request) = client

-- An event happens; one of a client that the setup lacks does nothing.
abbrev pub happens : World → Event → World
happens world event = if has_client world (client_of event) then applied world event else world

unfoldable pub after : World → List Event → World
after world [] = world
after world (event ∷ events) = after (happens world event) events

-- The record of a run: the starts of the files, then the facts of the events, in order.
abbrev pub recorded_under : Rules → Setup → List Event → List Fact
recorded_under rules setup events = reverse (after (first_world_under rules setup) events).past

-- the same with the profile's rules
abbrev pub recorded : Setup → List Event → List Fact
recorded setup events = recorded_under profile_rules setup events
