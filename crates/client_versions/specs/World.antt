-- A world of clients and a server whose messages are of version 2: each client has one connection, and what it knows of version 2
-- stands between its machine and that.
use Rattle.std.specs.Prelude.{◌≡◌, ℕ, ◌+◌, ◌&&◌, Bool, Option, Some, None, List, [], ◌∷◌, ◌++◌, length, reverse, if◌then◌else◌}
use Rattle.std.specs.Prelude.{is_some, nat_le, Ok}
use Rattle.std.specs.Option.{option_map}
use Rattle.lease_state.specs.declared.access.Access.{Access}
use Rattle.lease_state.specs.declared.access.Share.{Share}
use Rattle.lease_state.specs.declared.rules.Rules.{Rules}
use Rattle.lease_model.specs.client.Commanded.{commanded}
use Rattle.lease_model.specs.client.Commands.{Note}
use Rattle.lease_model.specs.client.Connection.{connection_made, noticed}
use Rattle.lease_model.specs.client.State.{Client, lease_key}
use Rattle.lease_model.specs.client.Step.{Step}
use Rattle.lease_model.specs.client.Taken.{taken}
use Rattle.lease_model.specs.messages.FromBytes.{answer_found, ask_found}
use Rattle.lease_model.specs.messages.Replies.{BreakNotice, CreateAnswer, LeaseGiven, Out, Reply}
use Rattle.lease_model.specs.messages.Requests.{CreateAsk, FileRequest, Request}
use Rattle.lease_model.specs.messages.ToBytes.{notice_view, view_of_ask}
use Rattle.lease_model.specs.records.Facts.{Fact}
use Rattle.lease_model.specs.server.Calls.{cut, expire, join, receive, scavenge}
use Rattle.lease_model.specs.server.Naming.{key_of}
use Rattle.lease_model.specs.server.Progress.{Progress}
use Rattle.lease_model.specs.server.Queries.{breaking, kept}
use Rattle.lease_model.specs.server.State.{Server, has_file}
use Rattle.lease_model.specs.values.Keys.{Key}
use Rattle.lease_model.specs.values.Tables.{put}
use Rattle.lease_model.specs.world.Events.{Event, client_of, recorded_under}
use Rattle.lease_model.specs.world.World as first
use Rattle.lease_model.specs.world.World.{Link, Setup, fact_of}
use Rattle.lease_wire.specs.Notification.{Notice}
use Rattle.lease_wire_v2.specs.EpochNotice.{EpochNotice}
use Rattle.lease_wire_v2.specs.FirstVersion.{of_first}
use Rattle.lease_wire_v2.specs.Names.{CreateView, DurableView, LeaseView, SecondView}
use Rattle.lease_wire_v2.specs.Views.{plain_of}
use Rattle.client_versions.specs.Layer.{Layer, nothing_known}
use Rattle.client_versions.specs.Rows.{answered_in_order, asked, closed, noticed_in_order}

-- ---- messages

-- a create with contexts of either version, or None where they can't be read; all else is as in version 1
pub data SentRequest : Type 0 where
  Create : (file : ℕ) (access : Access) (share : Share) (contexts : Option CreateView) → SentRequest
  Other : (request : Request) → SentRequest

pub data SentReply : Type 0 where
  Created : (file file_id : ℕ) (contexts : Option CreateView) → SentReply
  Break : (notice : Option EpochNotice) → SentReply
  Other : (reply : Reply) → SentReply

-- What version 2 adds, whatever that is: to the answers and notices of a server, by their numbers from 0 on in the order in which
-- it sends them, and to the creates of clients likewise. An answer is to the create of a CreateGuid, by its client and FileId.
pub record Added : Type 0 where
  pub second : ℕ → Option SecondView
  pub durable : ℕ → DurableView
  pub epoch : ℕ → ℕ
  pub parent : ℕ → Option (List ℕ)
  pub guid : ℕ → List ℕ
  pub answered_under : ℕ → ℕ → List ℕ

-- ---- a request is sent, and taken

abbrev pub as_first : CreateAsk → CreateView
as_first ask = of_first (view_of_ask ask)

-- DHnQ and DHnC at once are for no version 2, and no machine asks for both
abbrev pub contexts_sent : Added → ℕ → Layer → CreateAsk → CreateView
contexts_sent added number layer ask =
    if ask.durable && is_some ask.reconnect then as_first ask
    else asked (added.parent number) (added.guid number) (view_of_ask ask) layer

abbrev pub request_sent : Added → ℕ → Layer → Request → SentRequest
request_sent added number layer (Request.OnFile (FileRequest.Create file access share contexts)) =
    SentRequest.Create file access share (option_map (contexts_sent added number layer) contexts)
request_sent added number layer request = SentRequest.Other request

abbrev pub all_sent : Added → ℕ → Layer → List Request → List SentRequest
all_sent added number layer [] = []
all_sent added number layer (request ∷ requests) =
    request_sent added number layer request ∷ all_sent added (number + 1) layer requests

-- a request that no machine made has what it has
abbrev pub strayed : Request → SentRequest
strayed (Request.OnFile (FileRequest.Create file access share contexts)) =
    SentRequest.Create file access share (option_map as_first contexts)
strayed request = SentRequest.Other request

-- what the server's machine is given
abbrev pub contexts_given : Option CreateView → Option CreateAsk
contexts_given None = None
contexts_given (Some contexts) = ask_found (Ok (plain_of contexts))

abbrev pub request_given : SentRequest → Request
request_given (SentRequest.Create file access share contexts) =
    Request.OnFile (FileRequest.Create file access share (contexts_given contexts))
request_given (SentRequest.Other request) = request

-- ---- a reply is sent, and taken

abbrev pub lease_sent : Added → ℕ → LeaseGiven → LeaseView
lease_sent added number given =
    record { key = given.key; state = given.state; breaking = given.in_progress; second = added.second number }

abbrev pub answer_sent : Added → ℕ → CreateAnswer → CreateView
answer_sent added number answer = record {
  lease = option_map (lease_sent added number) answer.lease;
  durable = if answer.durable then Some (added.durable number) else None;
  reconnect = None;
}

abbrev pub notice_sent : Added → ℕ → BreakNotice → EpochNotice
notice_sent added number notice = record { notice = notice_view notice; new_epoch = added.epoch number }

abbrev pub reply_sent : Added → ℕ → Reply → SentReply
reply_sent added number (Reply.Created file file_id contexts) =
    SentReply.Created file file_id (option_map (answer_sent added number) contexts)
reply_sent added number (Reply.Break notice) = SentReply.Break (option_map (notice_sent added number) notice)
reply_sent added number reply = SentReply.Other reply

-- what the client's machine is given over its one connection: all, without what version 2 adds
abbrev pub answer_given : Option CreateView → Option CreateAnswer
answer_given None = None
answer_given (Some contexts) = answer_found (Ok (plain_of contexts))

abbrev pub notice_found : Notice → BreakNotice
notice_found notice = record {
  ack_required = notice.ack_required;
  key = notice.key;
  current = notice.current;
  lowered = notice.new;
}

abbrev pub notice_given : EpochNotice → BreakNotice
notice_given notice = notice_found notice.notice

abbrev pub reply_given : SentReply → Reply
reply_given (SentReply.Created file file_id contexts) = Reply.Created file file_id (answer_given contexts)
reply_given (SentReply.Break notice) = Reply.Break (option_map notice_given notice)
reply_given (SentReply.Other reply) = reply

-- and what is known from then on
abbrev pub layer_after : List ℕ → SentReply → Layer → Layer
layer_after guid (SentReply.Created file file_id (Some contexts)) layer = answered_in_order file_id guid contexts layer
layer_after guid (SentReply.Break (Some notice)) layer = noticed_in_order notice layer
layer_after guid (SentReply.Other (Reply.Closed file_id)) layer = closed file_id layer
layer_after guid reply layer = layer

abbrev pub file_id_of : SentReply → ℕ
file_id_of (SentReply.Created file file_id contexts) = file_id
file_id_of reply = 0

-- ---- the world

-- `replied` and `asked` are how many replies the server has sent, and how many requests the machines of clients.
pub record World : Type 0 where
  pub count : ℕ
  pub clients : ℕ → Client
  pub server : Server
  pub links : ℕ → Link
  pub requests : ℕ → List SentRequest
  pub replies : ℕ → List SentReply
  pub past : List Fact
  pub layers : ℕ → Layer
  pub replied : ℕ
  pub asked : ℕ

abbrev pub first_world : Rules → Setup → World
first_world rules setup = record {
  count = (first.first_world_under rules setup).count;
  clients = (first.first_world_under rules setup).clients;
  server = (first.first_world_under rules setup).server;
  links = (first.first_world_under rules setup).links;
  requests = λ client. [];
  replies = λ client. [];
  past = (first.first_world_under rules setup).past;
  layers = λ client. nothing_known;
  replied = 0;
  asked = 0;
}

abbrev pub happened : World → Fact → World
happened world fact = record world { past = fact ∷ world.past }

abbrev pub delivered : Added → World → Out → World
delivered added world (Out.Sent client reply) = record world {
  replies = put world.replies client (world.replies client ++ reply_sent added world.replied reply ∷ []);
  past = Fact.Sent client ∷ world.past;
  replied = world.replied + 1;
}
delivered added world (Out.Opened file client) = happened world (Fact.Opened file client)
delivered added world (Out.Changed file client number patch) = happened world (Fact.Changed file client number patch)

abbrev pub all_delivered : Added → World → List Out → World
all_delivered added world [] = world
all_delivered added world (out ∷ outs) = all_delivered added (delivered added world out) outs

abbrev pub sent_over : Link → List SentRequest → List SentRequest → List SentRequest
sent_over Link.Up queue requests = queue ++ requests
sent_over link queue requests = queue

abbrev pub requests_sent : World → ℕ → List SentRequest → World
requests_sent world client requests = record world {
  requests = put world.requests client (sent_over (world.links client) (world.requests client) requests);
  asked = world.asked + length requests;
}

abbrev pub noted : World → ℕ → List Note → World
noted world client [] = world
noted world client (note ∷ notes) = noted (happened world (fact_of client note)) client notes

-- ---- events, as in a world of version 1

abbrev pub served : Added → World → Progress → World
served added world progress = all_delivered added (record world { server = progress.server }) progress.outs

abbrev pub stepped_in : Added → World → ℕ → Step → World
stepped_in added world client step = noted
    (requests_sent (record world { clients = put world.clients client step.client }) client
    (all_sent added world.asked (world.layers client) step.requests))
    client step.notes

abbrev pub server_takes : Added → World → ℕ → List SentRequest → World
server_takes added world client [] = world
server_takes added world client (request ∷ queue) = served added (record world { requests = put world.requests client queue })
    (receive world.server client (request_given request))

abbrev pub reply_taken : Added → World → ℕ → SentReply → List SentReply → World
reply_taken added world client reply queue = happened
    (record world {
      replies = put world.replies client queue;
      layers = put world.layers client
          (layer_after (added.answered_under client (file_id_of reply)) reply (world.layers client));
    })
    (Fact.Took client)

abbrev pub client_takes : Added → World → ℕ → List SentReply → World
client_takes added world client [] = world
client_takes added world client (reply ∷ queue) = stepped_in added (reply_taken added world client reply queue)
    client (taken (world.clients client) (reply_given reply))

abbrev pub all_lost : World → ℕ → World
all_lost world client = happened
    (record world {
      links = put world.links client Link.Cut;
      requests = put world.requests client [];
      replies = put world.replies client [];
    })
    (Fact.Dropped client)

abbrev pub link_cut : Added → World → ℕ → World
link_cut added world client = served added (all_lost world client) (cut world.server client)

abbrev pub cut_over : Added → World → ℕ → Link → World
cut_over added world client Link.Up = link_cut added world client
cut_over added world client link = world

abbrev pub link_down : World → ℕ → World
link_down world client = record world { links = put world.links client Link.Down }

abbrev pub link_noticed : Added → World → ℕ → World
link_noticed added world client = stepped_in added (link_down world client) client (noticed (world.clients client))

abbrev pub notice_over : Added → World → ℕ → Link → World
notice_over added world client Link.Cut = link_noticed added world client
notice_over added world client link = world

abbrev pub link_up : World → ℕ → World
link_up world client = happened (record world { links = put world.links client Link.Up }) (Fact.Joined client)

abbrev pub link_connected : Added → World → ℕ → World
link_connected added world client = stepped_in added (served added (link_up world client) (join world.server client))
    client (connection_made (world.clients client))

abbrev pub connect_over : Added → World → ℕ → Link → World
connect_over added world client Link.Down = link_connected added world client
connect_over added world client link = world

abbrev pub machine_key : World → ℕ → ℕ → Key
machine_key world client file = key_of client (lease_key (world.clients client).guid file)

abbrev pub timer_expired : Added → World → ℕ → ℕ → World
timer_expired added world client file = served added (happened world (Fact.Expired client file))
    (expire world.server (machine_key world client file))

abbrev pub scavenged : Added → World → Option ℕ → World
scavenged added world None = world
scavenged added world (Some file_id) = served added world (scavenge world.server file_id)

abbrev pub strayed_over : World → ℕ → Request → Link → World
strayed_over world client request Link.Up =
    requests_sent (happened world (Fact.Strayed client)) client (strayed request ∷ [])
strayed_over world client request link = world

abbrev pub applied : Added → World → Event → World
applied added world (Event.App client command) =
    stepped_in added world client (commanded (world.clients client) command)
applied added world (Event.ServerTakes client) = server_takes added world client (world.requests client)
applied added world (Event.ClientTakes client) = client_takes added world client (world.replies client)
applied added world (Event.Cut client) = cut_over added world client (world.links client)
applied added world (Event.Notice client) = notice_over added world client (world.links client)
applied added world (Event.Connect client) = connect_over added world client (world.links client)
applied added world (Event.Expire client file) =
    if has_file world.server file
    then (if breaking world.server (machine_key world client file)
    then timer_expired added world client file else world)
    else world
applied added world (Event.Scavenge client file) = scavenged added world (kept world.server client file)
applied added world (Event.Raw client request) = strayed_over world client request (world.links client)

abbrev pub has_client : World → ℕ → Bool
has_client world client = nat_le 1 client && nat_le client world.count

abbrev pub happens : Added → World → Event → World
happens added world event = if has_client world (client_of event) then applied added world event else world

abbrev pub after : Added → World → List Event → World
after added world [] = world
after added world (event ∷ events) = after added (happens added world event) events

-- the record of a run
abbrev pub recorded : Added → Rules → Setup → List Event → List Fact
recorded added rules setup events = reverse (after added (first_world rules setup) events).past

-- Whatever version 2 adds, it is that of the run of version 1.
abbrev pub RecordsAreThoseOfVersion1 : Type 0
RecordsAreThoseOfVersion1 = (added : Added) (rules : Rules) (setup : Setup) (events : List Event)
    → recorded added rules setup events ≡ recorded_under rules setup events
