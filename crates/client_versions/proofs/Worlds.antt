-- A world whose messages are of version 2, without what version 2 adds.
use Rattle.std.proofs.Common.{◌&&◌, ◌+◌, ◌++◌, ◌==◌, ◌∙◌, ◌≡◌, ◌∷◌, [], Bool, List, None, Option, Some, ap, ap₂, false}
use Rattle.std.proofs.Common.{if◌then◌else◌, refl, true, ℕ}
use Rattle.std.proofs.Math.Path.{fun_ext}
use Rattle.std.proofs.lemmas.List.{map-append}
use Rattle.std.specs.Prelude.{is_some, map, reverse, Ok}
use Rattle.std.specs.Option.{option_map}
use Rattle.lease_state.specs.declared.rules.Rules.{Rules}
use Rattle.lease_model.specs.client.Commanded.{commanded}
use Rattle.lease_model.specs.client.Commands.{Note}
use Rattle.lease_model.specs.client.Connection.{connection_made, noticed}
use Rattle.lease_model.specs.client.Step.{Step}
use Rattle.lease_model.specs.client.Taken.{taken}
use Rattle.lease_model.specs.messages.FromBytes.{ask_found, lease_read, lease_wanted}
use Rattle.lease_model.specs.messages.Replies.{BreakNotice, CreateAnswer, LeaseGiven, Out, Reply}
use Rattle.lease_model.specs.messages.Requests.{CreateAsk, FileRequest, LeaseOf, Request}
use Rattle.lease_model.specs.messages.ToBytes.{lease_in_ask, view_of_ask}
use Rattle.lease_model.specs.records.Facts.{Fact}
use Rattle.lease_model.specs.server.Calls.{cut, expire, join, receive, scavenge}
use Rattle.lease_model.specs.server.Progress.{Progress}
use Rattle.lease_model.specs.server.Queries.{breaking, kept}
use Rattle.lease_model.specs.server.State.{has_file}
use Rattle.lease_model.specs.values.Tables.{put}
use Rattle.lease_model.specs.world.Events as first_events
use Rattle.lease_model.specs.world.Events.{Event}
use Rattle.lease_model.specs.world.World as first
use Rattle.lease_model.specs.world.World.{Link, Setup}
use Rattle.lease_wire_v2.specs.Names.{DurableView, ReconnectView, first_lease}
use Rattle.lease_wire_v2.specs.Views.{file_id_in, plain_lease}
use Rattle.client_versions.specs.Layer.{Layer}
use Rattle.client_versions.specs.World as second
use Rattle.client_versions.specs.World.{Added, RecordsAreThoseOfVersion1, SentReply, SentRequest, World, all_sent, answer_given}
use Rattle.client_versions.specs.World.{answer_sent, as_first, contexts_given, contexts_sent, lease_sent, reply_given, reply_sent}
use Rattle.client_versions.specs.World.{request_given, request_sent, strayed}
use Rattle.client_versions.proofs.Given.{asks_the_same}
use Rattle.client_versions.proofs.Numbers.{either}

-- ---- a message comes as it was

lease_asked : (lease : Option LeaseOf) → option_map lease_wanted (option_map lease_in_ask lease) ≡ lease
lease_asked None = refl
lease_asked (Some lease) = refl

abbrev ask_from : Bool → Option ℕ → Option LeaseOf → Option CreateAsk
ask_from durable reconnect lease = Some (record { lease = lease; durable = durable; reconnect = reconnect })

ask_back : (ask : CreateAsk) → ask_found (Ok (view_of_ask ask)) ≡ Some ask
ask_back ask = ap (ask_from ask.durable ask.reconnect) (lease_asked ask.lease)

first_lease_back : (lease : Option LeaseOf)
    → option_map lease_wanted (option_map plain_lease (option_map first_lease (option_map lease_in_ask lease))) ≡ lease
first_lease_back None = refl
first_lease_back (Some lease) = refl

first_durable_back : (durable : Bool) → is_some (if durable then Some DurableView.First else None) ≡ durable
first_durable_back true = refl
first_durable_back false = refl

first_id_back : (reconnect : Option ℕ) → option_map file_id_in (option_map ReconnectView.FirstId reconnect) ≡ reconnect
first_id_back None = refl
first_id_back (Some file_id) = refl

same_ask : (durable one : Bool) (reconnect other : Option ℕ) (lease same : Option LeaseOf) → durable ≡ one → reconnect ≡ other
    → lease ≡ same → ask_from durable reconnect lease ≡ ask_from one other same
same_ask durable one reconnect other lease same a b c = rw (a, b, c) refl

as_first_back : (ask : CreateAsk) → contexts_given (Some (as_first ask)) ≡ Some ask
as_first_back ask = same_ask _ ask.durable _ ask.reconnect _ ask.lease (first_durable_back ask.durable)
    (first_id_back ask.reconnect) (first_lease_back ask.lease)

module _ (added : Added) where
  contexts_back : (number : ℕ) (layer : Layer) (ask : CreateAsk)
      → contexts_given (Some (contexts_sent added number layer ask)) ≡ Some ask
  contexts_back number layer ask = either (ask.durable && is_some ask.reconnect)
      (λ both. rw both (as_first_back ask))
      (λ one. rw one (ap (λ view. ask_found (Ok view))
      (asks_the_same (added.parent number) (added.guid number) (view_of_ask ask) layer one) ∙ ask_back ask))

  all_contexts_back : (number : ℕ) (layer : Layer) (ask : Option CreateAsk)
      → contexts_given (option_map (contexts_sent added number layer) ask) ≡ ask
  all_contexts_back number layer None = refl
  all_contexts_back number layer (Some ask) = contexts_back number layer ask

  request_back : (number : ℕ) (layer : Layer) (request : Request)
      → request_given (request_sent added number layer request) ≡ request
  request_back number layer (Request.OnFile (FileRequest.Create file access share contexts)) =
      ap (λ ask. Request.OnFile (FileRequest.Create file access share ask)) (all_contexts_back number layer contexts)
  request_back number layer (Request.OnFile (FileRequest.Read file_id)) = refl
  request_back number layer (Request.OnFile (FileRequest.Write file_id write patch)) = refl
  request_back number layer (Request.OnFile (FileRequest.Close file_id)) = refl
  request_back number layer (Request.Acknowledge acknowledged) = refl

  all_back : (number : ℕ) (layer : Layer) (requests : List Request)
      → map request_given (all_sent added number layer requests) ≡ requests
  all_back number layer [] = refl
  all_back number layer (request ∷ requests) =
      ap₂ (λ one others. one ∷ others) (request_back number layer request) (all_back (number + 1) layer requests)

  strayed_contexts : (ask : Option CreateAsk) → contexts_given (option_map as_first ask) ≡ ask
  strayed_contexts None = refl
  strayed_contexts (Some ask) = as_first_back ask

  strayed_back : (request : Request) → request_given (strayed request) ≡ request
  strayed_back (Request.OnFile (FileRequest.Create file access share contexts)) =
      ap (λ ask. Request.OnFile (FileRequest.Create file access share ask)) (strayed_contexts contexts)
  strayed_back (Request.OnFile (FileRequest.Read file_id)) = refl
  strayed_back (Request.OnFile (FileRequest.Write file_id write patch)) = refl
  strayed_back (Request.OnFile (FileRequest.Close file_id)) = refl
  strayed_back (Request.Acknowledge acknowledged) = refl

  lease_back : (number : ℕ) (lease : Option LeaseGiven)
      → option_map lease_read (option_map plain_lease (option_map (lease_sent added number) lease)) ≡ lease
  lease_back number None = refl
  lease_back number (Some lease) = refl

  durable_back : (number : ℕ) (durable : Bool) → is_some (if durable then Some (added.durable number) else None) ≡ durable
  durable_back number true = refl
  durable_back number false = refl

  answer_back : (number : ℕ) (answer : Option CreateAnswer)
      → answer_given (option_map (answer_sent added number) answer) ≡ answer
  answer_back number None = refl
  answer_back number (Some answer) = ap₂ (λ lease durable. Some (made lease durable)) (lease_back number answer.lease)
      (durable_back number answer.durable)
    where
      made : Option LeaseGiven → Bool → CreateAnswer
      made lease durable = record { lease = lease; durable = durable }

  notice_back : (number : ℕ) (notice : Option BreakNotice)
      → option_map second.notice_given (option_map (second.notice_sent added number) notice) ≡ notice
  notice_back number None = refl
  notice_back number (Some notice) = refl

  reply_back : (number : ℕ) (reply : Reply) → reply_given (reply_sent added number reply) ≡ reply
  reply_back number (Reply.Created file file_id contexts) = ap (Reply.Created file file_id) (answer_back number contexts)
  reply_back number (Reply.CreateFailed file status) = refl
  reply_back number (Reply.ReadDone file_id bytes) = refl
  reply_back number (Reply.ReadFailed file_id status) = refl
  reply_back number (Reply.WriteDone file_id write) = refl
  reply_back number (Reply.WriteFailed file_id write status) = refl
  reply_back number (Reply.Closed file_id) = refl
  reply_back number (Reply.CloseFailed file_id status) = refl
  reply_back number (Reply.Break notice) = ap Reply.Break (notice_back number notice)
  reply_back number (Reply.AckDone response) = refl
  reply_back number (Reply.AckFailed status) = refl

-- ---- tables of queues

mapped_put : {X Y : Type 0} (change : X → Y) (table : ℕ → List X) (place : ℕ) (queue : List X)
    → (λ client. map change (put table place queue client)) ≡ put (λ client. map change (table client)) place (map change queue)
unfolding put
mapped_put change table place queue = fun_ext (λ client. either (client == place) (λ e. rw e refl) (λ e. rw e refl))

put_same : {X : Type 0} (table : ℕ → X) (place : ℕ) (one other : X) → one ≡ other → put table place one ≡ put table place other
put_same table place one other same = ap (put table place) same

-- ---- the world without what version 2 adds

abbrev plain : World → first.World
plain world = record {
  count = world.count;
  clients = world.clients;
  server = world.server;
  links = world.links;
  requests = λ client. map request_given (world.requests client);
  replies = λ client. map reply_given (world.replies client);
  past = world.past;
}

abbrev with_requests : first.World → (ℕ → List Request) → first.World
with_requests world requests = record world { requests = requests }

abbrev with_replies : first.World → (ℕ → List Reply) → first.World
with_replies world replies = record world { replies = replies }

module _ (added : Added) where
  delivered_plain : (world : World) (out : Out) → plain (second.delivered added world out) ≡ first.delivered (plain world) out
  delivered_plain world (Out.Sent client reply) = ap (with_replies (first.happened (plain world) (Fact.Sent client)))
      (mapped_put reply_given world.replies client (world.replies client ++ reply_sent added world.replied reply ∷ [])
      ∙ put_same (plain world).replies client _ _
      (map-append reply_given (world.replies client) (reply_sent added world.replied reply ∷ [])
      ∙ ap (λ one. map reply_given (world.replies client) ++ one ∷ []) (reply_back added world.replied reply)))
  delivered_plain world (Out.Opened file client) = refl
  delivered_plain world (Out.Changed file client number patch) = refl

  all_delivered_plain : (world : World) (outs : List Out)
      → plain (second.all_delivered added world outs) ≡ first.all_delivered (plain world) outs
  unfolding first.all_delivered
  all_delivered_plain world [] = refl
  all_delivered_plain world (out ∷ outs) = all_delivered_plain (second.delivered added world out) outs
      ∙ ap (λ next. first.all_delivered next outs) (delivered_plain world out)

  served_plain : (world : World) (progress : Progress)
      → plain (second.served added world progress) ≡ first_events.served (plain world) progress
  served_plain world progress = all_delivered_plain (record world { server = progress.server }) progress.outs

  over_plain : (link : Link) (queue sent : List SentRequest) (requests : List Request) → map request_given sent ≡ requests
      → map request_given (second.sent_over link queue sent) ≡ first.sent_over link (map request_given queue) requests
  over_plain Link.Up queue sent requests same =
      map-append request_given queue sent ∙ ap (λ more. map request_given queue ++ more) same
  over_plain Link.Down queue sent requests same = refl
  over_plain Link.Cut queue sent requests same = refl

  sent_plain : (world : World) (client : ℕ) (sent : List SentRequest) (requests : List Request)
      → map request_given sent ≡ requests
      → plain (second.requests_sent world client sent) ≡ first.requests_sent (plain world) client requests
  sent_plain world client sent requests same = ap (with_requests (plain world))
      (mapped_put request_given world.requests client
      (second.sent_over (world.links client) (world.requests client) sent)
      ∙ put_same (plain world).requests client _ _
      (over_plain (world.links client) (world.requests client) sent requests same))

  noted_plain : (world : World) (client : ℕ) (notes : List Note)
      → plain (second.noted world client notes) ≡ first.noted (plain world) client notes
  unfolding first.noted
  noted_plain world client [] = refl
  noted_plain world client (note ∷ notes) = noted_plain (second.happened world (first.fact_of client note)) client notes

  stepped_plain : (world : World) (client : ℕ) (step : Step)
      → plain (second.stepped_in added world client step) ≡ first_events.stepped_in (plain world) client step
  stepped_plain world client step =
      let sent = all_sent added world.asked (world.layers client) step.requests in
      let moved : World = record world { clients = put world.clients client step.client } in
      noted_plain (second.requests_sent moved client sent) client step.notes
      ∙ ap (λ next. first.noted next client step.notes)
      (sent_plain moved client sent step.requests (all_back added world.asked (world.layers client) step.requests))

  -- ---- events

  server_takes_plain : (world : World) (client : ℕ) (queue : List SentRequest)
      → plain (second.server_takes added world client queue)
      ≡ first_events.server_takes (plain world) client (map request_given queue)
  server_takes_plain world client [] = refl
  server_takes_plain world client (request ∷ queue) =
      let progress = receive world.server client (request_given request) in
      served_plain (record world { requests = put world.requests client queue }) progress
      ∙ ap (λ table. first_events.served (with_requests (plain world) table) progress)
      (mapped_put request_given world.requests client queue)

  client_takes_plain : (world : World) (client : ℕ) (queue : List SentReply)
      → plain (second.client_takes added world client queue)
      ≡ first_events.client_takes (plain world) client (map reply_given queue)
  client_takes_plain world client [] = refl
  client_takes_plain world client (reply ∷ queue) =
      let step = taken (world.clients client) (reply_given reply) in
      stepped_plain (second.reply_taken added world client reply queue) client step
      ∙ ap (λ table. first_events.stepped_in
      (first.happened (with_replies (plain world) table) (Fact.Took client)) client step)
      (mapped_put reply_given world.replies client queue)

  abbrev lost : World → ℕ → (ℕ → List Request) → (ℕ → List Reply) → first.World
  lost world client requests replies = first.happened (record (plain world) {
    links = put world.links client Link.Cut;
    requests = requests;
    replies = replies;
  }) (Fact.Dropped client)

  cut_plain : (world : World) (client : ℕ) (link : Link)
      → plain (second.cut_over added world client link) ≡ first_events.cut_over (plain world) client link
  cut_plain world client Link.Up = served_plain (second.all_lost world client) (cut world.server client)
      ∙ ap₂ (λ requests replies. first_events.served (lost world client requests replies) (cut world.server client))
      (mapped_put request_given world.requests client []) (mapped_put reply_given world.replies client [])
  cut_plain world client Link.Down = refl
  cut_plain world client Link.Cut = refl

  notice_plain : (world : World) (client : ℕ) (link : Link)
      → plain (second.notice_over added world client link) ≡ first_events.notice_over (plain world) client link
  notice_plain world client Link.Cut = stepped_plain (second.link_down world client) client (noticed (world.clients client))
  notice_plain world client Link.Up = refl
  notice_plain world client Link.Down = refl

  connect_plain : (world : World) (client : ℕ) (link : Link)
      → plain (second.connect_over added world client link) ≡ first_events.connect_over (plain world) client link
  connect_plain world client Link.Down =
      stepped_plain (second.served added (second.link_up world client) (join world.server client)) client
      (connection_made (world.clients client))
      ∙ ap (λ next. first_events.stepped_in next client (connection_made (world.clients client)))
      (served_plain (second.link_up world client) (join world.server client))
  connect_plain world client Link.Up = refl
  connect_plain world client Link.Cut = refl

  scavenged_plain : (world : World) (found : Option ℕ)
      → plain (second.scavenged added world found) ≡ first_events.scavenged (plain world) found
  scavenged_plain world None = refl
  scavenged_plain world (Some file_id) = served_plain world (scavenge world.server file_id)

  stray_plain : (world : World) (client : ℕ) (request : Request) (link : Link)
      → plain (second.strayed_over world client request link) ≡ first_events.strayed_over (plain world) client request link
  stray_plain world client request Link.Up = sent_plain (second.happened world (Fact.Strayed client)) client
      (strayed request ∷ []) (request ∷ []) (ap (λ one. one ∷ []) (strayed_back added request))
  stray_plain world client request Link.Down = refl
  stray_plain world client request Link.Cut = refl

  if_plain : (test : Bool) (one : World) (other same : first.World) (so : World) → plain one ≡ other → plain so ≡ same
      → plain (if test then one else so) ≡ (if test then other else same)
  if_plain true one other same so e f = e
  if_plain false one other same so e f = f

  expire_plain : (world : World) (client file : ℕ)
      → plain (second.applied added world (Event.Expire client file)) ≡ first_events.applied (plain world) (Event.Expire client file)
  expire_plain world client file =
      if_plain (has_file world.server file) _ _ (plain world) world
      (if_plain (breaking world.server (second.machine_key world client file)) _ _ (plain world) world
      (served_plain (second.happened world (Fact.Expired client file))
      (expire world.server (second.machine_key world client file))) refl) refl

  applied_plain : (world : World) (event : Event)
      → plain (second.applied added world event) ≡ first_events.applied (plain world) event
  applied_plain world (Event.App client command) = stepped_plain world client (commanded (world.clients client) command)
  applied_plain world (Event.ServerTakes client) = server_takes_plain world client (world.requests client)
  applied_plain world (Event.ClientTakes client) = client_takes_plain world client (world.replies client)
  applied_plain world (Event.Cut client) = cut_plain world client (world.links client)
  applied_plain world (Event.Notice client) = notice_plain world client (world.links client)
  applied_plain world (Event.Connect client) = connect_plain world client (world.links client)
  applied_plain world (Event.Expire client file) = expire_plain world client file
  applied_plain world (Event.Scavenge client file) = scavenged_plain world (kept world.server client file)
  applied_plain world (Event.Raw client request) = stray_plain world client request (world.links client)

  happens_plain : (world : World) (event : Event)
      → plain (second.happens added world event) ≡ first_events.happens (plain world) event
  happens_plain world event = if_plain (second.has_client world (first_events.client_of event)) _ _ (plain world) world
      (applied_plain world event) refl

  after_plain : (world : World) (events : List Event)
      → plain (second.after added world events) ≡ first_events.after (plain world) events
  unfolding first_events.after
  after_plain world [] = refl
  after_plain world (event ∷ events) = after_plain (second.happens added world event) events
      ∙ ap (λ next. first_events.after next events) (happens_plain world event)

  first_plain : (rules : Rules) (setup : Setup) → plain (second.first_world rules setup) ≡ first.first_world_under rules setup
  unfolding first.first_world_under
  first_plain rules setup = refl

abbrev told : first.World → List Fact
told world = reverse world.past

pub records_are_those_of_version_1 : RecordsAreThoseOfVersion1
records_are_those_of_version_1 added rules setup events = ap told
    (after_plain added (second.first_world rules setup) events
    ∙ ap (λ world. first_events.after world events) (first_plain added rules setup))
