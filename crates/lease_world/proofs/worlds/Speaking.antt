-- Each fact that speaks of a message has one: there are as many messages as such facts.
use Rattle.lease_laws.proofs.Words.{◌++◌, ◌+◌, ◌∙◌, ◌∷◌, ◌≡◌, Bool, Call, ClientCall, Event, Fact, Link, List, None, Note, Option}
use Rattle.lease_laws.proofs.Words.{Out, Progress, Reply, Request, Setup, Some, Step, World, ℕ, [], after, ap, applied, arith}
use Rattle.lease_laws.proofs.Words.{breaking, called, client_called, client_of, client_takes, connect_over, cut_over, fact_of}
use Rattle.lease_laws.proofs.Words.{false, first_world_under, happened, happens, has_client, has_file, if◌then◌else◌, kept, length}
use Rattle.lease_laws.proofs.Words.{length-append, length-map, machine_key, map}
use Rattle.lease_laws.proofs.Words.{notice_over, put, refl, reply_of, requests_sent, reverse, reverse-append, reverse-reverse}
use Rattle.lease_laws.proofs.Words.{scavenged, served, server_takes, starts_from, stepped_in, strayed_over, suc, sym}
use Rattle.lease_laws.proofs.Words.{timer_expired, true, Rules}
use Rattle.lease_model.specs.world.Events.{recorded_under}
use Rattle.lease_facts.specs.Facts.{fact_of as fact_told}
use Rattle.lease_facts.specs.declared.fact.Fact as code_fact
use Rattle.lease_state.specs.declared.reply.Reply as code_reply
use Rattle.lease_world.specs.world.Kept.{IfKept}
use Rattle.lease_world.specs.world.Messages.{sent_among, sent_by_oldest, oldest, sent_by_cut, sent_by_join, sent_by_scavenge}
use Rattle.lease_world.specs.world.Messages.{messages_of, messages_in, messages_from, messages_told_under, speaking}
use Rattle.lease_world.proofs.worlds.Delivered.{told, delivers, notes_told}
use Rattle.lease_world.proofs.worlds.Kept.{kept_so}

speaking_both : (xs ys : List Fact) → speaking (xs ++ ys) ≡ speaking xs + speaking ys
unfolding speaking
speaking_both [] ys = omega arith
speaking_both (fact ∷ xs) ys = let later = speaking_both xs ys in grind arith

-- as many facts of a world speak of a message
abbrev said : World → ℕ
said world = speaking (reverse world.past)

sent_speak : (outs : List Out) → speaking (map told outs) ≡ length (sent_among outs)
unfolding speaking
sent_speak [] = refl
sent_speak (Out.Sent client reply ∷ outs) = ap suc (sent_speak outs)
sent_speak (Out.Opened file client ∷ outs) = sent_speak outs
sent_speak (Out.Changed file client number patch ∷ outs) = sent_speak outs

notes_are_silent : (client : ℕ) (notes : List Note) → speaking (map (fact_of client) notes) ≡ 0
unfolding speaking
notes_are_silent client [] = refl
notes_are_silent client (Note.Settled a b ∷ notes) = notes_are_silent client notes
notes_are_silent client (Note.Wrote a b c d ∷ notes) = notes_are_silent client notes
notes_are_silent client (Note.Believes a b ∷ notes) = notes_are_silent client notes
notes_are_silent client (Note.CachedRead a b ∷ notes) = notes_are_silent client notes

happened_says : (world : World) (fact : Fact) → said (happened world fact) ≡ said world + speaking (fact ∷ [])
happened_says world fact = ap speaking (reverse-append (fact ∷ []) world.past) ∙ speaking_both (reverse world.past) (fact ∷ [])

served_says : (world : World) (progress : Progress)
    → said (served world progress) ≡ said world + length (sent_among progress.outs)
served_says world progress =
    let d = delivers (record world { server = progress.server }) progress.outs in
    ap speaking d.past ∙ (speaking_both (reverse world.past) (map told progress.outs)
    ∙ ap (λ (n : ℕ). said world + n) (sent_speak progress.outs))

stepped_says : (world : World) (client : ℕ) (step : Step) → said (stepped_in world client step) ≡ said world
stepped_says world client step =
    let n = notes_told (requests_sent (record world { clients = put world.clients client step.client }) client step.requests)
    client step.notes in
    ap speaking n.past ∙ (speaking_both (reverse world.past) (map (fact_of client) step.notes)
    ∙ omega (arith, notes_are_silent client step.notes))

server_says : (world : World) (client : ℕ) (queue : List Request)
    → said (server_takes world client queue) ≡ said world + length (sent_by_oldest world client queue)
server_says world client [] = omega arith
server_says world client (request ∷ queue) =
    served_says (record world { requests = put world.requests client queue }) (called world.server (Call.Receive client request))

client_says : (world : World) (client : ℕ) (queue : List Reply)
    → said (client_takes world client queue) ≡ said world + length (oldest queue)
unfolding speaking
client_says world client [] = omega arith
client_says world client (reply ∷ queue) =
    let next : World = record world { replies = put world.replies client queue } in
    stepped_says (happened next (Fact.Took client)) client (client_called (world.clients client) (ClientCall.Taken reply))
    ∙ happened_says next (Fact.Took client)

cut_says : (world : World) (client : ℕ) (link : Link)
    → said (cut_over world client link) ≡ said world + length (sent_by_cut world client link)
unfolding speaking
cut_says world client Link.Down = omega arith
cut_says world client Link.Cut = omega arith
cut_says world client Link.Up =
    let next : World = record world {
      links = put world.links client Link.Cut;
      requests = put world.requests client [];
      replies = put world.replies client [];
    } in
    served_says (happened next (Fact.Dropped client)) (called world.server (Call.Cut client))
    ∙ ap (λ (n : ℕ). n + length (sent_by_cut world client Link.Up)) (happened_says next (Fact.Dropped client) ∙ omega arith)

notice_says : (world : World) (client : ℕ) (link : Link) → said (notice_over world client link) ≡ said world
notice_says world client Link.Down = refl
notice_says world client Link.Up = refl
notice_says world client Link.Cut = stepped_says (record world { links = put world.links client Link.Down }) client
    (client_called (world.clients client) ClientCall.Noticed)

connect_says : (world : World) (client : ℕ) (link : Link)
    → said (connect_over world client link) ≡ said world + length (sent_by_join world client link)
unfolding speaking
connect_says world client Link.Up = omega arith
connect_says world client Link.Cut = omega arith
connect_says world client Link.Down =
    let next : World = record world { links = put world.links client Link.Up } in
    let up : World = happened next (Fact.Joined client) in
    stepped_says (served up (called world.server (Call.Join client))) client
    (client_called (world.clients client) ClientCall.Connected) ∙ (served_says up (called world.server (Call.Join client))
    ∙ ap (λ (n : ℕ). n + length (sent_by_join world client Link.Down)) (happened_says next (Fact.Joined client) ∙ omega arith))

scavenge_says : (world : World) (found : Option ℕ)
    → said (scavenged world found) ≡ said world + length (sent_by_scavenge world found)
scavenge_says world None = omega arith
scavenge_says world (Some file_id) = served_says world (called world.server (Call.Scavenge file_id))

expire_says : (world : World) (client file : ℕ) → said (timer_expired world client file)
    ≡ said world + length (sent_among (called world.server (Call.Expire (machine_key world client file))).outs)
unfolding speaking
expire_says world client file =
    let next : World = happened world (Fact.Expired client file) in
    let outs = (called world.server (Call.Expire (machine_key world client file))).outs in
    served_says next (called world.server (Call.Expire (machine_key world client file)))
    ∙ ap (λ (n : ℕ). n + length (sent_among outs)) (happened_says world (Fact.Expired client file) ∙ omega arith)

stray_says : (world : World) (client : ℕ) (request : Request) (link : Link)
    → said (strayed_over world client request link) ≡ said world
unfolding speaking
stray_says world client request Link.Down = refl
stray_says world client request Link.Cut = refl
stray_says world client request Link.Up = happened_says world (Fact.Strayed client) ∙ omega arith

if_says : (b c : Bool) (world other : World) (messages : List Reply) → said other ≡ said world + length messages
    → said (if b then (if c then other else world) else world)
    ≡ said world + length (if b then (if c then messages else []) else [])
if_says b c world other messages e = grind arith

applied_says : (world : World) (event : Event) → said (applied world event) ≡ said world + length (messages_of world event)
unfolding messages_of
applied_says world (Event.App client command) =
    stepped_says world client (client_called (world.clients client) (ClientCall.Commanded command)) ∙ omega arith
applied_says world (Event.ServerTakes client) = server_says world client (world.requests client)
applied_says world (Event.ClientTakes client) = client_says world client (world.replies client)
applied_says world (Event.Cut client) = cut_says world client (world.links client)
applied_says world (Event.Notice client) = notice_says world client (world.links client) ∙ omega arith
applied_says world (Event.Connect client) = connect_says world client (world.links client)
applied_says world (Event.Expire client file) =
    if_says (has_file world.server file) (breaking world.server (machine_key world client file)) world
    (timer_expired world client file) _ (expire_says world client file)
applied_says world (Event.Scavenge client file) = scavenge_says world (kept world.server client file)
applied_says world (Event.Raw client request) = stray_says world client request (world.links client) ∙ omega arith

happens_says : (world : World) (event : Event) → said (happens world event) ≡ said world + length (messages_in world event)
unfolding messages_in
happens_says world event = go (has_client world (client_of event))
  where
    go : (b : Bool) → said (if b then applied world event else world)
        ≡ said world + length (if b then messages_of world event else [])
    go true = applied_says world event
    go false = omega arith

after_says : (world : World) (events : List Event) → said (after world events) ≡ said world + length (messages_from world events)
unfolding after messages_from
after_says world [] = omega arith
after_says world (event ∷ events) =
    let rest = after_says (happens world event) events in
    let one = happens_says world event in
    omega (arith, rest, one, length-append (messages_in world event) (messages_from (happens world event) events))

starts_are_silent : (file : ℕ) (files : List (List ℕ)) → speaking (starts_from file files) ≡ 0
unfolding starts_from speaking
starts_are_silent file [] = refl
starts_are_silent file (bytes ∷ files) = starts_are_silent (file + 1) files

-- as many messages as facts that speak of one
pub each_has_one : (rules : Rules) (setup : Setup) (events : List Event) → speaking (recorded_under rules setup events)
    ≡ length (messages_told_under rules setup events)
unfolding first_world_under
each_has_one rules setup events = after_says (first_world_under rules setup) events
    ∙ (ap (λ (facts : List Fact). speaking facts + length (messages_told_under rules setup events))
    (reverse-reverse (starts_from 1 setup.files))
    ∙ (ap (λ (n : ℕ). n + length (messages_told_under rules setup events)) (starts_are_silent 1 setup.files) ∙ omega arith))

pub each_told : (facts : List code_fact.Fact) (replies : List code_reply.Reply) (rules : Rules) (setup : Setup)
    (events : List Event)
    → map fact_told facts ≡ recorded_under rules setup events → map reply_of replies ≡ messages_told_under rules setup events
    → speaking (map fact_told facts) ≡ length replies
each_told facts replies rules setup events same messages =
    ap speaking same ∙ (each_has_one rules setup events ∙ (ap length (sym messages) ∙ length-map replies reply_of))

-- the same, where they are kept
pub each_kept : (b : Bool) (facts : List code_fact.Fact) (replies : List code_reply.Reply) (rules : Rules) (setup : Setup)
    (events : List Event) → map fact_told facts ≡ recorded_under rules setup events
    → IfKept b replies (map reply_of replies ≡ messages_told_under rules setup events)
    → IfKept b replies (speaking (map fact_told facts) ≡ length replies)
each_kept b facts replies rules setup events same messages =
    kept_so b replies (map reply_of replies ≡ messages_told_under rules setup events)
    (speaking (map fact_told facts) ≡ length replies) messages (each_told facts replies rules setup events same)
