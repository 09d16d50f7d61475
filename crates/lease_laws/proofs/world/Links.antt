-- Links, queues and connections in every run, and what the record says of them.
use Rattle.lease_laws.proofs.Words.{◌++◌, ◌+◌, ◌==◌, ◌∙◌, ◌∷◌, ◌≡◌, ◌≢◌, Call, Client, ClientCall, EachOut, Fact, IsOnline}
use Rattle.lease_laws.proofs.Words.{IsSound, IsTied, IsToPresent, Link, LinksOfRuns, List, Note, Out, Progress, Reply, Request}
use Rattle.lease_laws.proofs.Words.{Server, Setup, Step, WaitsWell, World, ℕ, ⊤, [], all_delivered, ap, arith, called}
use Rattle.lease_laws.proofs.Words.{client_called, connection_made, cut, delivered, eq-eqb, fact_of, false, first_world_under, happened}
use Rattle.lease_laws.proofs.Words.{is_down, is_served, is_start, is_up, join, length, length-append, list_all, machine_key}
use Rattle.lease_laws.proofs.Words.{new_client, new_server_under, not, noted, put, refl, requests_sent, reverse, sendings}
use Rattle.lease_laws.proofs.Words.{sent_over, served, starts_from, stepped_in, subst, sym, takings, true, true≢false}
use Rattle.lease_laws.proofs.Words.{Rules}
use Rattle.lease_laws.proofs.client.Forms.{commanded-stays, taken-stays}
use Rattle.lease_laws.proofs.client.Thin.{put_same, put_other}
use Rattle.lease_laws.proofs.records.Runs.{all_starts, all_reversed}
use Rattle.lease_laws.proofs.server.Calls.{new_server-sound, called-sound}
use Rattle.lease_laws.proofs.server.Lists.{clash}
use Rattle.lease_laws.proofs.server.Presence.{IsAmong, called_present, begun_present, join_present, cut_present}
use Rattle.lease_laws.proofs.server.StepOuts.{replies-find}
use Rattle.lease_laws.proofs.server.WaitCalls.{first-waits-well, called-waits-well}
use Rattle.lease_laws.proofs.world.Kept.{served-server, served-clients}
use Rattle.lease_laws.proofs.world.Runs.{stepped_server, stepped_clients}
use Rattle.lease_laws.proofs.world.cases.Events.{HasForms, IsTold, Keeps, call_served, kept_by_run, link_lost, link_made}

-- ---- one client, and the others

pub by_client : (P : ℕ → Type 0) (client c : ℕ) → P client → (c ≢ client → (client == c) ≡ false → P c) → P c
by_client P client c here there = grind arith

-- where nothing of a client changes it stays tied
pub carried : (world new : World) (c : ℕ) → new.server.present c ≡ world.server.present c
    → new.links c ≡ world.links c → new.requests c ≡ world.requests c → new.replies c ≡ world.replies c
    → is_served c new.past ≡ is_served c world.past → sendings c new.past ≡ sendings c world.past
    → takings c new.past ≡ takings c world.past → IsTied world c → IsTied new c
carried world new c present links requests replies served sent took t = grind arith

-- ---- outs

-- a reply that goes to a client whose link is up
abbrev Reaches : World → Out → Type 0
Reaches world (Out.Sent client reply) = is_up (world.links client) ≡ true
Reaches world out = ⊤

one_more : {X : Type 0} (xs : List X) (x : X) → length (xs ++ x ∷ []) ≡ length xs + 1
one_more xs x = length-append xs (x ∷ [])

delivered_tied : (world : World) (out : Out) → Reaches world out → ((c : ℕ) → IsTied world c)
    → (c : ℕ) → IsTied (delivered world out) c
unfolding is_served sendings takings
delivered_tied world (Out.Sent client reply) up tied c = by_client (IsTied (delivered world (Out.Sent client reply))) client c
    (let t = tied client in record {
      present = t.present;
      requests = t.requests;
      replies = λ down. clash (is_up (world.links client)) up down;
      served = t.served;
      counted = λ u. rw (
        eq-eqb client client refl,
        one_more (sendings client world.past) world.past,
        put_same world.replies client (world.replies client ++ reply ∷ []),
        one_more (world.replies client) reply,
        t.counted u,
      ) (omega arith);
    })
    (λ ne apart. carried world (delivered world (Out.Sent client reply)) c refl refl refl
    (put_other world.replies client _ c ne) refl (rw (apart) refl) refl (tied c))
delivered_tied world (Out.Opened file client) up tied c =
    carried world (happened world (Fact.Opened file client)) c refl refl refl refl refl refl refl (tied c)
delivered_tied world (Out.Changed file client number patch) up tied c =
    carried world (happened world (Fact.Changed file client number patch)) c refl refl refl refl refl refl refl (tied c)

-- outs that reach their clients
reaching : (world : World) (server : Server) → ((c : ℕ) → server.present c ≡ is_up (world.links c)) → (out : Out)
    → IsToPresent server out → Reaches world out
reaching world server same out to = grind arith

delivered_links : (world : World) (out : Out) → (delivered world out).links ≡ world.links
delivered_links world out = grind arith

pub outs_links : (world : World) (outs : List Out) → (all_delivered world outs).links ≡ world.links
unfolding all_delivered
outs_links world [] = refl
outs_links world (out ∷ outs) = outs_links (delivered world out) outs ∙ delivered_links world out

pub served_links : (world : World) (progress : Progress) → (served world progress).links ≡ world.links
served_links world progress = outs_links (record world { server = progress.server }) progress.outs

pub all_tied : (world : World) (server : Server) (outs : List Out)
    → ((c : ℕ) → server.present c ≡ is_up (world.links c)) → EachOut (IsToPresent server) outs
    → ((c : ℕ) → IsTied world c) → (c : ℕ) → IsTied (all_delivered world outs) c
unfolding all_delivered
all_tied world server [] same each tied c = tied c
all_tied world server (out ∷ outs) same each tied c = all_tied (delivered world out) server outs
    (λ d. same d ∙ ap (λ (t : ℕ → Link). is_up (t d)) (sym (delivered_links world out))) each.1
    (delivered_tied world out (reaching world server same out each.0) tied) c

-- ---- calls of the server

-- once the server has gone on, its outs are delivered
served_tied : (world : World) (call : Call) → IsSound world.server → WaitsWell world.server
    → ((c : ℕ) → IsTied (record world { server = (called world.server call).server }) c)
    → (c : ℕ) → IsTied (served world (called world.server call)) c
served_tied world call s w tied c =
    all_tied (record world { server = (called world.server call).server }) (called world.server call).server
    (called world.server call).outs (λ d. (tied d).present) (replies-find world.server call s w) tied c

-- a call that changes no connection
plain_call_tied : (world : World) (call : Call) → IsAmong call → IsSound world.server → WaitsWell world.server
    → ((c : ℕ) → IsTied world c) → (c : ℕ) → IsTied (served world (called world.server call)) c
plain_call_tied world call among s w tied c = served_tied world call s w
    (λ d. carried world (record world { server = (called world.server call).server }) d
    (called_present world.server call s w d ∙ begun_present world.server call among d) refl refl refl refl refl refl (tied d)) c

-- ---- steps of a client

note_tied : (world : World) (client : ℕ) (note : Note) (c : ℕ) → IsTied world c → IsTied (happened world (fact_of client note)) c
unfolding is_served sendings takings
note_tied world client note c t = grind arith

noted_tied : (world : World) (client : ℕ) (notes : List Note) (c : ℕ) → IsTied world c → IsTied (noted world client notes) c
unfolding noted
noted_tied world client [] c t = t
noted_tied world client (note ∷ notes) c t =
    noted_tied (happened world (fact_of client note)) client notes c (note_tied world client note c t)

noted_links : (world : World) (client : ℕ) (notes : List Note) → (noted world client notes).links ≡ world.links
unfolding noted
noted_links world client [] = refl
noted_links world client (note ∷ notes) = noted_links (happened world (fact_of client note)) client notes

-- over a link that isn't up nothing is sent
sent_idle : (link : Link) (queue requests : List Request) → (is_up link ≡ false → queue ≡ [])
    → is_up link ≡ false → sent_over link queue requests ≡ []
sent_idle link queue requests idle e = grind arith

pub sent_tied : (world : World) (client : ℕ) (requests : List Request) (c : ℕ) → IsTied world c
    → IsTied (requests_sent world client requests) c
sent_tied world client requests c t = by_client (λ d. IsTied world d → IsTied (requests_sent world client requests) d) client c
    (λ u. record {
      present = u.present;
      requests = λ down. put_same world.requests client _
          ∙ sent_idle (world.links client) (world.requests client) requests u.requests down;
      replies = u.replies;
      served = u.served;
      counted = u.counted;
    })
    (λ ne apart u. carried world (requests_sent world client requests) c refl refl
    (put_other world.requests client _ c ne) refl refl refl refl u) t

pub stepped_tied : (world : World) (client : ℕ) (step : Step) → ((c : ℕ) → IsTied world c) → (c : ℕ)
    → IsTied (stepped_in world client step) c
stepped_tied world client step tied c =
    let new : World = record world { clients = put world.clients client step.client } in
    noted_tied (requests_sent new client step.requests) client step.notes c
    (sent_tied new client step.requests c (carried world new c refl refl refl refl refl refl refl (tied c)))

pub stepped_links : (world : World) (client : ℕ) (step : Step) → (stepped_in world client step).links ≡ world.links
stepped_links world client step = noted_links
    (requests_sent (record world { clients = put world.clients client step.client }) client step.requests) client step.notes

-- the client that steps is online as its link says, and so are the others
pub stepped_online : (world : World) (client : ℕ) (step : Step) → step.client.is_online ≡ not (is_down (world.links client))
    → ((c : ℕ) → c ≢ client → IsOnline world c) → (c : ℕ) → IsOnline (stepped_in world client step) c
stepped_online world client step here there c = by_client (IsOnline (stepped_in world client step)) client c
    (ap (λ (t : ℕ → Client). (t client).is_online) (stepped_clients world client step)
    ∙ ap (λ (x : Client). x.is_online) (put_same world.clients client step.client) ∙ here
    ∙ ap (λ (t : ℕ → Link). not (is_down (t client))) (sym (stepped_links world client step)))
    (λ ne apart. ap (λ (t : ℕ → Client). (t c).is_online) (stepped_clients world client step)
    ∙ ap (λ (x : Client). x.is_online) (put_other world.clients client step.client c ne) ∙ there c ne
    ∙ ap (λ (t : ℕ → Link). not (is_down (t c))) (sym (stepped_links world client step)))

-- ---- links that change

-- a link that isn't up becomes another one that isn't
pub relinked : (world : World) (client : ℕ) (link : Link) → is_up (world.links client) ≡ false → is_up link ≡ false
    → ((c : ℕ) → IsTied world c) → (c : ℕ) → IsTied (record world { links = put world.links client link }) c
relinked world client link down idle tied c = by_client (IsTied (record world { links = put world.links client link })) client c
    (let t = tied client in record {
      present = t.present ∙ down ∙ sym idle ∙ sym (ap is_up (put_same world.links client link));
      requests = λ d. t.requests down;
      replies = λ d. t.replies down;
      served = λ s. clash (is_up (world.links client)) (t.served s) down;
      counted = λ up. clash (is_up link) (sym (ap is_up (put_same world.links client link)) ∙ up) idle;
    })
    (λ ne apart. carried world (record world { links = put world.links client link }) c refl
    (put_other world.links client link c ne) refl refl refl refl refl (tied c))

-- the world of a cut, before its outs are delivered
abbrev cut_off : World → ℕ → World
cut_off world client = record world {
  links = put world.links client Link.Cut;
  requests = put world.requests client [];
  replies = put world.replies client [];
  past = Fact.Dropped client ∷ world.past;
  server = (cut world.server client).server;
}

cut_tied : (world : World) (client : ℕ) → IsSound world.server → WaitsWell world.server
    → is_up (world.links client) ≡ true → ((c : ℕ) → IsTied world c) → (c : ℕ) → IsTied (cut_off world client) c
unfolding is_served sendings takings
cut_tied world client s w up tied c = by_client (IsTied (cut_off world client)) client c (record {
  present = gone client ∙ put_same world.server.present client false ∙ sym (ap is_up (put_same world.links client Link.Cut));
  requests = λ d. put_same world.requests client [];
  replies = λ d. put_same world.replies client [];
  served = λ t. clash (is_served client (Fact.Dropped client ∷ world.past)) t (rw (eq-eqb client client refl) refl);
  counted = λ u. clash (is_up (put world.links client Link.Cut client)) u (ap is_up (put_same world.links client Link.Cut));
})
    (λ ne apart. carried world (cut_off world client) c (gone c ∙ put_other world.server.present client false c ne)
    (put_other world.links client Link.Cut c ne) (put_other world.requests client [] c ne)
    (put_other world.replies client [] c ne) (rw (apart) refl) refl refl (tied c))
  where
    gone : (d : ℕ) → (cut world.server client).server.present d ≡ put world.server.present client false d
    gone d = called_present world.server (Call.Cut client) s w d ∙ cut_present world.server client ((tied client).present ∙ up) d

-- the world of a connect, before the client makes its step
abbrev come_back : World → ℕ → World
come_back world client = record world {
  links = put world.links client Link.Up;
  past = Fact.Joined client ∷ world.past;
  server = (join world.server client).server;
}

join_tied : (world : World) (client : ℕ) → IsSound world.server → WaitsWell world.server
    → is_up (world.links client) ≡ false → ((c : ℕ) → IsTied world c) → (c : ℕ) → IsTied (come_back world client) c
unfolding is_served sendings takings
join_tied world client s w down tied c = by_client (IsTied (come_back world client)) client c (record {
  present = here client ∙ put_same world.server.present client true ∙ sym (ap is_up (put_same world.links client Link.Up));
  requests = λ d. clash (is_up (put world.links client Link.Up client)) up d;
  replies = λ d. clash (is_up (put world.links client Link.Up client)) up d;
  served = λ t. up;
  counted = λ u. rw (eq-eqb client client refl, (tied client).replies down) refl;
})
    (λ ne apart. carried world (come_back world client) c (here c ∙ put_other world.server.present client true c ne)
    (put_other world.links client Link.Up c ne) refl refl (rw (apart) refl) (rw (apart) refl) (rw (apart) refl) (tied c))
  where
    up : is_up (put world.links client Link.Up client) ≡ true
    up = ap is_up (put_same world.links client Link.Up)

    here : (d : ℕ) → (join world.server client).server.present d ≡ put world.server.present client true d
    here d = called_present world.server (Call.Join client) s w d
        ∙ join_present world.server client ((tied client).present ∙ down) d

-- ---- worlds, event by event

pub record IsLinked (world : World) : Type 0 where
  pub sound : IsSound world.server
  pub waits : WaitsWell world.server
  pub tied : (c : ℕ) → IsTied world c
  pub online : (c : ℕ) → IsOnline world c

-- after a call that leaves all clients tied
called_linked : (world : World) (call : Call) → IsSound world.server → WaitsWell world.server
    → ((c : ℕ) → IsTied (served world (called world.server call)) c) → ((c : ℕ) → IsOnline world c)
    → IsLinked (served world (called world.server call))
called_linked world call s w tied online =
    let progress = called world.server call in record {
      sound = subst IsSound (sym (served-server world progress)) (called-sound world.server call s);
      waits = subst WaitsWell (sym (served-server world progress)) (called-waits-well world.server call s w);
      tied = tied;
      online = λ c. ap (λ (t : ℕ → Client). (t c).is_online) (served-clients world progress) ∙ online c
          ∙ ap (λ (t : ℕ → Link). not (is_down (t c))) (sym (served_links world progress));
    }

plain_linked : (world : World) (call : Call) → IsAmong call → IsLinked world → IsLinked (served world (called world.server call))
plain_linked world call among l = called_linked world call l.sound l.waits
    (plain_call_tied world call among l.sound l.waits l.tied) l.online

-- after a step of a client that is online as its link says
stepped_linked : (world : World) (client : ℕ) (step : Step) → IsSound world.server → WaitsWell world.server
    → ((c : ℕ) → IsTied world c) → step.client.is_online ≡ not (is_down (world.links client))
    → ((c : ℕ) → c ≢ client → IsOnline world c) → IsLinked (stepped_in world client step)
stepped_linked world client step s w tied here there = record {
  sound = subst IsSound (sym (stepped_server world client step)) s;
  waits = subst WaitsWell (sym (stepped_server world client step)) w;
  tied = stepped_tied world client step tied;
  online = stepped_online world client step here there;
}

not_empty : {X : Type 0} (x : X) (xs : List X) → (x ∷ xs) ≡ [] → ⊥
not_empty x xs e = cc

-- the server takes a request
taken_tied : (world : World) (client : ℕ) (request : Request) (queue : List Request)
    → world.requests client ≡ request ∷ queue → ((c : ℕ) → IsTied world c) → (c : ℕ)
    → IsTied (record world { requests = put world.requests client queue }) c
taken_tied world client request queue e tied c =
    by_client (IsTied (record world { requests = put world.requests client queue })) client c (let t = tied client in record {
      present = t.present;
      requests = λ down. absurd (not_empty request queue (sym e ∙ t.requests down));
      replies = t.replies;
      served = t.served;
      counted = t.counted;
    })
    (λ ne apart. carried world (record world { requests = put world.requests client queue }) c refl refl
    (put_other world.requests client queue c ne) refl refl refl refl (tied c))

-- a client takes a reply
abbrev reply_taken : World → ℕ → List Reply → World
reply_taken world client queue = happened (record world { replies = put world.replies client queue }) (Fact.Took client)

took_tied : (world : World) (client : ℕ) (reply : Reply) (queue : List Reply) → world.replies client ≡ reply ∷ queue
    → ((c : ℕ) → IsTied world c) → (c : ℕ) → IsTied (reply_taken world client queue) c
unfolding is_served sendings takings
took_tied world client reply queue e tied c = by_client (IsTied (reply_taken world client queue)) client c
    (let t = tied client in record {
      present = t.present;
      requests = t.requests;
      replies = λ down. absurd (not_empty reply queue (sym e ∙ t.replies down));
      served = t.served;
      counted = λ up. rw (eq-eqb client client refl, put_same world.replies client queue)
          (t.counted up ∙ ap (λ (q : List Reply). takings client world.past + length q) e ∙ (omega arith));
    })
    (λ ne apart. carried world (reply_taken world client queue) c refl refl refl
    (put_other world.replies client queue c ne) refl refl (rw (apart) refl) (tied c))

-- a client connects
connected_linked : (world : World) (client : ℕ) → is_up (world.links client) ≡ false → IsLinked world
    → IsLinked (stepped_in (call_served (link_made world client) (Call.Join client)) client
    (client_called (world.clients client) ClientCall.Connected))
connected_linked world client down l =
    let back : World = link_made world client in
    let progress = join world.server client in
    stepped_linked (served back progress) client (connection_made (world.clients client))
    (subst IsSound (sym (served-server back progress)) (called-sound world.server (Call.Join client) l.sound))
    (subst WaitsWell (sym (served-server back progress)) (called-waits-well world.server (Call.Join client) l.sound l.waits))
    (served_tied back (Call.Join client) l.sound l.waits (join_tied world client l.sound l.waits down l.tied))
    (sym (ap (λ (t : ℕ → Link). not (is_down (t client))) (served_links back progress)
    ∙ ap (λ k. not (is_down k)) (put_same world.links client Link.Up)))
    (λ c ne. ap (λ (t : ℕ → Client). (t c).is_online) (served-clients back progress) ∙ l.online c
    ∙ ap (λ k. not (is_down k)) (sym (put_other world.links client Link.Up c ne))
    ∙ ap (λ (t : ℕ → Link). not (is_down (t c))) (sym (served_links back progress)))

-- a timer runs out
expired_tied : (world : World) (client file c : ℕ) → IsTied world c → IsTied (happened world (Fact.Expired client file)) c
unfolding is_served sendings takings
expired_tied world client file c t = grind arith

-- a fact that stands alone
pub told_tied : (world : World) (client : ℕ) (fact : Fact) (c : ℕ) → IsTold client fact → IsTied world c
    → IsTied (happened world fact) c
unfolding is_served sendings takings
told_tied world client fact c is t = grind arith

-- ---- events

pub linked_forms : HasForms (Keeps IsLinked)
linked_forms = record {
  told = λ world client fact some is l. record {
    sound = l.sound;
    waits = l.waits;
    tied = λ c. told_tied world client fact c is (l.tied c);
    online = l.online;
  };
  command = λ world client command some l.
      stepped_linked world client (client_called (world.clients client) (ClientCall.Commanded command)) l.sound l.waits l.tied
      ((commanded-stays (world.clients client) command).online ∙ l.online client) (λ c ne. l.online c);
  request = λ world client request queue some first l.
      plain_linked (record world { requests = put world.requests client queue }) (Call.Receive client request) tt (record {
        sound = l.sound;
        waits = l.waits;
        tied = taken_tied world client request queue first l.tied;
        online = l.online;
      });
  reply = λ world client reply queue some first l. stepped_linked (reply_taken world client queue) client
      (client_called (world.clients client) (ClientCall.Taken reply)) l.sound l.waits
      (took_tied world client reply queue first l.tied) ((taken-stays (world.clients client) reply).online ∙ l.online client)
      (λ c ne. l.online c);
  cut = λ world client some up l. called_linked (link_lost world client) (Call.Cut client) l.sound l.waits
      (served_tied (link_lost world client) (Call.Cut client) l.sound l.waits
      (cut_tied world client l.sound l.waits (ap is_up up) l.tied))
      (λ c. by_client (IsOnline (link_lost world client)) client c (l.online client ∙ ap (λ k. not (is_down k)) up
      ∙ ap (λ k. not (is_down k)) (sym (put_same world.links client Link.Cut)))
      (λ ne apart. l.online c ∙ ap (λ k. not (is_down k)) (sym (put_other world.links client Link.Cut c ne))));
  notice = λ world client some cut l. stepped_linked (record world { links = put world.links client Link.Down }) client
      (client_called (world.clients client) ClientCall.Noticed) l.sound l.waits
      (relinked world client Link.Down (ap is_up cut) refl l.tied)
      (sym (ap (λ k. not (is_down k)) (put_same world.links client Link.Down)))
      (λ c ne. l.online c ∙ ap (λ k. not (is_down k)) (sym (put_other world.links client Link.Down c ne)));
  connect = λ world client some down l. connected_linked world client (ap is_up down) l;
  timer = λ world client file some on breaks l.
      plain_linked (happened world (Fact.Expired client file)) (Call.Expire (machine_key world client file)) tt (record {
        sound = l.sound;
        waits = l.waits;
        tied = λ c. expired_tied world client file c (l.tied c);
        online = l.online;
      });
  scavenge = λ world file_id l. plain_linked world (Call.Scavenge file_id) tt l;
  stray = λ world client request some up has l. record {
    sound = l.sound;
    waits = l.waits;
    tied = λ c. sent_tied world client (request ∷ []) c (l.tied c);
    online = l.online;
  };
}

-- ---- where runs begin

-- over starts alone nobody is served
starts_serve : (client : ℕ) (past : List Fact) → list_all is_start past ≡ true → is_served client past ≡ false
unfolding is_served
starts_serve client [] all = refl
starts_serve client (Fact.Start file bytes ∷ past) all = starts_serve client past all
starts_serve client (_ ∷ past) all = let c : ⊥ = cc in absurd c

pub first_linked : (rules : Rules) (setup : Setup) → IsLinked (first_world_under rules setup)
unfolding first_world_under new_server_under new_client
first_linked rules setup = record {
  sound = new_server-sound rules setup.files;
  waits = first-waits-well rules setup.files;
  tied = λ c. record {
    present = refl;
    requests = λ down. refl;
    replies = λ down. refl;
    served = λ s. clash (is_served c (reverse (starts_from 1 setup.files))) s
        (starts_serve c (reverse (starts_from 1 setup.files))
        (all_reversed (starts_from 1 setup.files) [] (all_starts 1 setup.files) refl));
    counted = λ up. absurd (true≢false (sym up));
  };
  online = λ c. refl;
}

pub links_of_runs : LinksOfRuns
links_of_runs rules setup events client =
    let l = kept_by_run IsLinked linked_forms (first_world_under rules setup) events (first_linked rules setup)
    in (l.tied client, l.online client)
