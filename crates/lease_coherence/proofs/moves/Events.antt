-- What the moves of worlds keep, every event keeps.
use Rattle.lease_laws.proofs.Words.{◌∙◌, ◌∷◌, ◌≡◌, Bool, Call, ClientCall, Command, Event, Fact, IsOnline, IsSoundClient}
use Rattle.lease_laws.proofs.Words.{IsTied, Link, List, Progress, Reply, Request, Server, Setup, SmallStep, WaitsWell, World, ℕ}
use Rattle.lease_laws.proofs.Words.{[], ⊤, after, all_delivered, ap, begun, breaking, call_begun, called, client_called}
use Rattle.lease_laws.proofs.Words.{client_forgotten, commanded, connection_made, false, first_world_under, happened, has_file}
use Rattle.lease_laws.proofs.Words.{has_key, has_strayed, if◌then◌else◌, is_breaking, is_left_behind, is_lost, is_up, joined}
use Rattle.lease_laws.proofs.Words.{key_expired, list_any, machine_key, noticed, opens_disconnected, opens_dropped, own_steps}
use Rattle.lease_laws.proofs.Words.{put, receive, refl, requests_sent, served, stepped_in, steps_taken, subst, sym, taken, true}
use Rattle.lease_laws.proofs.Words.{Rules}
use Rattle.lease_laws.proofs.server.Lists.{if_cases}
use Rattle.lease_laws.proofs.server.Orderly.{IsFine}
use Rattle.lease_laws.proofs.server.StepCalls.{call_begun-silent, called-steps}
use Rattle.lease_laws.proofs.server.cases.Calls.{joins}
use Rattle.lease_laws.proofs.world.FileIds.{IsCounted, IsCountedWorld, counted_kept, first_counted}
use Rattle.lease_laws.proofs.world.Kept.{kept_forms}
use Rattle.lease_laws.proofs.world.cases.Events.{HasForms, IsTold, Keeps, KeepsWhere, both_forms, call_served, kept_by_run}
use Rattle.lease_laws.proofs.world.cases.Events.{link_lost, link_made}
use Rattle.lease_coherence.proofs.moves.Moves.{IsNext, moved, none_due, once_due, popped, rest_of, steps_keep}
pub use Rattle.lease_laws.proofs.world.cases.Events.{Both}

-- What is known at every point: the server is sound and in order, FileIds are as the record counts them, links
-- are as the server and the clients have them, and clients are sound.
pub record Ground (world : World) : Type 0 where
  pub fine : IsFine world.server
  pub counted : IsCounted world.past world.server
  pub tied : (client : ℕ) → IsTied world client
  pub online : (client : ℕ) → IsOnline world client
  pub clients : (client : ℕ) → IsSoundClient (world.clients client)

-- ---- moves that are no steps of the server

-- a connection is lost; requests that were held are tried after that
abbrev pub cut_begun : Server → ℕ → Server
cut_begun server client =
    (client_forgotten client (opens_disconnected client (opens_dropped (is_lost server client) (begun server)))).server

abbrev pub cut_off : World → ℕ → World
cut_off world client = record world {
  links = put world.links client Link.Cut;
  requests = put world.requests client [];
  replies = put world.replies client [];
  past = Fact.Dropped client ∷ world.past;
  server = cut_begun world.server client;
}

-- a timer runs out
abbrev pub timed_out : World → ℕ → ℕ → World
timed_out world client file = record world {
  past = Fact.Expired client file ∷ world.past;
  server = (key_expired (machine_key world client file)
      (opens_dropped (has_key (machine_key world client file)) (begun world.server))).server;
}

-- a durable open is closed
abbrev pub left_behind : World → ℕ → World
left_behind world file_id =
    record world { server = (opens_dropped (is_left_behind file_id) (begun world.server)).server }

-- a client is joined
abbrev pub come_back : World → ℕ → World
come_back world client = record world {
  links = put world.links client Link.Up;
  past = Fact.Joined client ∷ world.past;
  server = (joined client (begun world.server)).server;
}

-- it connects
abbrev pub connected : World → ℕ → World
connected world client = stepped_in (come_back world client) client (connection_made (world.clients client))

-- a client takes a reply
abbrev pub reply_gone : World → ℕ → List Reply → World
reply_gone world client queue = happened (record world { replies = put world.replies client queue }) (Fact.Took client)

abbrev pub reply_taken : World → ℕ → Reply → List Reply → World
reply_taken world client reply queue = stepped_in (reply_gone world client queue) client (taken (world.clients client) reply)

-- a client notices that its connection is lost
abbrev pub noticed_by : World → ℕ → World
noticed_by world client =
    stepped_in (record world { links = put world.links client Link.Down }) client (noticed (world.clients client))

-- a request is sent in the name of a client that has strayed
abbrev pub strayed : World → ℕ → Request → World
strayed world client request = requests_sent world client (request ∷ [])

-- ---- any move

pub data Move : Type 0 where
  Told : (client : ℕ) (fact : Fact) → Move
  Step : (step : SmallStep) → Move
  Cut : (client : ℕ) → Move
  Expire : (client file : ℕ) → Move
  Scavenge : (file_id : ℕ) → Move
  Connect : (client : ℕ) → Move
  Commanded : (client : ℕ) (command : Command) → Move
  Take : (client : ℕ) (reply : Reply) (queue : List Reply) → Move
  Notice : (client : ℕ) → Move
  Stray : (client : ℕ) (request : Request) → Move

abbrev pub MayMove : World → Move → Type 0
MayMove world (Move.Told client fact) = IsTold client fact
MayMove world (Move.Step step) = IsNext world step
MayMove world (Move.Cut client) = world.links client ≡ Link.Up
MayMove world (Move.Expire client file) =
    (has_file world.server file ≡ true) × (breaking world.server (machine_key world client file) ≡ true)
MayMove world (Move.Connect client) = world.links client ≡ Link.Down
MayMove world (Move.Take client reply queue) = world.replies client ≡ reply ∷ queue
MayMove world (Move.Notice client) = world.links client ≡ Link.Cut
MayMove world (Move.Stray client request) = (world.links client ≡ Link.Up) × (has_strayed client world.past ≡ true)
MayMove world move = ⊤

abbrev pub moved_by : World → Move → World
moved_by world (Move.Told client fact) = happened world fact
moved_by world (Move.Step step) = moved world step
moved_by world (Move.Cut client) = cut_off world client
moved_by world (Move.Expire client file) = timed_out world client file
moved_by world (Move.Scavenge file_id) = left_behind world file_id
moved_by world (Move.Connect client) = connected world client
moved_by world (Move.Commanded client command) = stepped_in world client (commanded (world.clients client) command)
moved_by world (Move.Take client reply queue) = reply_taken world client reply queue
moved_by world (Move.Notice client) = noticed_by world client
moved_by world (Move.Stray client request) = strayed world client request

-- P is kept wherever V is known
abbrev pub IsMoved : (World → Type 0) → (World → Type 0) → Type 0
IsMoved V P = (world : World) (move : Move) → MayMove world move → V world → P world → P (moved_by world move)

-- what is kept where it is known itself
abbrev pub IsCarried : (World → Type 0) → Type 0
IsCarried V = (world : World) (move : Move) → MayMove world move → V world → V (moved_by world move)

-- ---- one after the other

pub carried_both : (V P : World → Type 0) → IsCarried V → IsMoved V P → IsCarried (Both V P)
carried_both V P v p world move may both = (v world move may both.0, p world move may both.0 both.1)

-- ---- calls

-- nothing was given out
nothing_given : (world : World) (progress : Progress) → progress.outs ≡ []
    → served world progress ≡ record world { server = progress.server }
unfolding all_delivered
nothing_given world progress e = ap (λ outs. all_delivered (record world { server = progress.server }) outs) e

-- a call that takes no request
quiet_call : (V : World → Type 0) → IsCarried V → (world : World) (call : Call) → IsFine world.server
    → WaitsWell world.server → ((request : Request) (client : ℕ) → call ≡ Call.Receive client request → ⊥)
    → V (record world { server = (call_begun world.server call).server }) → V (served world (called world.server call))
quiet_call V k world call f w other v = go call other v
  where
    from : (c : Call) → own_steps world.server c ≡ 0 → V (record world { server = (call_begun world.server c).server })
        → V (served world (called world.server c))
    from c none v =
        let go = called-steps world.server c f.sound w in
        let due = none_due go.steps world (go.are_own ∙ none) in
        subst (λ p. V (served world p)) (sym go.lead)
        (subst (λ b. V (served b (steps_taken go.steps (call_begun world.server c)))) due.1
        (steps_keep V (λ u step x next. k u (Move.Step step) next x) go.steps world (call_begun world.server c)
        go.are_guarded go.are_in_turn due.0
        (subst V (sym (nothing_given world (call_begun world.server c) (call_begun-silent world.server c))) v)))

    go : (c : Call) → ((request : Request) (client : ℕ) → c ≡ Call.Receive client request → ⊥)
        → V (record world { server = (call_begun world.server c).server }) → V (served world (called world.server c))
    go (Call.Receive client request) other v = absurd (other request client refl)
    go call other v = from call refl v

-- the server takes the oldest request of a client that is there
request_call : (V : World → Type 0) → IsCarried V → (world : World) (client : ℕ) (request : Request)
    (queue : List Request) → IsFine world.server → WaitsWell world.server → world.server.present client ≡ true
    → world.requests client ≡ request ∷ queue → V world
    → V (served (record world { requests = put world.requests client queue }) (receive world.server client request))
unfolding all_delivered
request_call V k world client request queue f w up first v =
    let call = Call.Receive client request in
    let go = called-steps world.server call f.sound w in
    let due = once_due go.steps world client request queue go.are_of (go.are_own ∙ ap (λ b. if b then 1 else 0) up) first in
    subst (λ (q : List Request). V (served (record world { requests = put world.requests client q })
    (receive world.server client request))) (ap (λ (q : List Request). rest_of q) first)
    (subst (λ p. V (served (popped world client) p)) (sym go.lead)
    (subst (λ b. V (served b (steps_taken go.steps (begun world.server)))) due.1
    (steps_keep V (λ u step x next. k u (Move.Step step) next x) go.steps world (begun world.server)
    go.are_guarded go.are_in_turn due.0 v)))

-- ---- events

-- a choice that was made
pub chosen : {X : Type 0} (b : Bool) (x y : X) → b ≡ true → (if b then x else y) ≡ x
chosen true x y e = refl
chosen false x y e = let c : ⊥ = cc in absurd c

pub not_chosen : {X : Type 0} (b : Bool) (x y : X) → b ≡ false → (if b then x else y) ≡ y
not_chosen true x y e = let c : ⊥ = cc in absurd c
not_chosen false x y e = refl

-- a client whose queue holds a request is up
asks_up : (world : World) (client : ℕ) (request : Request) (queue : List Request) → Ground world
    → world.requests client ≡ request ∷ queue → world.server.present client ≡ true
asks_up world client request queue g first = (g.tied client).present ∙ is_linked (is_up (world.links client)) refl
  where
    never : {X : Type 0} (x : X) (xs : List X) → (x ∷ xs) ≡ [] → ⊥
    never x xs e = cc

    is_linked : (b : Bool) → is_up (world.links client) ≡ b → is_up (world.links client) ≡ true
    is_linked true up = up
    is_linked false down = absurd (never request queue (sym first ∙ (g.tied client).requests down))

-- what calls begin with
cut_moves : (V : World → Type 0) → IsCarried V → (world : World) (client : ℕ) → Ground world → WaitsWell world.server
    → world.links client ≡ Link.Up → V world → V (call_served (link_lost world client) (Call.Cut client))
cut_moves V k world client g w up v =
    quiet_call V k (link_lost world client) (Call.Cut client) g.fine w (λ request c never. absurd (cc))
    (subst (λ (s : Server). V (record (link_lost world client) { server = s }))
    (sym (ap (λ (p : Progress). p.server) (chosen (world.server.present client) _ (begun world.server)
    ((g.tied client).present ∙ ap is_up up)))) (k world (Move.Cut client) up v))

connect_moves : (V : World → Type 0) → IsCarried V → (world : World) (client : ℕ) → Ground world
    → world.links client ≡ Link.Down → V world → V (stepped_in (call_served (link_made world client) (Call.Join client)) client
    (client_called (world.clients client) ClientCall.Connected))
unfolding all_delivered
connect_moves V k world client g down v =
    subst (λ (p : Progress). V (stepped_in (served (link_made world client) p) client (connection_made (world.clients client))))
    (sym (joins world.server client ((g.tied client).present ∙ ap is_up down))) (k world (Move.Connect client) down v)

timer_moves : (V : World → Type 0) → IsCarried V → (world : World) (client file : ℕ) → Ground world → WaitsWell world.server
    → has_file world.server file ≡ true → breaking world.server (machine_key world client file) ≡ true → V world
    → V (call_served (happened world (Fact.Expired client file)) (Call.Expire (machine_key world client file)))
timer_moves V k world client file g w on breaks v =
    let key = machine_key world client file in
    quiet_call V k (happened world (Fact.Expired client file)) (Call.Expire key) g.fine w
    (λ request c never. absurd (cc))
    (subst (λ (s : Server). V (record (happened world (Fact.Expired client file)) { server = s }))
    (sym (ap (λ (p : Progress). p.server) (chosen (is_breaking (world.server.leases key)) _ (begun world.server) breaks)))
    (k world (Move.Expire client file) (on, breaks) v))

scavenge_moves : (V : World → Type 0) → IsCarried V → (world : World) (file_id : ℕ) → Ground world → WaitsWell world.server
    → V world → V (call_served world (Call.Scavenge file_id))
scavenge_moves V k world file_id g w v =
    quiet_call V k world (Call.Scavenge file_id) g.fine w (λ request c never. absurd (cc))
    (if_cases (λ p. V (record world { server = p.server })) (list_any (is_left_behind file_id) world.server.opens)
    (opens_dropped (is_left_behind file_id) (begun world.server)) (begun world.server)
    (λ there. k world (Move.Scavenge file_id) tt v) (λ gone. v))

-- every form is moves
moved_forms : (V : World → Type 0) → ((world : World) → V world → Ground world) → IsCarried V
    → HasForms (KeepsWhere IsCountedWorld V)
moved_forms V ground k = record {
  told = λ world client fact some is c n v. k world (Move.Told client fact) is v;
  command = λ world client command some c n v. k world (Move.Commanded client command) tt v;
  request = λ world client request queue some first c n v. request_call V k world client request queue (ground world v).fine
      c.waits (asks_up world client request queue (ground world v) first) first v;
  reply = λ world client reply queue some first c n v. k world (Move.Take client reply queue) first v;
  cut = λ world client some up c n v. cut_moves V k world client (ground world v) c.waits up v;
  notice = λ world client some cut c n v. k world (Move.Notice client) cut v;
  connect = λ world client some down c n v. connect_moves V k world client (ground world v) down v;
  timer = λ world client file some on breaks c n v.
      timer_moves V k world client file (ground world v) c.waits on breaks v;
  scavenge = λ world file_id c n v. scavenge_moves V k world file_id (ground world v) c.waits v;
  stray = λ world client request some up has c n v. k world (Move.Stray client request) (up, has) v;
}

-- what the moves keep, every event keeps
pub carried_forms : (V : World → Type 0) → ((world : World) → V world → Ground world) → IsCarried V
    → HasForms (Keeps (Both IsCountedWorld V))
carried_forms V ground k =
    both_forms IsCountedWorld V (kept_forms IsCountedWorld counted_kept) (moved_forms V ground k)

-- from any point of a run
pub after_moves : (V : World → Type 0) → ((world : World) → V world → Ground world) → IsCarried V
    → (world : World) (events : List Event) → IsCountedWorld world → V world → V (after world events)
after_moves V ground k world events c v =
    (kept_by_run (Both IsCountedWorld V) (carried_forms V ground k) world events (c, v)).1

-- what the moves keep, every run has
pub runs_have : (V : World → Type 0) → ((world : World) → V world → Ground world) → IsCarried V
    → (rules : Rules) (setup : Setup) → V (first_world_under rules setup) → (events : List Event)
    → V (after (first_world_under rules setup) events)
runs_have V ground k rules setup v events = after_moves V ground k (first_world_under rules setup) events
    (first_counted rules setup) v
