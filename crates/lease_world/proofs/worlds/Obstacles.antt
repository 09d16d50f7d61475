-- What stands in the way of events, by a world of the code.
use Rattle.lease_laws.proofs.Words.{◌&&◌, ◌++◌, ◌+◌, ◌<◌, ◌==◌, ◌∙◌, ◌∷◌, ◌≡◌, Bool, Event, Link, List, None, Option, Result}
use Rattle.lease_laws.proofs.Words.{Ok, Err, Some, World, ℕ, [], after, ap, append-nil, append_assoc, arith, client_of, false}
use Rattle.lease_laws.proofs.Words.{get_or}
use Rattle.lease_laws.proofs.Words.{happens, if◌then◌else◌, kept, length, length-map, length-reverse}
use Rattle.lease_laws.proofs.Words.{◌≤◌, map, map-append, nat_le, option_map, refl, request_of, reply_of, subst, suc, sym, take}
use Rattle.lease_laws.proofs.Words.{true, zero}
use Rattle.std.specs.Prelude.{IfOk}
use Rattle.lease_state.specs.declared.number.ClientNo.{ClientNo}
use Rattle.lease_state.specs.declared.number.FileNo.{FileNo}
use Rattle.lease_facts.specs.Facts.{fact_of}
use Rattle.lease_facts.specs.Setups.{event_of}
use Rattle.lease_facts.specs.declared.setup.Event as code_event
use Rattle.lease_world.specs.declared.obstacle.Idle as code_idle
use Rattle.lease_world.specs.declared.obstacle.Obstacle as code
use Rattle.lease_world.specs.world.Obstacles.{Obstacle, against_command, is_command, obstacle, obstacle_to, obstacle_meant}
use Rattle.lease_world.specs.world.Obstacles.{where_empty, where_none_kept}
use Rattle.lease_world.specs.world.Obstacles.{Idle, idle_by, idle_from, idle_meant, idle_noted, Meets, MeetsThere}
use Rattle.lease_world.specs.world.Seats.{Seat, no_seat, seat_in, IsPresent}
use Rattle.lease_world.specs.world.Stands.{CodeWorld, link_of, Stands}
use Rattle.lease_client.specs.Known.{client_of as client_of_known}
use Rattle.lease_client.specs.declared.values.command.Command as code_command
use Rattle.lease_laws.proofs.Words.{Answer, Command, commanded}
use Rattle.lease_facts.proofs.Places.{value_there}
use Rattle.lease_world.proofs.worlds.First.{next_event, take_all}
use Rattle.share_server.specs.Table.{server_of}

-- ---- by the link and the queues of a client

pub link_meets : (old : CodeWorld) (number : ℕ) (unless : ℕ → Link → Option Obstacle) (found : Option code.Obstacle)
    → IsPresent number old.seats → option_map obstacle_meant found ≡ unless number (link_of (seat_in old.seats number).link)
    → (world : World) → Stands old world → option_map obstacle_meant found ≡ unless number (world.links number)
link_meets old number unless found there is world s = is ∙ ap (unless number) (s.seats number there).link

by_count : {Message : Type 0} (found : Obstacle) (queue : List Message) (b : Bool) → (length queue == 0) ≡ b
    → (if b then Some found else None) ≡ where_empty found queue
by_count found [] true e = refl
by_count found [] false e = let c : ⊥ = cc in absurd c
by_count found (message ∷ queue) true e = absurd (never (length queue) e)
  where
    never : (n : ℕ) → (suc n == 0) ≡ true → ⊥
    never n e = grind arith
by_count found (message ∷ queue) false e = refl

queue_meets : {Code Message : Type 0} (f : Code → Message) (found : Obstacle) (mine : List Code) (queue : List Message) (b : Bool)
    → map f mine ≡ queue → b ≡ (length mine == 0) → (if b then Some found else None) ≡ where_empty found queue
queue_meets f found mine queue b same is = by_count found queue b
    (ap (λ (n : ℕ). n == 0) (ap length (sym same) ∙ length-map mine f) ∙ sym is)

pub requests_meet : (old : CodeWorld) (client : ClientNo) (b : Bool) → IsPresent client.0 old.seats
    → b ≡ (length (seat_in old.seats client.0).requests == 0) → (world : World) → Stands old world
    → (if b then Some (Obstacle.NoRequest client.0) else None) ≡ obstacle_to world (Event.ServerTakes client.0)
requests_meet old client b there is world s = queue_meets request_of (Obstacle.NoRequest client.0)
    (seat_in old.seats client.0).requests (world.requests client.0) b (s.seats client.0 there).requests is

pub replies_meet : (old : CodeWorld) (client : ClientNo) (b : Bool) → IsPresent client.0 old.seats
    → b ≡ (length (seat_in old.seats client.0).replies == 0) → (world : World) → Stands old world
    → (if b then Some (Obstacle.NoReply client.0) else None) ≡ obstacle_to world (Event.ClientTakes client.0)
replies_meet old client b there is world s = queue_meets reply_of (Obstacle.NoReply client.0)
    (seat_in old.seats client.0).replies (world.replies client.0) b (s.seats client.0 there).replies is

-- ---- by the server

pub kept_meets : (old : CodeWorld) (client : ClientNo) (file : FileNo) (found : Option code.Obstacle) (lowest : Option ℕ)
    → lowest ≡ kept (server_of old.server) client.0 file.0
    → option_map obstacle_meant found ≡ where_none_kept client.0 file.0 lowest
    → MeetsThere (Event.Scavenge client.0 file.0) old found
kept_meets old client file found lowest is so world s =
    so ∙ ap (where_none_kept client.0 file.0) (is ∙ ap (λ t. kept t client.0 file.0) s.server)

-- ---- any event

has_it : (old : CodeWorld) (number : ℕ) (b : Bool) → (nat_le 1 number && nat_le number (length old.seats)) ≡ b
    → (world : World) → Stands old world → (nat_le 1 number && nat_le number world.count) ≡ b
has_it old number b e world s = rw s.count e

pub nobody_meets : (old : CodeWorld) (client : ClientNo) (event : Event) → client.0 ≡ client_of event
    → (nat_le 1 client.0 && nat_le client.0 (length old.seats)) ≡ false
    → Meets event old (Some (code.TheVariants.NoClient client))
unfolding obstacle
nobody_meets old client event n e world s =
    let has : (nat_le 1 (client_of event) && nat_le (client_of event) world.count) ≡ false =
    subst (λ (m : ℕ). (nat_le 1 m && nat_le m world.count) ≡ false) n (has_it old client.0 false e world s) in
    rw has (ap (λ (m : ℕ). Some (Obstacle.NoClient m)) n)

pub somebody_meets : (old : CodeWorld) (number : ℕ) (event : Event) (found : Option code.Obstacle) → number ≡ client_of event
    → (nat_le 1 number && nat_le number (length old.seats)) ≡ true → MeetsThere event old found → Meets event old found
unfolding obstacle
somebody_meets old number event found n e meets world s =
    let has : (nat_le 1 (client_of event) && nat_le (client_of event) world.count) ≡ true =
    subst (λ (m : ℕ). (nat_le 1 m && nat_le m world.count) ≡ true) n (has_it old number true e world s) in
    rw has (meets world s)

pub command_meets : {E : Type 0} (result : Result (Option code.Obstacle) E) (old : CodeWorld) (number : ℕ) (event : Event)
    → number ≡ client_of event → (nat_le 1 number && nat_le number (length old.seats)) ≡ true
    → IfOk result (MeetsThere event old) → IfOk result (Meets event old)
command_meets (Ok found) old number event n e meets = somebody_meets old number event found n e meets
command_meets (Err failed) old number event n e meets = tt

-- ---- events of a run

idle_one_more : (place : ℕ) (first : World) (events : List Event) (event : Event)
    → idle_from place first (events ++ event ∷ []) ≡ idle_from place first events
    ++ idle_by (place + length events) (length (after first events).past) (obstacle (after first events) event)
unfolding idle_from after
idle_one_more place first [] event =
    let at : place + 0 ≡ place = omega arith in
    rw at (append-nil (idle_by place (length first.past) (obstacle first event)))
idle_one_more place first (e ∷ events) event =
    let at : (place + 1) + length events ≡ place + suc (length events) = omega arith in
    let here : List Idle = idle_by place (length first.past) (obstacle first e) in
    let last : World = after (happens first e) events in
    ap (λ (is : List Idle). here ++ is) (idle_one_more (place + 1) (happens first e) events event)
    ∙ (sym (append_assoc here (idle_from (place + 1) (happens first e) events)
    (idle_by ((place + 1) + length events) (length last.past) (obstacle last event)))
    ∙ ap (λ (n : ℕ). (here ++ idle_from (place + 1) (happens first e) events)
    ++ idle_by n (length last.past) (obstacle last event)) at)

noted_meant : (event facts : ℕ) (found : Option code.Obstacle)
    → map idle_meant (idle_noted event facts found) ≡ idle_by event facts (option_map obstacle_meant found)
noted_meant event facts None = refl
noted_meant event facts (Some found) = refl

pub facts_counted : (old : CodeWorld) (world : World) → Stands old world → length old.facts ≡ length world.past
facts_counted old world s = sym (length-map old.facts fact_of) ∙ (ap length s.facts ∙ length-reverse world.past)

length_taken : {X : Type 0} (xs : List X) (n : ℕ) → n < length xs → length (take n xs) ≡ n
length_taken [] n lt = absurd (omega arith)
length_taken (x ∷ xs) zero lt = refl
length_taken (x ∷ xs) (suc n) lt = ap suc (length_taken xs n (omega arith))

pub one_more_idle : (old : CodeWorld) (first : World) (events : List code_event.Event) (n : ℕ) (d : code_event.Event)
    (facts : ℕ) (found : Option code.Obstacle) (idle new : List code_idle.Idle) → n < length events
    → Stands old (after first (take n (map event_of events))) → facts ≡ length old.facts
    → Meets (event_of (get_or events n d)) old found → new ≡ idle ++ idle_noted n facts found
    → map idle_meant idle ≡ idle_from 0 first (take n (map event_of events))
    → map idle_meant new ≡ idle_from 0 first (take (n + 1) (map event_of events))
one_more_idle old first events n d facts found idle new lt stands count meets is so_far =
    let event : Event = event_of (get_or events n d) in
    let before : List Event = take n (map event_of events) in
    let next : take (n + 1) (map event_of events) ≡ before ++ event ∷ [] = next_event events n d lt in
    let last : World = after first before in
    let taken : length before ≡ n = length_taken (map event_of events) n (omega (arith, lt, length-map events event_of)) in
    let counted : n ≡ 0 + length before = omega (arith, taken) in
    let whole : facts ≡ length last.past = count ∙ facts_counted old last stands in
    ap (map idle_meant) is ∙ (map-append idle_meant idle (idle_noted n facts found)
    ∙ (ap (λ (is : List Idle). is ++ map idle_meant (idle_noted n facts found)) so_far
    ∙ (ap (λ (is : List Idle). idle_from 0 first before ++ is) (noted_meant n facts found
    ∙ (ap (λ (o : Option Obstacle). idle_by n facts o) (meets last stands)
    ∙ (ap (λ (m : ℕ). idle_by n m (obstacle last event)) whole
    ∙ ap (λ (m : ℕ). idle_by m (length last.past) (obstacle last event)) counted)))
    ∙ (sym (idle_one_more 0 first before event) ∙ ap (λ (es : List Event). idle_from 0 first es) (sym next)))))

pub no_idle : (first : World) (idle : List code_idle.Idle) (events : List Event) → idle ≡ []
    → map idle_meant idle ≡ idle_from 0 first (take 0 events)
unfolding idle_from
no_idle first idle events none = ap (map idle_meant) none

pub no_idle_left : (first : World) (idle : List code_idle.Idle) (events : List code_event.Event) (index : ℕ)
    → length events ≤ index → map idle_meant idle ≡ idle_from 0 first (take index (map event_of events))
    → map idle_meant idle ≡ idle_from 0 first (map event_of events)
no_idle_left first idle events index end so =
    so ∙ ap (λ (es : List Event). idle_from 0 first es)
    (take_all (map event_of events) index (omega (arith, end, length-map events event_of)))

-- ---- commands

seat_there : (seats : List Seat) (number place : ℕ) (seat : Seat) → place + 1 ≡ number → IsPresent number seats
    → seat ≡ get_or seats place seat → seat ≡ seat_in seats number
seat_there seats number place seat at there is =
    let next : suc place ≡ number = omega (arith, at) in
    subst (λ (n : ℕ). seat ≡ seat_in seats n) next (value_there no_seat seats place seat (omega (arith, at, there.1)) is)

pub command_met : (old : CodeWorld) (number place : ℕ) (seat : Seat) (command asked : Command) (answer : Answer)
    (found : Option code.Obstacle) → place + 1 ≡ number → IsPresent number old.seats → seat ≡ get_or old.seats place seat
    → asked ≡ command → answer ≡ (commanded (client_of_known seat.client) asked).answer
    → option_map obstacle_meant found ≡ against_command number command answer → MeetsThere (Event.App number command) old found
command_met old number place seat command asked answer found at there is same answered so world s =
    let seated = seat_there old.seats number place seat at there is in
    so ∙ (ap (against_command number command) (answered
    ∙ (ap (λ (c : Command). (commanded (client_of_known seat.client) c).answer) same
    ∙ (ap (λ (one : Seat). (commanded (client_of_known one.client) command).answer) seated
    ∙ ap (λ c. (commanded c command).answer) (s.seats number there).client))))

pub no_command : (event : code_event.Event)
    → ((client : ClientNo) (command : code_command.Command) → event ≡ code_event.TheVariants.App client command → ⊥)
    → is_command (event_of event) ≡ false
no_command (code_event.TheVariants.App client command) none = absurd (none client command refl)
no_command event none = refl
