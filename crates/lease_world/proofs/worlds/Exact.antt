-- Something stands in the way of exactly those events that leave the world as it was.
use Rattle.lease_laws.proofs.Words.{◌+◌, ◌<◌, ◌∙◌, ◌∷◌, ◌≡◌, Bool, Client, Event, Fact, Link, List, None, Note, Option}
use Rattle.lease_laws.proofs.Words.{Progress, Reply, Request, Server, Some, Step, World, ℕ, [], ap, append-nil, applied}
use Rattle.lease_laws.proofs.Words.{arith, breaking, client_of, client_takes, connect_over, cut_over, false, fun_ext, happened}
use Rattle.lease_laws.proofs.Words.{has_client, has_file, if◌then◌else◌, kept, length, length-append, length-map}
use Rattle.lease_laws.proofs.Words.{length-reverse}
use Rattle.lease_laws.proofs.Words.{machine_key, map, nat_tests, noted, notice_over, put, refl, requests_sent, reverse}
use Rattle.lease_laws.proofs.Words.{scavenge, scavenged}
use Rattle.lease_laws.proofs.Words.{sent_over, served, server_takes, stepped_in, strayed_over, suc, sym, timer_expired, true}
use Rattle.lease_laws.proofs.Words.{is_some, Command, Answer, commanded, ap₂, cut, join, expire, receive, taken}
use Rattle.lease_laws.proofs.Words.{fact_of, noticed, connection_made, list_any, is_left_behind, ⊎_elim}
use Rattle.lease_laws.proofs.client.Beliefs.{refused-nothing}
use Rattle.lease_world.proofs.worlds.Commands.{command_moves, flush_done}
use Rattle.lease_world.proofs.worlds.Delivered.{delivers, notes_told, told}
use Rattle.lease_world.proofs.worlds.Scavenged.{kept_is_left, scavenged_leaves_none}
use Rattle.lease_world.specs.world.Obstacles.{Obstacle, obstacle, obstacle_to, against_command, where_empty, unless_up}
use Rattle.lease_world.specs.world.Obstacles.{unless_cut}
use Rattle.lease_world.specs.world.Obstacles.{unless_down, where_none_kept, ObstaclesAreExact, RefusalsAreNamed}

never : {P : Type 0} → false ≡ true → P
never e = let c : ⊥ = cc in absurd c

-- ---- what a world is made of after a step, and after outs

sent_nothing : (link : Link) (queue : List Request) → sent_over link queue [] ≡ queue
sent_nothing Link.Down queue = refl
sent_nothing Link.Up queue = append-nil queue
sent_nothing Link.Cut queue = refl

put_still : {X : Type 0} (table : ℕ → X) (n : ℕ) → put table n (table n) ≡ table
unfolding put
put_still table n = fun_ext (λ k. grind (arith, nat_tests))

put_here : {X : Type 0} (table : ℕ → X) (n : ℕ) (x : X) → put table n x n ≡ x
unfolding put
put_here table n x = grind (arith, nat_tests)

-- a step that changes nothing
no_step : (world : World) (client : ℕ) (answer : Answer) → stepped_in world client
    (record { client = world.clients client; answer = answer; requests = []; notes = [] }) ≡ world
unfolding noted
no_step world client answer = ap₂ (λ (cs : ℕ → Client) (rs : ℕ → List Request). record world { clients = cs; requests = rs })
    (put_still world.clients client)
    (ap (λ (rs : List Request). put world.requests client rs) (sent_nothing (world.links client) (world.requests client))
    ∙ put_still world.requests client)

noted_past : (world : World) (client : ℕ) (notes : List Note)
    → length (noted world client notes).past ≡ length world.past + length notes
unfolding noted
noted_past world client [] = omega arith
noted_past world client (note ∷ notes) =
    let rest = noted_past (happened world (fact_of client note)) client notes in omega (arith, rest)

stepped_past : (world : World) (client : ℕ) (step : Step)
    → length (stepped_in world client step).past ≡ length world.past + length step.notes
stepped_past world client step =
    noted_past (requests_sent (record world { clients = put world.clients client step.client }) client step.requests) client
    step.notes

stepped_client : (world : World) (client : ℕ) (step : Step) → (stepped_in world client step).clients client ≡ step.client
stepped_client world client step =
    let moved : World = requests_sent (record world { clients = put world.clients client step.client }) client step.requests in
    ap (λ (w : World). w.clients client) (notes_told moved client step.notes).same ∙ put_here world.clients client step.client

stepped_links : (world : World) (client : ℕ) (step : Step) → (stepped_in world client step).links ≡ world.links
stepped_links world client step =
    let moved : World = requests_sent (record world { clients = put world.clients client step.client }) client step.requests in
    ap (λ (w : World). w.links) (notes_told moved client step.notes).same

served_past : (world : World) (progress : Progress)
    → length (served world progress).past ≡ length world.past + length progress.outs
served_past world progress =
    let begun : World = record world { server = progress.server } in
    let d = delivers begun progress.outs in
    let counted = ap (λ (fs : List Fact). length fs) d.past in
    omega (
      arith,
      counted,
      length-reverse (served world progress).past,
      length-append (reverse world.past) (map told progress.outs),
      length-reverse world.past,
      length-map progress.outs told,
    )

grown : {P : Type 0} (world after : World) → length world.past < length after.past → after ≡ world → P
grown world after more same =
    let counted : length after.past ≡ length world.past = ap (λ (w : World). length w.past) same in
    absurd (omega (arith, counted, more))

-- ---- events that nothing stands in the way of

takes_request : (world : World) (client : ℕ) (queue : List Request) → world.requests client ≡ queue
    → server_takes world client queue ≡ world → is_some (where_empty (Obstacle.NoRequest client) queue) ≡ true
takes_request world client [] is same = refl
takes_request world client (request ∷ queue) is same =
    let begun : World = record world { requests = put world.requests client queue } in
    let progress : Progress = receive world.server client request in
    let d = delivers (record begun { server = progress.server }) progress.outs in
    let left : world.requests client ≡ queue = ap (λ (w : World). w.requests client) (sym same)
    ∙ (ap (λ (t : ℕ → List Request). t client) d.requests ∙ put_here world.requests client queue) in
    let counted : length queue ≡ suc (length queue) = ap length (sym left ∙ is) in
    absurd (omega (arith, counted))

takes_reply : (world : World) (client : ℕ) (queue : List Reply) → client_takes world client queue ≡ world
    → is_some (where_empty (Obstacle.NoReply client) queue) ≡ true
takes_reply world client [] same = refl
takes_reply world client (reply ∷ queue) same =
    let begun : World = happened (record world { replies = put world.replies client queue }) (Fact.Took client) in
    let counted = stepped_past begun client (taken (world.clients client) reply) in
    grown world (client_takes world client (reply ∷ queue)) (omega (arith, counted)) same

cuts : (world : World) (client : ℕ) (link : Link) → cut_over world client link ≡ world → is_some (unless_up client link) ≡ true
cuts world client Link.Down same = refl
cuts world client Link.Cut same = refl
cuts world client Link.Up same =
    let begun : World = happened (record world {
      links = put world.links client Link.Cut;
      requests = put world.requests client [];
      replies = put world.replies client [];
    }) (Fact.Dropped client) in
    let counted = served_past begun (cut world.server client) in
    grown world (cut_over world client Link.Up) (omega (arith, counted)) same

apart : {P : Type 0} → Link.Down ≡ Link.Cut → P
apart e = let c : ⊥ = cc in absurd c

notices : (world : World) (client : ℕ) (link : Link) → world.links client ≡ link → notice_over world client link ≡ world
    → is_some (unless_cut client link) ≡ true
notices world client Link.Down is same = refl
notices world client Link.Up is same = refl
notices world client Link.Cut is same =
    let begun : World = record world { links = put world.links client Link.Down } in
    let after = stepped_links begun client (noticed (world.clients client)) in
    apart (sym (put_here world.links client Link.Down) ∙ (ap (λ (t : ℕ → Link). t client) (sym after)
    ∙ (ap (λ (w : World). w.links client) same ∙ is)))

connects : (world : World) (client : ℕ) (link : Link) → connect_over world client link ≡ world
    → is_some (unless_down client link) ≡ true
connects world client Link.Up same = refl
connects world client Link.Cut same = refl
connects world client Link.Down same =
    let begun : World = happened (record world { links = put world.links client Link.Up }) (Fact.Joined client) in
    let joins = served_past begun (join world.server client) in
    let counted = stepped_past (served begun (join world.server client)) client (connection_made (world.clients client)) in
    grown world (connect_over world client Link.Down) (omega (arith, joins, counted)) same

expires : (world : World) (client file : ℕ) → timer_expired world client file ≡ world → {P : Type 0} → P
expires world client file same =
    let counted = served_past (happened world (Fact.Expired client file)) (expire world.server (machine_key world client file)) in
    grown world (timer_expired world client file) (omega (arith, counted)) same

scavenges : (world : World) (client file : ℕ) (found : Option ℕ) → kept world.server client file ≡ found
    → scavenged world found ≡ world → is_some (where_none_kept client file found) ≡ true
scavenges world client file None is same = refl
scavenges world client file (Some file_id) is same =
    let progress : Progress = scavenge world.server file_id in
    let d = delivers (record world { server = progress.server }) progress.outs in
    let left = kept_is_left world.server client file file_id is in
    let none = scavenged_leaves_none world.server file_id in
    let after : progress.server ≡ world.server = sym d.server ∙ ap (λ (w : World). w.server) same in
    never (sym none ∙ (ap (λ (t : Server). list_any (is_left_behind file_id) t.opens) after ∙ left))

strays : (world : World) (client : ℕ) (request : Request) (link : Link) → strayed_over world client request link ≡ world
    → is_some (unless_up client link) ≡ true
strays world client request Link.Down same = refl
strays world client request Link.Cut same = refl
strays world client request Link.Up same =
    grown world (strayed_over world client request Link.Up) (omega arith) same

commands : (world : World) (client : ℕ) (command : Command)
    → stepped_in world client (commanded (world.clients client) command) ≡ world
    → is_some (against_command client command (commanded (world.clients client) command).answer) ≡ true
commands world client command same =
    let step : Step = commanded (world.clients client) command in
    ⊎_elim (λ stuck. stuck)
    (⊎_elim (λ other. absurd (other (sym (stepped_client world client step) ∙ ap (λ (w : World). w.clients client) same)))
    (λ more. let counted = stepped_past world client step in
    grown world (stepped_in world client step) (omega (arith, counted, more)) same))
    (command_moves client (world.clients client) command)

nothing_in_the_way : (world : World) (event : Event) → applied world event ≡ world → is_some (obstacle_to world event) ≡ true
nothing_in_the_way world (Event.App client command) same = commands world client command same
nothing_in_the_way world (Event.ServerTakes client) same = takes_request world client (world.requests client) refl same
nothing_in_the_way world (Event.ClientTakes client) same = takes_reply world client (world.replies client) same
nothing_in_the_way world (Event.Cut client) same = cuts world client (world.links client) same
nothing_in_the_way world (Event.Notice client) same = notices world client (world.links client) refl same
nothing_in_the_way world (Event.Connect client) same = connects world client (world.links client) same
nothing_in_the_way world (Event.Expire client file) same = by_timer (has_file world.server file)
    (breaking world.server (machine_key world client file)) same
  where
    by_timer : (there breaks : Bool)
        → (if there then (if breaks then timer_expired world client file else world) else world) ≡ world
        → is_some (if there then (if breaks then None else Some (Obstacle.NoBreak client file)) else Some (Obstacle.NoFile file))
        ≡ true
    by_timer true true same = expires world client file same
    by_timer true false same = refl
    by_timer false breaks same = refl
nothing_in_the_way world (Event.Scavenge client file) same =
    scavenges world client file (kept world.server client file) refl same
nothing_in_the_way world (Event.Raw client request) same = strays world client request (world.links client) same

-- ---- events that something stands in the way of

answered_in_vain : (world : World) (client : ℕ) (command : Command) (answer : Answer)
    → (commanded (world.clients client) command).answer ≡ answer → is_some (against_command client command answer) ≡ true
    → stepped_in world client (commanded (world.clients client) command) ≡ world
answered_in_vain world client command (Answer.Refused refusal) is stuck =
    ap (stepped_in world client) (refused-nothing (world.clients client) command refusal is)
    ∙ no_step world client (Answer.Refused refusal)
answered_in_vain world client (Command.Flush file) Answer.Done is stuck =
    ap (stepped_in world client) (flush_done (world.clients client) file is) ∙ no_step world client Answer.Done
answered_in_vain world client command answer is stuck = never stuck

request_in_vain : (world : World) (client : ℕ) (queue : List Request)
    → is_some (where_empty (Obstacle.NoRequest client) queue) ≡ true → server_takes world client queue ≡ world
request_in_vain world client [] stuck = refl
request_in_vain world client (request ∷ queue) stuck = never stuck

reply_in_vain : (world : World) (client : ℕ) (queue : List Reply) → is_some (where_empty (Obstacle.NoReply client) queue) ≡ true
    → client_takes world client queue ≡ world
reply_in_vain world client [] stuck = refl
reply_in_vain world client (reply ∷ queue) stuck = never stuck

cut_in_vain : (world : World) (client : ℕ) (link : Link) → is_some (unless_up client link) ≡ true
    → cut_over world client link ≡ world
cut_in_vain world client Link.Up stuck = never stuck
cut_in_vain world client link stuck = refl

notice_in_vain : (world : World) (client : ℕ) (link : Link) → is_some (unless_cut client link) ≡ true
    → notice_over world client link ≡ world
notice_in_vain world client Link.Cut stuck = never stuck
notice_in_vain world client link stuck = refl

connect_in_vain : (world : World) (client : ℕ) (link : Link) → is_some (unless_down client link) ≡ true
    → connect_over world client link ≡ world
connect_in_vain world client Link.Down stuck = never stuck
connect_in_vain world client link stuck = refl

stray_in_vain : (world : World) (client : ℕ) (request : Request) (link : Link) → is_some (unless_up client link) ≡ true
    → strayed_over world client request link ≡ world
stray_in_vain world client request Link.Up stuck = never stuck
stray_in_vain world client request link stuck = refl

scavenge_in_vain : (world : World) (client file : ℕ) (found : Option ℕ) → is_some (where_none_kept client file found) ≡ true
    → scavenged world found ≡ world
scavenge_in_vain world client file None stuck = refl
scavenge_in_vain world client file (Some file_id) stuck = never stuck

in_vain : (world : World) (event : Event) → is_some (obstacle_to world event) ≡ true → applied world event ≡ world
in_vain world (Event.App client command) stuck =
    answered_in_vain world client command (commanded (world.clients client) command).answer refl stuck
in_vain world (Event.ServerTakes client) stuck = request_in_vain world client (world.requests client) stuck
in_vain world (Event.ClientTakes client) stuck = reply_in_vain world client (world.replies client) stuck
in_vain world (Event.Cut client) stuck = cut_in_vain world client (world.links client) stuck
in_vain world (Event.Notice client) stuck = notice_in_vain world client (world.links client) stuck
in_vain world (Event.Connect client) stuck = connect_in_vain world client (world.links client) stuck
in_vain world (Event.Expire client file) stuck = by_timer (has_file world.server file)
    (breaking world.server (machine_key world client file)) stuck
  where
    by_timer : (there breaks : Bool)
        → is_some (if there then (if breaks then None else Some (Obstacle.NoBreak client file)) else Some (Obstacle.NoFile file))
        ≡ true → (if there then (if breaks then timer_expired world client file else world) else world) ≡ world
    by_timer true true stuck = never stuck
    by_timer true false stuck = refl
    by_timer false breaks stuck = refl
in_vain world (Event.Scavenge client file) stuck = scavenge_in_vain world client file (kept world.server client file) stuck
in_vain world (Event.Raw client request) stuck = stray_in_vain world client request (world.links client) stuck

-- ---- any event

pub obstacles_exact : ObstaclesAreExact
unfolding obstacle
obstacles_exact world event = (stuck_so (has_client world (client_of event)), idle_so (has_client world (client_of event)))
  where
    stuck_so : (there : Bool)
        → is_some (if there then obstacle_to world event else Some (Obstacle.NoClient (client_of event))) ≡ true
        → (if there then applied world event else world) ≡ world
    stuck_so true stuck = in_vain world event stuck
    stuck_so false stuck = refl

    idle_so : (there : Bool) → (if there then applied world event else world) ≡ world
        → is_some (if there then obstacle_to world event else Some (Obstacle.NoClient (client_of event))) ≡ true
    idle_so true same = nothing_in_the_way world event same
    idle_so false same = refl

pub refusals_named : RefusalsAreNamed
unfolding obstacle
refusals_named world client command refusal there is = rw (there, is) refl
