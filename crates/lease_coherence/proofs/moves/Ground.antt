-- What is known at every point of a run is kept by every move.
use Rattle.lease_laws.proofs.Words.{◌++◌, ◌+◌, ◌==◌, ◌∙◌, ◌∷◌, ◌≡◌, ◌≢◌, ◌⊎◌, Among, Call, Client, ClientCall, Command, EachOut}
use Rattle.lease_laws.proofs.Words.{Fact, Held, IsGuarded, IsInTurn, IsOnline, IsSoundClient, IsTied, IsToPresent, Link, List}
use Rattle.lease_laws.proofs.Words.{Note, Out, Progress, Reply, Request, Server, Setup, SmallStep, World, ℕ, [], ⊎_elim}
use Rattle.lease_laws.proofs.Words.{acknowledged, ap, arith, begun, breaking, call_begun, client_called, commanded, concluded}
use Rattle.lease_laws.proofs.Words.{eq-eqb, eqb-true, fact_of, false, first_world_under, happened, held_left, inl, inr, is_down}
use Rattle.lease_laws.proofs.Words.{is_left_behind, is_served, is_up, length, machine_key, not, noted, put, refl, requests_sent}
use Rattle.lease_laws.proofs.Words.{sendings, step_taken, stepped_in, subst, sym, takings, true}
use Rattle.lease_laws.proofs.Words.{Rules}
use Rattle.lease_laws.proofs.client.Entries.{called_entries, first_entries}
use Rattle.lease_laws.proofs.client.Forms.{commanded-stays, taken-stays}
use Rattle.lease_laws.proofs.client.InFiles.{called_in_files, first_in_files}
use Rattle.lease_laws.proofs.client.Numbers.{called_numbers, first_numbers}
use Rattle.lease_laws.proofs.client.Thin.{put_other, put_same}
use Rattle.lease_laws.proofs.server.Arrivals.{acknowledged-held, asked_well}
use Rattle.lease_laws.proofs.server.Calls.{joined-sound}
use Rattle.lease_laws.proofs.server.Held.{concluded-held}
use Rattle.lease_laws.proofs.server.Lists.{among_append, among_filter, clash, if_cases}
use Rattle.lease_laws.proofs.server.Orderly.{IsFine, IsHeldWell, held_well, orderly_goes, same_well}
use Rattle.lease_laws.proofs.server.PassWaits.{among_more}
use Rattle.lease_laws.proofs.server.StepKeeps.{step-goes, step-sound}
use Rattle.lease_laws.proofs.server.WaitCalls.{cut-fine, dropped-fine, expired-fine, joined-orderly}
use Rattle.lease_laws.proofs.world.FileIds.{IsCounted, all_delivered_past, begun_counted, first_counted, note_same}
use Rattle.lease_laws.proofs.world.FileIds.{same_counted, step_counted, told, world_fact_same}
use Rattle.lease_laws.proofs.world.Kept.{IsOfWorld, served-clients, served-server, told_of_world}
use Rattle.lease_laws.proofs.world.Links.{all_tied, by_client, carried, first_linked, relinked, sent_tied, served_links}
use Rattle.lease_laws.proofs.world.Links.{stepped_online, stepped_tied, told_tied}
use Rattle.lease_laws.proofs.world.Runs.{stepped_clients, stepped_server}
use Rattle.lease_laws.proofs.world.cases.Events.{IsTold}
use Rattle.lease_laws.proofs.server.StepOuts as outs
use Rattle.lease_coherence.proofs.moves.Events.{Ground, IsCarried, Move, chosen, come_back, connected, cut_off, left_behind}
use Rattle.lease_coherence.proofs.moves.Events.{noticed_by, reply_gone, reply_taken, strayed, timed_out}
use Rattle.lease_coherence.proofs.moves.Moves.{IsNext, moved, popped, rest_of, taken_off}

-- ---- steps of the server

-- what is on a list of a table was there, or is new
pub among_put : {X : Type 0} (table : ℕ → List X) (file : ℕ) (new : List X) (at : ℕ) (x : X)
    → Among x (put table file new at) → (Among x (table at)) ⊎ ((at ≡ file) × Among x new)
unfolding put
among_put {X} table file new at x a = if_cases
    (λ (l : List X). Among x l → (Among x (table at)) ⊎ ((at ≡ file) × Among x new)) (at == file) new (table at)
    (λ e b. inr (eqb-true at file e, b)) (λ e b. inl b) a

-- what is held after a step was held well before it, or may be
answered_well : (file : ℕ) (before behind : List Held) (one : Held) (progress after : Progress)
    → IsFine progress.server → progress.server.held file ≡ before ++ one ∷ behind
    → after.server.held ≡ (held_left file (before ++ behind) progress).server.held
    → (at : ℕ) (x : Held) → Among x (after.server.held at) → IsHeldWell progress.server at x
answered_well file before behind one progress after f held same at x a = ⊎_elim
    (λ old. held_well progress.server at x f.orderly old)
    (λ left. subst (λ n. IsHeldWell progress.server n x) (sym left.0) (held_well progress.server file x f.orderly
    (subst (λ (l : List Held). Among x l) (sym held) (among_more x one before behind left.1))))
    (among_put progress.server.held file (before ++ behind) at x (subst (λ (h : ℕ → List Held). Among x (h at)) same a))

step_well : (step : SmallStep) (progress : Progress) → IsFine progress.server → IsGuarded step progress.server
    → IsInTurn step progress.server → (file : ℕ) (one : Held) → Among one ((step_taken step progress).server.held file)
    → IsHeldWell progress.server file one
step_well (SmallStep.Answer client request outcome) progress f may turn =
    same_well progress (concluded client request progress outcome) f.orderly (concluded-held client request progress outcome)
step_well (SmallStep.AnswerHeld file before one behind outcome) progress f may turn =
    answered_well file before behind one progress
    (concluded one.client one.request (held_left file (before ++ behind) progress) outcome) f may.0
    (concluded-held one.client one.request (held_left file (before ++ behind) progress) outcome)
step_well (SmallStep.Acknowledge client given) progress f may turn =
    same_well progress (acknowledged client given progress) f.orderly (acknowledged-held client given progress)
step_well (SmallStep.Hold file one) progress f may turn = λ at x a. ⊎_elim
    (λ old. held_well progress.server at x f.orderly old)
    (λ new. ⊎_elim
    (λ old. held_well progress.server at x f.orderly (subst (λ n. Among x (progress.server.held n)) (sym new.0) old))
    (λ last. ⊎_elim
    (λ same. subst (λ n. IsHeldWell progress.server n x) (sym new.0) (subst (IsHeldWell progress.server file) (sym same)
    (let well = asked_well one.client one.request progress f may.0 file turn.0 in
    record { up = well.up; on_file = well.on_file; about = well.about })))
    (λ none. absurd none) last) (among_append x (progress.server.held file) (one ∷ []) new.1))
    (among_put progress.server.held file (progress.server.held file ++ one ∷ []) at x a)
step_well step progress f may turn = λ at x a. held_well progress.server at x f.orderly a

pub step_fine : (step : SmallStep) (progress : Progress) → IsFine progress.server → IsGuarded step progress.server
    → IsInTurn step progress.server → IsFine (step_taken step progress).server
step_fine step progress f may turn = record {
  sound = step-sound step progress f.sound may;
  orderly = orderly_goes progress.server (step_taken step progress).server f.orderly
      (step-goes step progress f.sound may) (step_well step progress f may turn);
}

-- links stay, with fewer requests on their way
popped_tied : (world : World) (client c : ℕ) → IsTied world c → IsTied (popped world client) c
popped_tied world client c t = record {
  present = t.present;
  requests = λ down. by_client (λ d. world.requests d ≡ [] → (popped world client).requests d ≡ []) client c
      (λ none. put_same world.requests client (rest_of (world.requests client)) ∙ ap (λ (q : List Request). rest_of q) none)
      (λ ne apart none. put_other world.requests client (rest_of (world.requests client)) c ne ∙ none) (t.requests down);
  replies = t.replies;
  served = t.served;
  counted = t.counted;
}

off_tied : (step : SmallStep) (world : World) (c : ℕ) → IsTied world c → IsTied (taken_off step world) c
off_tied (SmallStep.Answer client request outcome) world c t = popped_tied world client c t
off_tied (SmallStep.Hold file one) world c t = popped_tied world one.client c t
off_tied (SmallStep.Acknowledge client given) world c t = popped_tied world client c t
off_tied step world c t = t

-- a request that leaves its queue changes nothing else
pub off_past : (step : SmallStep) (world : World) → (taken_off step world).past ≡ world.past
off_past (SmallStep.Answer client request outcome) world = refl
off_past step world = refl

pub off_clients : (step : SmallStep) (world : World) → (taken_off step world).clients ≡ world.clients
off_clients (SmallStep.Answer client request outcome) world = refl
off_clients step world = refl

pub off_links : (step : SmallStep) (world : World) → (taken_off step world).links ≡ world.links
off_links (SmallStep.Answer client request outcome) world = refl
off_links step world = refl

-- the server after a move, its clients and links, and its record
pub moved_server : (world : World) (step : SmallStep) → (moved world step).server ≡ (step_taken step (begun world.server)).server
moved_server world step = served-server (taken_off step world) (step_taken step (begun world.server))

pub moved_clients : (world : World) (step : SmallStep) → (moved world step).clients ≡ world.clients
moved_clients world step = served-clients (taken_off step world) (step_taken step (begun world.server)) ∙ off_clients step world

pub moved_links : (world : World) (step : SmallStep) → (moved world step).links ≡ world.links
moved_links world step = served_links (taken_off step world) (step_taken step (begun world.server)) ∙ off_links step world

pub moved_past : (world : World) (step : SmallStep)
    → (moved world step).past ≡ told world.past (step_taken step (begun world.server)).outs
moved_past world step = let p = step_taken step (begun world.server) in
    all_delivered_past (record (taken_off step world) { server = p.server }) p.outs
    ∙ ap (λ past. told past p.outs) (off_past step world)

moved_tied : (world : World) (step : SmallStep) → Ground world → IsNext world step → (c : ℕ) → IsTied (moved world step) c
moved_tied world step g next c =
    let p = step_taken step (begun world.server) in
    let go = step-goes step (begun world.server) g.fine.sound next.guarded in
    let more = outs.step_fine step (begun world.server) (g.fine.orderly).opens_up next.guarded in
    let off = taken_off step world in
    all_tied (record off { server = p.server }) world.server p.outs
    (λ d. (g.tied d).present ∙ ap (λ (l : ℕ → Link). is_up (l d)) (sym (off_links step world)))
    (reach p.outs (subst (EachOut (outs.IsFine world.server)) (sym more.are_more) more.each))
    (λ d. carried off (record off { server = p.server }) d
    (go.ups d ∙ (g.tied d).present ∙ ap (λ (l : ℕ → Link). is_up (l d)) (sym (off_links step world))
    ∙ sym (off_tied step world d (g.tied d)).present) refl refl refl refl refl refl (off_tied step world d (g.tied d))) c
  where
    reach : (list : List Out) → EachOut (outs.IsFine world.server) list → EachOut (IsToPresent world.server) list
    reach [] each = tt
    reach (out ∷ list) each = let fine = each.0 in (fine.0, reach list each.1)

moved_ground : (world : World) (step : SmallStep) → Ground world → IsNext world step → Ground (moved world step)
moved_ground world step g next =
    let p = step_taken step (begun world.server) in record {
      fine = subst IsFine (sym (moved_server world step)) (step_fine step (begun world.server) g.fine next.guarded next.in_turn);
      counted = subst (λ past. IsCounted past (moved world step).server) (sym (moved_past world step))
          (subst (IsCounted (told world.past p.outs)) (sym (moved_server world step))
          (step_counted world.past step (begun world.server) g.fine.sound next.guarded g.counted));
      tied = moved_tied world step g next;
      online = λ c. ap (λ (t : ℕ → Client). (t c).is_online) (moved_clients world step) ∙ g.online c
          ∙ ap (λ (l : ℕ → Link). not (is_down (l c))) (sym (moved_links world step));
      clients = λ c. subst (λ (t : ℕ → Client). IsSoundClient (t c)) (sym (moved_clients world step)) (g.clients c);
    }

-- ---- steps of a client

pub called_sound : (client : Client) (call : ClientCall) → IsSoundClient client → IsSoundClient (client_called client call).client
called_sound client call s = record {
  entries = called_entries client call s.entries;
  in_files = called_in_files client call s.in_files;
  numbers = called_numbers client call s.entries s.numbers;
}

noted_counted : (world : World) (client : ℕ) (notes : List Note) (server : Server) → IsCounted world.past server
    → IsCounted (noted world client notes).past server
unfolding noted
noted_counted world client [] server c = c
noted_counted world client (note ∷ notes) server c = noted_counted (happened world (fact_of client note)) client notes server
    (same_counted world.past (fact_of client note ∷ world.past) server (note_same world.past client note) c)

-- a client that steps, in a world where all but its being online is known
stepped_ground : (world : World) (client : ℕ) (call : ClientCall) → IsFine world.server
    → IsCounted world.past world.server → ((c : ℕ) → IsTied world c)
    → (client_called (world.clients client) call).client.is_online ≡ not (is_down (world.links client))
    → ((c : ℕ) → c ≢ client → IsOnline world c) → ((c : ℕ) → IsSoundClient (world.clients c))
    → Ground (stepped_in world client (client_called (world.clients client) call))
stepped_ground world client call f c tied here there sound =
    let step = client_called (world.clients client) call in
    let sent = requests_sent (record world { clients = put world.clients client step.client }) client step.requests in
    record {
      fine = subst IsFine (sym (stepped_server world client step)) f;
      counted = subst (IsCounted (stepped_in world client step).past) (sym (stepped_server world client step))
          (noted_counted sent client step.notes world.server c);
      tied = stepped_tied world client step tied;
      online = stepped_online world client step here there;
      clients = λ d. subst (λ (t : ℕ → Client). IsSoundClient (t d)) (sym (stepped_clients world client step))
          (by_client (λ e. IsSoundClient (put world.clients client step.client e)) client d
          (subst IsSoundClient (sym (put_same world.clients client step.client))
          (called_sound (world.clients client) call (sound client)))
          (λ ne apart. subst IsSoundClient (sym (put_other world.clients client step.client d ne)) (sound d)));
    }

-- ---- connections

-- the call's first part, where it applies
begun_so : (past : List Fact) (server : Server) (call : Call) (after : Progress) → IsCounted past server
    → call_begun server call ≡ after → IsCounted past after.server
begun_so past server call after c e = subst (λ (p : Progress). IsCounted past p.server) e (begun_counted past server call c)

fact_counted : (past : List Fact) (fact : Fact) (server : Server) → IsOfWorld fact → IsCounted past server
    → IsCounted (fact ∷ past) server
fact_counted past fact server of c = same_counted past (fact ∷ past) server (world_fact_same past fact of) c

cut_ground : (world : World) (client : ℕ) → Ground world → world.links client ≡ Link.Up → Ground (cut_off world client)
unfolding is_served sendings takings
cut_ground world client g e = record {
  fine = cut-fine world.server client g.fine;
  counted = begun_so (Fact.Dropped client ∷ world.past) world.server (Call.Cut client) _
      (fact_counted world.past (Fact.Dropped client) world.server tt g.counted)
      (chosen (world.server.present client) _ (begun world.server) ((g.tied client).present ∙ ap is_up e));
  tied = λ c. by_client (IsTied (cut_off world client)) client c (record {
    present = put_same world.server.present client false ∙ sym (ap is_up (put_same world.links client Link.Cut));
    requests = λ d. put_same world.requests client [];
    replies = λ d. put_same world.replies client [];
    served = λ t. clash (is_served client (Fact.Dropped client ∷ world.past)) t (rw (eq-eqb client client refl) refl);
    counted = λ u. clash (is_up (put world.links client Link.Cut client)) u (ap is_up (put_same world.links client Link.Cut));
  })
      (λ ne apart. carried world (cut_off world client) c (put_other world.server.present client false c ne)
      (put_other world.links client Link.Cut c ne) (put_other world.requests client [] c ne)
      (put_other world.replies client [] c ne) (rw (apart) refl) refl refl (g.tied c));
  online = λ c. by_client (IsOnline (cut_off world client)) client c (g.online client ∙ ap (λ k. not (is_down k)) e
      ∙ ap (λ k. not (is_down k)) (sym (put_same world.links client Link.Cut)))
      (λ ne apart. g.online c ∙ ap (λ k. not (is_down k)) (sym (put_other world.links client Link.Cut c ne)));
  clients = g.clients;
}

timer_ground : (world : World) (client file : ℕ) → Ground world
    → breaking world.server (machine_key world client file) ≡ true → Ground (timed_out world client file)
unfolding is_served sendings takings
timer_ground world client file g breaks =
    let key = machine_key world client file in record {
      fine = expired-fine world.server key g.fine;
      counted = begun_so (Fact.Expired client file ∷ world.past) world.server (Call.Expire key) _
          (fact_counted world.past (Fact.Expired client file) world.server tt g.counted)
          (chosen (breaking world.server key) _ (begun world.server) breaks);
      tied = λ c. by_client (IsTied (timed_out world client file)) client c (let t = g.tied client in record {
        present = t.present;
        requests = t.requests;
        replies = t.replies;
        served = λ s. clash (is_served client (Fact.Expired client file ∷ world.past)) s (rw (eq-eqb client client refl) refl);
        counted = t.counted;
      })
          (λ ne apart. carried world (timed_out world client file) c refl refl refl refl (rw (apart) refl) refl refl (g.tied c));
      online = g.online;
      clients = g.clients;
    }

scavenge_ground : (world : World) (file_id : ℕ) → Ground world → Ground (left_behind world file_id)
scavenge_ground world file_id g = record {
  fine = dropped-fine (is_left_behind file_id) (begun world.server) g.fine;
  counted = record {
    last = g.counted.last;
    opens = λ one a. g.counted.opens one (among_filter (λ x. not (is_left_behind file_id x)) one world.server.opens a).0;
  };
  tied = λ c. carried world (left_behind world file_id) c refl refl refl refl refl refl refl (g.tied c);
  online = g.online;
  clients = g.clients;
}

back_tied : (world : World) (client : ℕ) → is_up (world.links client) ≡ false → ((c : ℕ) → IsTied world c)
    → (c : ℕ) → IsTied (come_back world client) c
unfolding is_served sendings takings
back_tied world client down tied c = by_client (IsTied (come_back world client)) client c (record {
  present = put_same world.server.present client true ∙ sym (ap is_up (put_same world.links client Link.Up));
  requests = λ d. clash (is_up (put world.links client Link.Up client)) up d;
  replies = λ d. clash (is_up (put world.links client Link.Up client)) up d;
  served = λ t. up;
  counted = λ u. rw (eq-eqb client client refl, (tied client).replies down) refl;
})
    (λ ne apart. carried world (come_back world client) c (put_other world.server.present client true c ne)
    (put_other world.links client Link.Up c ne) refl refl (rw (apart) refl) (rw (apart) refl) (rw (apart) refl) (tied c))
  where
    up : is_up (put world.links client Link.Up client) ≡ true
    up = ap is_up (put_same world.links client Link.Up)

connect_ground : (world : World) (client : ℕ) → Ground world → world.links client ≡ Link.Down → Ground (connected world client)
connect_ground world client g e = stepped_ground (come_back world client) client ClientCall.Connected (record {
  sound = joined-sound client (begun world.server) g.fine.sound;
  orderly = joined-orderly client (begun world.server) g.fine.orderly;
}) (fact_counted world.past (Fact.Joined client) _ tt (record { last = g.counted.last; opens = g.counted.opens }))
    (back_tied world client (ap is_up e) g.tied) (sym (ap (λ k. not (is_down k)) (put_same world.links client Link.Up)))
    (λ c ne. g.online c ∙ ap (λ k. not (is_down k)) (sym (put_other world.links client Link.Up c ne))) g.clients

command_ground : (world : World) (client : ℕ) (command : Command) → Ground world
    → Ground (stepped_in world client (commanded (world.clients client) command))
command_ground world client command g = stepped_ground world client (ClientCall.Commanded command) g.fine g.counted
    g.tied ((commanded-stays (world.clients client) command).online ∙ g.online client) (λ c ne. g.online c) g.clients

not_empty : {X : Type 0} (x : X) (xs : List X) → (x ∷ xs) ≡ [] → ⊥
not_empty x xs e = cc

gone_tied : (world : World) (client : ℕ) (reply : Reply) (queue : List Reply) → world.replies client ≡ reply ∷ queue
    → ((c : ℕ) → IsTied world c) → (c : ℕ) → IsTied (reply_gone world client queue) c
unfolding is_served sendings takings
gone_tied world client reply queue e tied c = by_client (IsTied (reply_gone world client queue)) client c
    (let t = tied client in record {
      present = t.present;
      requests = t.requests;
      replies = λ down. absurd (not_empty reply queue (sym e ∙ t.replies down));
      served = t.served;
      counted = λ up. rw (eq-eqb client client refl, put_same world.replies client queue)
          (t.counted up ∙ ap (λ (q : List Reply). takings client world.past + length q) e ∙ (omega arith));
    })
    (λ ne apart. carried world (reply_gone world client queue) c refl refl refl
    (put_other world.replies client queue c ne) refl refl (rw (apart) refl) (tied c))

take_ground : (world : World) (client : ℕ) (reply : Reply) (queue : List Reply) → Ground world
    → world.replies client ≡ reply ∷ queue → Ground (reply_taken world client reply queue)
take_ground world client reply queue g e = stepped_ground (reply_gone world client queue) client (ClientCall.Taken reply)
    g.fine (fact_counted world.past (Fact.Took client) world.server tt g.counted) (gone_tied world client reply queue e g.tied)
    ((taken-stays (world.clients client) reply).online ∙ g.online client) (λ c ne. g.online c) g.clients

notice_ground : (world : World) (client : ℕ) → Ground world → world.links client ≡ Link.Cut → Ground (noticed_by world client)
notice_ground world client g e = stepped_ground (record world { links = put world.links client Link.Down }) client
    ClientCall.Noticed g.fine g.counted (relinked world client Link.Down (ap is_up e) refl g.tied)
    (sym (ap (λ k. not (is_down k)) (put_same world.links client Link.Down)))
    (λ c ne. g.online c ∙ ap (λ k. not (is_down k)) (sym (put_other world.links client Link.Down c ne))) g.clients

stray_ground : (world : World) (client : ℕ) (request : Request) → Ground world → Ground (strayed world client request)
stray_ground world client request g = record {
  fine = g.fine;
  counted = g.counted;
  tied = λ c. sent_tied world client (request ∷ []) c (g.tied c);
  online = g.online;
  clients = g.clients;
}

told_ground : (world : World) (client : ℕ) (fact : Fact) → IsTold client fact → Ground world → Ground (happened world fact)
told_ground world client fact is g = record {
  fine = g.fine;
  counted = fact_counted world.past fact world.server (told_of_world client fact is) g.counted;
  tied = λ c. told_tied world client fact c is (g.tied c);
  online = g.online;
  clients = g.clients;
}

pub ground_carried : IsCarried Ground
ground_carried world (Move.Told client fact) is g = told_ground world client fact is g
ground_carried world (Move.Step step) next g = moved_ground world step g next
ground_carried world (Move.Cut client) up g = cut_ground world client g up
ground_carried world (Move.Expire client file) (on, breaks) g = timer_ground world client file g breaks
ground_carried world (Move.Scavenge file_id) may g = scavenge_ground world file_id g
ground_carried world (Move.Connect client) down g = connect_ground world client g down
ground_carried world (Move.Commanded client command) may g = command_ground world client command g
ground_carried world (Move.Take client reply queue) first g = take_ground world client reply queue g first
ground_carried world (Move.Notice client) cut g = notice_ground world client g cut
ground_carried world (Move.Stray client request) up g = stray_ground world client request g

pub first_ground : (rules : Rules) (setup : Setup) → Ground (first_world_under rules setup)
unfolding first_world_under
first_ground rules setup = record {
  fine = record { sound = (first_linked rules setup).sound; orderly = ((first_linked rules setup).waits).is_orderly };
  counted = (first_counted rules setup).counted;
  tied = (first_linked rules setup).tied;
  online = (first_linked rules setup).online;
  clients = λ client. record {
    entries = first_entries _ _;
    in_files = first_in_files _ _;
    numbers = first_numbers _ _;
  };
}
