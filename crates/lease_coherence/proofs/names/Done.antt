-- Every move keeps what clients name, and so no write is settled as done that wasn't accepted.
use Rattle.lease_laws.proofs.Words.{◌+◌, ◌==◌, ◌∙◌, ◌∷◌, ◌≡◌, ◌≢◌, Among, Client, ClientCall, EachFact, Event, Fact, Link, List}
use Rattle.lease_laws.proofs.Words.{NoFalseDone, Note, Open, Out, Reply, Request, Server, Settlement, Setup, SmallStep, Step}
use Rattle.lease_laws.proofs.Words.{World, ℕ, [], after, ap, arith, begun, client_called, disconnected, false, first_world_under}
use Rattle.lease_laws.proofs.Words.{happened, has_key, has_strayed, is_left_behind, is_lost, machine_key, new_client}
use Rattle.lease_laws.proofs.Words.{new_server_under, not, put, refl, reverse-reverse, reverse_aux, sent_over, starts_from}
use Rattle.lease_laws.proofs.Words.{step_taken, stepped_in, subst, sym, true, without}
use Rattle.lease_laws.proofs.Words.{Rules}
use Rattle.lease_laws.proofs.client.Forms.{commanded-stays, taken-stays}
use Rattle.lease_laws.proofs.client.Thin.{put_other, put_same}
use Rattle.lease_laws.proofs.server.Lists.{among_filter, among_map, clash, if_cases}
use Rattle.lease_laws.proofs.world.FileIds.{told}
use Rattle.lease_laws.proofs.world.Links.{by_client}
use Rattle.lease_laws.proofs.world.Runs.{stepped_clients, stepped_server}
use Rattle.lease_laws.proofs.world.cases.Events.{IsTold}
use Rattle.lease_coherence.specs.Names.{Each, IsNamed, IsNamedAt, IsNamedEntry, IsNamedReply, IsNamedRequest}
use Rattle.lease_coherence.specs.Names.{IsOwnOpen}
use Rattle.lease_coherence.specs.Names.{IsNamedHeld}
use Rattle.lease_coherence.specs.Parts.{NothingIsFalselyDone}
use Rattle.lease_coherence.proofs.moves.Deeds.{step_deed}
use Rattle.lease_coherence.proofs.moves.Events.{Both, Ground, IsMoved, Move, carried_both, come_back, cut_off, left_behind}
use Rattle.lease_coherence.proofs.moves.Events.{reply_gone, runs_have, strayed, timed_out}
use Rattle.lease_coherence.proofs.moves.Frames.{stepped_past, stepped_replies, stepped_requests}
use Rattle.lease_coherence.proofs.moves.Ground.{first_ground, ground_carried, moved_past}
use Rattle.lease_coherence.proofs.moves.Moves.{IsNext, moved}
use Rattle.lease_coherence.proofs.names.Clients.{IsCallNamed, IsTrueDone, call_named}
use Rattle.lease_coherence.proofs.names.NamedInRecord.{each_append, each_weaker, request_later}
use Rattle.lease_coherence.proofs.names.Names.{at_later, deeds_named, replies_later}
use Rattle.lease_coherence.proofs.names.Names.{held_later}
use Rattle.lease_coherence.proofs.records.Later.{IsLater, later_fact, later_noted, later_same, later_then, later_told}
use Rattle.lease_coherence.proofs.records.Later.{past_noted}
use Rattle.lease_coherence.proofs.wellformed.Notes.{EachNote}

-- ---- names over the other moves

-- a client makes a step
sent_each : (P : Request → Type 0) (link : Link) (queue requests : List Request) → Each P queue
    → Each P requests → Each P (sent_over link queue requests)
sent_each P Link.Up queue requests old new = each_append P queue requests old new
sent_each P link queue requests old new = old

-- the client that steps
here_named : (world : World) (client : ℕ) (call : ClientCall)
    → (client_called (world.clients client) call).client.guid ≡ (world.clients client).guid
    → IsCallNamed client world.past call → IsNamedAt world client
    → IsNamedAt (stepped_in world client (client_called (world.clients client) call)) client
here_named world client call same named n =
    let machine = world.clients client in
    let step = client_called machine call in
    let next = stepped_in world client step in
    let s = call_named client machine world.past call n.entries named in
    let new = past_noted client world.past step.notes in
    let later = later_noted client world.past step.notes in
    let past = sym (stepped_past world client step) in
    let server = sym (stepped_server world client step) in
    let mine : next.clients client ≡ step.client =
    ap (λ (t : ℕ → Client). t client) (stepped_clients world client step) ∙ put_same world.clients client step.client in
    let guid : machine.guid ≡ (next.clients client).guid = sym (ap (λ (m : Client). m.guid) mine ∙ same) in
    record {
      requests = subst (λ (q : ℕ → List Request). Each (IsNamedRequest client (next.clients client).guid next.past) (q client))
          (sym (stepped_requests world client step)) (subst (Each (IsNamedRequest client (next.clients client).guid next.past))
          (sym (put_same world.requests client _)) (subst (λ p. Each (IsNamedRequest client (next.clients client).guid p)
          (sent_over (world.links client) (world.requests client) step.requests)) past
          (subst (λ g. Each (IsNamedRequest client g new)
          (sent_over (world.links client) (world.requests client) step.requests)) guid
          (sent_each (IsNamedRequest client machine.guid new) (world.links client) (world.requests client) step.requests
          (each_weaker (IsNamedRequest client machine.guid world.past) (IsNamedRequest client machine.guid new)
          (world.requests client)
          (λ request r. request_later client machine.guid world.past new later request r) n.requests) s.requests))));
      held = λ file one a own. subst (λ p. IsNamedHeld client (next.clients client).guid p file one) past
          (subst (λ g. IsNamedHeld client g new file one) guid
          (held_later client machine.guid world.past new later file one
          (n.held file one (subst (λ (x : Server). Among one (x.held file)) (sym server) a) own)));
      opens = λ one a own. subst (λ g. IsOwnOpen g one) guid
          (n.opens one (subst (λ (x : Server). Among one x.opens) (sym server) a) own);
      replies = subst (λ (r : ℕ → List Reply). Each (IsNamedReply client next.past) (r client))
          (sym (stepped_replies world client step)) (subst (λ p. Each (IsNamedReply client p) (world.replies client)) past
          (replies_later client world.past new (world.replies client) later n.replies));
      entries = λ file. subst (λ (m : Client). IsNamedEntry client file next.past (m.entries file)) (sym mine)
          (subst (λ p. IsNamedEntry client file p (step.client.entries file)) past (s.entries file));
    }

-- any other
there_named : (world : World) (client : ℕ) (step : Step) (c : ℕ) → c ≢ client → IsNamedAt world c
    → IsNamedAt (stepped_in world client step) c
there_named world client step c ne n =
    let next = stepped_in world client step in
    let new = past_noted client world.past step.notes in
    let later : IsLater world.past next.past = subst (IsLater world.past) (sym (stepped_past world client step))
    (later_noted client world.past step.notes) in
    let server = stepped_server world client step in
    at_later world next c later
    (ap (λ (t : ℕ → Client). t c) (stepped_clients world client step) ∙ put_other world.clients client step.client c ne)
    (subst (Each (IsNamedRequest c (world.clients c).guid world.past))
    (sym (ap (λ (q : ℕ → List Request). q c) (stepped_requests world client step) ∙ put_other world.requests client _ c ne))
    n.requests)
    (λ file one a own. n.held file one (subst (λ (x : Server). Among one (x.held file)) server a) own)
    (λ one a own. n.opens one (subst (λ (x : Server). Among one x.opens) server a) own)
    (subst (λ (r : ℕ → List Reply). Each (IsNamedReply c next.past) (r c)) (sym (stepped_replies world client step))
    (replies_later c world.past next.past (world.replies c) later n.replies)) n

was_good : (world : World) (client : ℕ) (step : Step) (d : ℕ)
    → has_strayed d (stepped_in world client step).past ≡ false → has_strayed d world.past ≡ false
was_good world client step d e = (later_noted client world.past step.notes).strayed d
    (subst (λ past. has_strayed d past ≡ false) (stepped_past world client step) e)

stepped_named : (world : World) (client : ℕ) (call : ClientCall)
    → (client_called (world.clients client) call).client.guid ≡ (world.clients client).guid
    → (has_strayed client world.past ≡ false → IsCallNamed client world.past call) → IsNamed world
    → IsNamed (stepped_in world client (client_called (world.clients client) call))
stepped_named world client call same named n c good =
    let step = client_called (world.clients client) call in
    let was = was_good world client step c good in
    by_client (λ d. has_strayed d world.past ≡ false → IsNamedAt (stepped_in world client step) d) client c
    (λ fine. here_named world client call same (named fine) (n client fine))
    (λ ne apart fine. there_named world client step c ne (n c fine)) was

-- queues that are emptied
emptied : {X : Type 0} (P : ℕ → X → Type 0) (table : ℕ → List X) (client c : ℕ) → Each (P c) (table c)
    → Each (P c) (put table client [] c)
emptied {X} P table client c each = by_client (λ d. Each (P d) (table d) → Each (P d) (put table client [] d)) client c
    (λ old. subst (Each (P client)) (sym (put_same table client [])) tt)
    (λ ne apart old. subst (Each (P c)) (sym (put_other table client [] c ne)) old) each

cut_named : (world : World) (client : ℕ) → IsNamed world → IsNamed (cut_off world client)
cut_named world client n c good =
    let later = later_fact world.past (Fact.Dropped client) in
    let m = n c (later.strayed c good) in
    at_later world (cut_off world client) c later refl
    (emptied (λ d. IsNamedRequest d (world.clients d).guid world.past) world.requests client c m.requests)
    (λ file one a own. m.held file one (among_filter (λ h. not (h.client == client)) one (world.server.held file) a).0 own)
    (λ one a own.
    let x = among_map (disconnected client) one (without (is_lost world.server client) world.server.opens) a in
    let b = (among_filter (λ o. not (is_lost world.server client o)) x.0 world.server.opens x.1).0 in
    if_cases (λ o. one ≡ o → IsOwnOpen (world.clients c).guid one) ((x.0).client == client)
    (record (x.0) { connected = false }) (x.0)
    (λ here same. subst (IsOwnOpen (world.clients c).guid) (sym same)
    (m.opens x.0 b (sym (ap (λ (o : Open). o.client) same) ∙ own)))
    (λ there same. subst (IsOwnOpen (world.clients c).guid) (sym same)
    (m.opens x.0 b (sym (ap (λ (o : Open). o.client) same) ∙ own))) x.2)
    (emptied (λ d. IsNamedReply d (Fact.Dropped client ∷ world.past)) world.replies client c
    (replies_later c world.past _ (world.replies c) later m.replies)) m

timer_named : (world : World) (client file : ℕ) → IsNamed world → IsNamed (timed_out world client file)
timer_named world client file n c good =
    let later = later_fact world.past (Fact.Expired client file) in
    let m = n c (later.strayed c good) in
    at_later world (timed_out world client file) c later refl m.requests m.held
    (λ one a own. m.opens one
    (among_filter (λ o. not (has_key (machine_key world client file) o)) one world.server.opens a).0 own)
    (replies_later c world.past _ (world.replies c) later m.replies) m

scavenge_named : (world : World) (file_id : ℕ) → IsNamed world → IsNamed (left_behind world file_id)
scavenge_named world file_id n c good = let m = n c good in
    at_later world (left_behind world file_id) c (later_same world.past) refl m.requests m.held
    (λ one a own. m.opens one (among_filter (λ o. not (is_left_behind file_id o)) one world.server.opens a).0 own) m.replies m

back_named : (world : World) (client : ℕ) → IsNamed world → IsNamed (come_back world client)
back_named world client n c good =
    let later = later_fact world.past (Fact.Joined client) in
    let m = n c (later.strayed c good) in
    at_later world (come_back world client) c later refl m.requests m.held m.opens
    (replies_later c world.past _ (world.replies c) later m.replies) m

pub gone_named : (world : World) (client : ℕ) (reply : Reply) (queue : List Reply) → world.replies client ≡ reply ∷ queue
    → IsNamed world → IsNamed (reply_gone world client queue)
gone_named world client reply queue first n c good =
    let later = later_fact world.past (Fact.Took client) in
    let m = n c (later.strayed c good) in
    at_later world (reply_gone world client queue) c later refl m.requests m.held m.opens
    (by_client (λ d. Each (IsNamedReply d (Fact.Took client ∷ world.past)) (world.replies d)
    → Each (IsNamedReply d (Fact.Took client ∷ world.past)) (put world.replies client queue d)) client c
    (λ old. subst (Each (IsNamedReply client (Fact.Took client ∷ world.past))) (sym (put_same world.replies client queue))
    (subst (Each (IsNamedReply client (Fact.Took client ∷ world.past))) first old).1)
    (λ ne apart old. subst (Each (IsNamedReply c (Fact.Took client ∷ world.past)))
    (sym (put_other world.replies client queue c ne)) old) (replies_later c world.past _ (world.replies c) later m.replies)) m

fact_named : (world : World) (fact : Fact) → IsNamed world → IsNamed (happened world fact)
fact_named world fact n c good =
    let later = later_fact world.past fact in
    let m = n c (later.strayed c good) in
    at_later world (happened world fact) c later refl m.requests m.held m.opens
    (replies_later c world.past _ (world.replies c) later m.replies) m

strayed_named : (world : World) (client : ℕ) (request : Request) → has_strayed client world.past ≡ true → IsNamed world
    → IsNamed (strayed world client request)
strayed_named world client request has n c good =
    let m = n c good in
    at_later world (strayed world client request) c (later_same world.past) refl
    (subst (Each (IsNamedRequest c (world.clients c).guid world.past))
    (sym (put_other world.requests client _ c
    (λ e. clash (has_strayed c world.past) (ap (λ d. has_strayed d world.past) e ∙ has) good))) m.requests)
    m.held m.opens m.replies m

-- ---- nothing is falsely done

abbrev pub HasTrueNames : World → Type 0
HasTrueNames world = IsNamed world × EachFact NoFalseDone world.past

told_true : (past : List Fact) (outs : List Out) → EachFact NoFalseDone past → EachFact NoFalseDone (told past outs)
told_true past [] each = each
told_true past (Out.Sent client reply ∷ outs) each = told_true (Fact.Sent client ∷ past) outs (tt, each)
told_true past (Out.Opened file client ∷ outs) each = told_true (Fact.Opened file client ∷ past) outs (tt, each)
told_true past (Out.Changed file client number patch ∷ outs) each =
    told_true (Fact.Changed file client number patch ∷ past) outs (tt, each)

moved_true : (world : World) (step : SmallStep) → Ground world → IsNext world step → HasTrueNames world
    → HasTrueNames (moved world step)
moved_true world step g next t = (
  λ c good. step_deed world (λ new. (d : ℕ) → has_strayed d world.past ≡ false → IsNamedAt new d)
      (deeds_named world g t.0) step next c ((later_told world.past (step_taken step (begun world.server)).outs).strayed c
      (subst (λ past. has_strayed c past ≡ false) (moved_past world step) good)),
  subst (EachFact NoFalseDone) (sym (moved_past world step))
      (told_true world.past (step_taken step (begun world.server)).outs t.1),
)

noted_true : (client : ℕ) (first past : List Fact) (notes : List Note) → IsLater first past
    → (has_strayed client first ≡ false → EachNote (IsTrueDone client first) notes) → EachFact NoFalseDone past
    → EachFact NoFalseDone (past_noted client past notes)
noted_true client first past [] later each facts = facts
noted_true client first past (Note.Settled number Settlement.Done ∷ notes) later each facts =
    let fact = Fact.Settled client number Settlement.Done in
    noted_true client first (fact ∷ past) notes
    (later_then first past (fact ∷ past) later (later_fact past fact)) (λ good. (each good).1)
    (λ good. later.accepted client number (each (later.strayed client good)).0, facts)
noted_true client first past (Note.Settled number Settlement.Failed ∷ notes) later each facts =
    let fact = Fact.Settled client number Settlement.Failed in
    noted_true client first (fact ∷ past) notes
    (later_then first past (fact ∷ past) later (later_fact past fact)) (λ good. (each good).1) (tt, facts)
noted_true client first past (Note.Settled number Settlement.Unknown ∷ notes) later each facts =
    let fact = Fact.Settled client number Settlement.Unknown in
    noted_true client first (fact ∷ past) notes
    (later_then first past (fact ∷ past) later (later_fact past fact)) (λ good. (each good).1) (tt, facts)
noted_true client first past (Note.Settled number Settlement.Lost ∷ notes) later each facts =
    let fact = Fact.Settled client number Settlement.Lost in
    noted_true client first (fact ∷ past) notes
    (later_then first past (fact ∷ past) later (later_fact past fact)) (λ good. (each good).1) (tt, facts)
noted_true client first past (Note.Wrote file number patch buffered ∷ notes) later each facts =
    let fact = Fact.Wrote client file number patch buffered in
    noted_true client first (fact ∷ past) notes
    (later_then first past (fact ∷ past) later (later_fact past fact)) (λ good. (each good).1) (tt, facts)
noted_true client first past (Note.Believes file state ∷ notes) later each facts =
    let fact = Fact.Believes client file state in
    noted_true client first (fact ∷ past) notes
    (later_then first past (fact ∷ past) later (later_fact past fact)) (λ good. (each good).1) (tt, facts)
noted_true client first past (Note.CachedRead file bytes ∷ notes) later each facts =
    let fact = Fact.CachedRead client file bytes in
    noted_true client first (fact ∷ past) notes
    (later_then first past (fact ∷ past) later (later_fact past fact)) (λ good. (each good).1) (tt, facts)

stepped_true : (world : World) (client : ℕ) (call : ClientCall)
    → (client_called (world.clients client) call).client.guid ≡ (world.clients client).guid
    → (has_strayed client world.past ≡ false → IsCallNamed client world.past call) → HasTrueNames world
    → HasTrueNames (stepped_in world client (client_called (world.clients client) call))
stepped_true world client call same named t =
    let step = client_called (world.clients client) call in (
      stepped_named world client call same named t.0,
      subst (EachFact NoFalseDone) (sym (stepped_past world client step))
          (noted_true client world.past world.past step.notes (later_same world.past)
          (λ good. (call_named client (world.clients client) world.past call (t.0 client good).entries (named good)).done) t.1),
    )

told_true_done : (client : ℕ) (fact : Fact) (past : List Fact) → IsTold client fact → NoFalseDone fact past
told_true_done client fact past is = grind arith

pub true_moves : IsMoved Ground HasTrueNames
true_moves world (Move.Told client fact) is g t =
    (fact_named world fact t.0, (told_true_done client fact world.past is, t.1))
true_moves world (Move.Step step) next g t = moved_true world step g next t
true_moves world (Move.Cut client) up g t = (cut_named world client t.0, (tt, t.1))
true_moves world (Move.Expire client file) (on, breaks) g t = (timer_named world client file t.0, (tt, t.1))
true_moves world (Move.Scavenge file_id) may g t = (scavenge_named world file_id t.0, t.1)
true_moves world (Move.Connect client) down g t = stepped_true (come_back world client) client ClientCall.Connected refl
    (λ good. tt) (back_named world client t.0, (tt, t.1))
true_moves world (Move.Commanded client command) may g t = stepped_true world client (ClientCall.Commanded command)
    (commanded-stays (world.clients client) command).guid (λ good. tt) t
true_moves world (Move.Take client reply queue) first g t = stepped_true (reply_gone world client queue) client
    (ClientCall.Taken reply) (taken-stays (world.clients client) reply).guid
    (λ good. let later = later_fact world.past (Fact.Took client) in
    (replies_later client world.past (Fact.Took client ∷ world.past) (reply ∷ queue) later
    (subst (Each (IsNamedReply client world.past)) first (t.0 client (later.strayed client good)).replies)).0)
    (gone_named world client reply queue first t.0, (tt, t.1))
true_moves world (Move.Notice client) cut g t = stepped_true (record world { links = put world.links client Link.Down }) client
    ClientCall.Noticed refl (λ good. tt) (
      λ c good. let m = t.0 c good in
          at_later world (record world { links = put world.links client Link.Down }) c (later_same world.past) refl
          m.requests m.held m.opens m.replies m,
      t.1,
    )
true_moves world (Move.Stray client request) (up, has) g t = (strayed_named world client request has t.0, t.1)

-- ---- where runs begin, and every run

starts_true : (first : ℕ) (files : List (List ℕ)) (past : List Fact) → EachFact NoFalseDone past
    → EachFact NoFalseDone (reverse_aux (starts_from first files) past)
unfolding starts_from
starts_true first [] past each = each
starts_true first (bytes ∷ files) past each = starts_true (first + 1) files (Fact.Start first bytes ∷ past) (tt, each)

pub first_true : (rules : Rules) (setup : Setup) → HasTrueNames (first_world_under rules setup)
unfolding first_world_under new_server_under new_client
first_true rules setup = (
  λ c good. record {
    requests = tt;
    held = λ file one a own. absurd a;
    opens = λ one a own. absurd a;
    replies = tt;
    entries = λ file. record { sent = tt; phase = tt };
  },
  starts_true 1 setup.files [] tt,
)

pub run_true : (rules : Rules) (setup : Setup) (events : List Event)
    → Both Ground HasTrueNames (after (first_world_under rules setup) events)
run_true rules setup events = runs_have (Both Ground HasTrueNames) (λ world both. both.0)
    (carried_both Ground HasTrueNames ground_carried true_moves) rules setup
    (first_ground rules setup, first_true rules setup) events

pub nothing_is_falsely_done : NothingIsFalselyDone
nothing_is_falsely_done rules setup events allowed = let names = (run_true rules setup events).1 in
    subst (EachFact NoFalseDone) (sym (reverse-reverse (after (first_world_under rules setup) events).past)) names.1
