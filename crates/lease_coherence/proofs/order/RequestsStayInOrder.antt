-- Every move keeps a client's requests in order.
use Rattle.lease_laws.proofs.Words.{◌++◌, ◌==◌, ◌∙◌, ◌∷◌, ◌≡◌, Among, Bool, Client, Fact, FileRequest, Held, IsAbout}
use Rattle.lease_laws.proofs.Words.{IsOpenOn, Link, List, LiveEntry, None, Ok, Open, Pending, Phase, Reply, Request, Server}
use Rattle.lease_laws.proofs.Words.{Some, Step, World, ℕ, [], ⊎_elim, ⊤, ap, ap₂, break_notice, commanded, connect_turn}
use Rattle.lease_laws.proofs.Words.{connected_again, connected_open, connection_made, eq-eqb, eqb-true, file_asked}
use Rattle.lease_laws.proofs.Words.{file_of_open, flat_map, granted_form_of, held_of, inl, inr, is_up, key_of}
use Rattle.lease_laws.proofs.Words.{lease_after, lease_key, machine_key, not, numbers_to, put, refl, stepped_in, subst, sym}
use Rattle.lease_laws.proofs.Words.{taken, true, was_opened}
use Rattle.lease_laws.proofs.client.Forms.{commanded-stays, taken-stays}
use Rattle.lease_laws.proofs.client.Thin.{put_other, put_same}
use Rattle.lease_laws.proofs.client.cases.Commands.{any_command}
use Rattle.lease_laws.proofs.client.cases.Replies.{any_reply}
use Rattle.lease_laws.proofs.server.Lists.{among_append, among_before, among_behind, among_filtered, clash, either, if_cases}
use Rattle.lease_laws.proofs.server.Lists.{not_true}
use Rattle.lease_laws.proofs.server.cases.Ends.{found_open}
use Rattle.lease_laws.proofs.world.Runs.{stepped_server}
use Rattle.lease_coherence.specs.Agreement.{as_requests, asked_of}
use Rattle.lease_coherence.specs.Creates.{held_by}
use Rattle.lease_coherence.specs.Names.{Each, IsNamedAt, IsNamedPhase}
use Rattle.lease_coherence.specs.Standing.{AllAsked, IsNoClose, IsStandingAt, NotClosed, PhaseStands, Stands}
use Rattle.lease_coherence.proofs.creates.Creates.{none_held}
use Rattle.lease_coherence.proofs.layers.Layers.{HasRecord}
use Rattle.lease_coherence.proofs.moves.Deeds.{HasArrived, IsSource, WasHeld, changed_in, done_reply, granted_in, held_in}
use Rattle.lease_coherence.proofs.moves.Deeds.{leased_in, reconnected_in, told_to, without_opens}
use Rattle.lease_coherence.proofs.moves.Events.{Ground, come_back, connected, reply_gone, timed_out}
use Rattle.lease_coherence.proofs.moves.Foreign.{IsUnmoved, apart, false_not, map_kept}
use Rattle.lease_coherence.proofs.moves.Frames.{lease_put_rest, stepped_past}
use Rattle.lease_coherence.proofs.moves.Moves.{IsOldest, popped, rest_of}
use Rattle.lease_coherence.proofs.moves.Own.{IsOwnMoved, IsUp}
use Rattle.lease_coherence.proofs.names.NamedInRecord.{each_append, each_weaker}
use Rattle.lease_coherence.proofs.order.OrderedRequests.{AreOrdered, IsInOrder, IsNoWrite, IsOpenIn, WriteStands, append_three}
use Rattle.lease_coherence.proofs.order.OrderedRequests.{asked_among, held_ordered, none_before, none_own, none_there, ordered_behind, ordered_more}
use Rattle.lease_coherence.proofs.order.OrderedRequests.{popped_ordered}
use Rattle.lease_coherence.proofs.order.Sends.{SendsInOrder, UnderLive, commands_send, off_order, same_order, sends}
use Rattle.lease_coherence.proofs.order.Sends.{stands_later, takes_send}
use Rattle.lease_coherence.proofs.records.Later.{IsLater, later_fact, later_noted, later_same, later_two}
use Rattle.lease_coherence.proofs.standing.OpensStayStanding.{each_flat, gone_standing}
use Rattle.lease_coherence.proofs.standing.Servers.{again_up, stands_by, timer_stands}
use Rattle.lease_coherence.proofs.standing.Standing.{IsStepped, stands_after, step_of}
use Rattle.lease_coherence.proofs.standing.StandingOpens.{asked_held, asked_popped, asked_unmoved, asked_weaker}
use Rattle.lease_coherence.proofs.writes.Answered.{ground_of, names_of}

-- ---- an open that is closed

-- no write of it is left
left_writes : (world off : World) (c file_id : ℕ) (one : Open) → IsSource world off c (FileRequest.Close file_id)
    → Ground world → connected_open off.server c file_id ≡ Some one → IsNamedAt world c → IsInOrder world c
    → AllAsked (IsNoWrite file_id) off c
left_writes world off c file_id one source g found n o = ⊎_elim arrived was_held source.from
  where
    there : Among one off.server.opens
    there = (found_open off.server c file_id one found).there

    id : one.file_id ≡ file_id
    id = (found_open off.server c file_id one found).id

    -- a write of it that is held is held on the open's file
    same_place : (at : ℕ) (x : Held) → Among x (world.server.held at) → Among one world.server.opens → (number : ℕ)
        → (patch : _) → x.request ≡ FileRequest.Write file_id number patch → one.file ≡ at
    same_place at x a mine number patch is = about_file x.request is (g.fine.orderly.held_about at x a)
      where
        about_file : (r : FileRequest) → r ≡ FileRequest.Write file_id number patch → IsAbout world.server at r → one.file ≡ at
        about_file r is about = on_open (subst (IsAbout world.server at) is about)
          where
            on_open : IsOpenOn world.server at file_id → one.file ≡ at
            on_open x = x.is_on_file one mine id

    not_held : (at : ℕ) (x : Held) → ((number : ℕ) (patch : _) → x.request ≡ FileRequest.Write file_id number patch → ⊥)
        → IsNoWrite file_id (Request.OnFile x.request)
    not_held at x never = by_request x.request refl
      where
        by_request : (r : FileRequest) → x.request ≡ r → IsNoWrite file_id (Request.OnFile r)
        by_request (FileRequest.Write other number patch) is =
            λ same. never number patch (is ∙ ap (λ i. FileRequest.Write i number patch) same)
        by_request request is = tt

    each_held : (held : List Held) → Each (IsNoWrite file_id) (as_requests (held_by c held)) → (x : Held) → Among x held
        → x.client ≡ c → IsNoWrite file_id (Request.OnFile x.request)
    each_held [] each x a own = absurd a
    each_held (y ∷ held) each x a own = if_cases
        (λ l. Each (IsNoWrite file_id) (as_requests l) → IsNoWrite file_id (Request.OnFile x.request)) (y.client == c)
        (y ∷ held_by c held) (held_by c held)
        (λ mine e. ⊎_elim (λ same. subst (λ (h : Held). IsNoWrite file_id (Request.OnFile h.request)) (sym same) e.0)
        (λ later. each_held held e.1 x later own) a)
        (λ other e. ⊎_elim (λ same. clash (y.client == c) (eq-eqb y.client c (ap (λ (h : Held). h.client) (sym same) ∙ own))
        other) (λ later. each_held held e x later own) a) each

    arrived : HasArrived world off c (FileRequest.Close file_id) → AllAsked (IsNoWrite file_id) off c
    arrived a =
        let mine = subst (λ (w : World). Among one w.server.opens) a.is_off there in
        let asked : file_asked world.server c (FileRequest.Close file_id) ≡ Ok one.file =
        ap file_of_open (subst (λ (w : World). connected_open w.server c file_id ≡ Some one) a.is_off found) in
        let none = none_there world off c one.file (FileRequest.Close file_id) n a asked in
        let q = subst (λ l. AreOrdered l) (ap₂ (λ (h : List Held) r. as_requests h ++ r)
        none a.oldest.is_first) (o.ordered one.file) in
        subst (λ w. AllAsked (IsNoWrite file_id) w c) (sym a.is_off) (record {
          queued = subst (Each (IsNoWrite file_id))
              (sym (put_same world.requests c (rest_of (world.requests c)) ∙ ap rest_of a.oldest.is_first)) q.0;
          held = λ at x b own. not_held at x (λ number patch is. none_own c (world.server.held one.file) x none
              (subst (λ n. Among x (world.server.held n)) (sym (same_place at x b mine number patch is)) b) own);
        })

    was_held : WasHeld world off c (FileRequest.Close file_id) → AllAsked (IsNoWrite file_id) off c
    was_held h =
        let mine = subst (λ (w : World). Among one w.server.opens) h.is_off there in
        let close = held_of c (FileRequest.Close file_id) h.lane in
        let place : one.file ≡ h.file =
        on_place (g.fine.orderly.held_about h.file close (subst (λ (l : List Held). Among close l) (sym h.held)
        (among_behind close h.before (close ∷ h.behind) (inl refl)))) mine in
        let q = ordered_behind (as_requests (held_by c h.before)) _
        (subst AreOrdered (ap (λ l. as_requests (held_by c l) ++ world.requests c) h.held
        ∙ asked_among c h.before h.behind close (world.requests c) (eq-eqb c c refl)) (o.ordered h.file)) in
        let parts = each_split (as_requests (held_by c h.behind)) (world.requests c) q.0 in
        subst (λ w. AllAsked (IsNoWrite file_id) w c) (sym h.is_off) (record {
          queued = parts.1;
          held = λ at x b own. either (at == h.file)
              (λ same. in_left x (subst (λ l. Among x l) (ap (put world.server.held h.file (h.before ++ h.behind))
              (eqb-true at h.file same) ∙ put_same world.server.held h.file (h.before ++ h.behind)) b) own parts.0)
              (λ other. not_held at x (λ number patch is. clash (at == h.file) (eq-eqb at h.file (sym (same_place at x
              (subst (λ l. Among x l) (put_other world.server.held h.file (h.before ++ h.behind) at
              (λ e. clash (at == h.file) (eq-eqb at h.file e) other)) b) mine number patch is) ∙ place)) other));
        })
      where
        on_place : IsOpenOn world.server h.file file_id → Among one world.server.opens → one.file ≡ h.file
        on_place x mine = x.is_on_file one mine id

        each_split : (xs ys : List Request) → Each (IsNoWrite file_id) (xs ++ ys)
            → Each (IsNoWrite file_id) xs × Each (IsNoWrite file_id) ys
        each_split [] ys e = (tt, e)
        each_split (y ∷ xs) ys e = let r = each_split xs ys e.1 in ((e.0, r.0), r.1)

        in_left : (x : Held) → Among x (h.before ++ h.behind) → x.client ≡ c
            → Each (IsNoWrite file_id) (as_requests (held_by c h.behind)) → IsNoWrite file_id (Request.OnFile x.request)
        in_left x a own each = ⊎_elim
            (λ first. absurd (none_own c h.before x (none_before world off c (FileRequest.Close file_id) n h) first own))
            (λ last. each_held h.behind each x last own) (among_append x h.before h.behind a)

-- ---- moves of the server

replied_order : (off new : World) (c : ℕ) → new.clients c ≡ off.clients c → new.requests c ≡ off.requests c
    → new.server.held ≡ off.server.held → new.server.expired ≡ off.server.expired → IsLater off.past new.past
    → ((one : Open) → one.client ≡ c → one.connected ≡ true → Among one off.server.opens → Among one new.server.opens)
    → IsInOrder off c → IsInOrder new c
replied_order off new c machine requests held expired later kept o = same_order off new c requests held later
    (λ file id s. stands_by off new c file id machine expired (λ one own up same a. kept one own up a) s) o

closed_order : (world off : World) (c file_id : ℕ) (one : Open) → IsSource world off c (FileRequest.Close file_id)
    → Ground world → connected_open off.server c file_id ≡ Some one → IsNamedAt world c → IsInOrder world c
    → IsInOrder (told_to (without_opens off (λ other. other.file_id == file_id)) c (Reply.Closed file_id)) c
closed_order world off c file_id one source g found n o =
    let test : Open → Bool = λ other. other.file_id == file_id in
    let new = told_to (without_opens off test) c (Reply.Closed file_id) in
    let was = off_order world off c (FileRequest.Close file_id) source o in
    let none = left_writes world off c file_id one source g found n o in record {
      ordered = was.ordered;
      stands = record {
        queued = each_both (WriteStands off c) (IsNoWrite file_id) (WriteStands new c) (off.requests c) still
            was.stands.queued none.queued;
        held = λ at x a own. still (Request.OnFile x.request) (was.stands.held at x a own) (none.held at x a own);
      };
    }
  where
    each_both : (P Q R : Request → Type 0) (queue : List Request) → ((r : Request) → P r → Q r → R r) → Each P queue
        → Each Q queue → Each R queue
    each_both P Q R [] f p q = tt
    each_both P Q R (r ∷ queue) f p q = (f r p.0 q.0, each_both P Q R queue f p.1 q.1)

    still : (r : Request) → WriteStands off c r → IsNoWrite file_id r
        → WriteStands (told_to (without_opens off (λ other. other.file_id == file_id)) c (Reply.Closed file_id)) c r
    still (Request.OnFile (FileRequest.Write other number patch)) s ne = record {
      file = s.file;
      opened = (later_fact off.past (Fact.Sent c)).opened other s.file c s.opened;
      stands = stands_by off (told_to (without_opens off (λ x. x.file_id == file_id)) c (Reply.Closed file_id)) c s.file
          other refl refl
          (λ x own up same a. among_filtered (λ y. not (y.file_id == file_id)) x off.server.opens a
          (false_not (x.file_id == file_id) (apart x.file_id file_id (λ e. ne (sym same ∙ e))))) s.stands;
    }
    still (Request.OnFile (FileRequest.Create file access share contexts)) s ne = tt
    still (Request.Acknowledge given) s ne = tt
    still (Request.OnFile request) s ne = tt

popped_order : (world : World) (c : ℕ) (request : Request) → IsOldest world c request → IsInOrder world c
    → IsInOrder (popped world c) c
popped_order world c request oldest o = record {
  ordered = λ file. popped_ordered world c file request oldest (o.ordered file);
  stands = asked_weaker (WriteStands world c) (WriteStands (popped world c) c) (popped world c) c
      (stands_later world (popped world c) c (later_same world.past)
      (λ file id s. stands_by world (popped world c) c file id refl refl (λ one own up same a. a) s))
      (asked_popped (WriteStands world c) world c o.stands);
}

hold_order : (world : World) (at : ℕ) (one : Held) → IsOldest world one.client (Request.OnFile one.request)
    → IsInOrder world one.client → IsInOrder (held_in (popped world one.client) at one) one.client
hold_order world at one oldest o =
    let new = held_in (popped world one.client) at one in record {
      ordered = λ file. held_ordered world at one oldest file (o.ordered file);
      stands = asked_weaker (WriteStands world one.client) (WriteStands new one.client) new one.client
          (stands_later world new one.client (later_same world.past)
          (λ file id s. stands_by world new one.client file id refl refl (λ x own up same a. a) s))
          (asked_held (WriteStands world one.client) world at one oldest o.stands);
    }

-- ---- steps of the client

not_closed_held : (c : ℕ) (file_id : ℕ) (held : List Held)
    → ((one : Held) → Among one held → one.client ≡ c → IsNoClose file_id (Request.OnFile one.request))
    → Each (IsNoClose file_id) (as_requests (held_by c held))
not_closed_held c file_id [] each = tt
not_closed_held c file_id (one ∷ held) each = if_cases (λ l. Each (IsNoClose file_id) (as_requests l)) (one.client == c)
    (one ∷ held_by c held) (held_by c held)
    (λ own. (each one (inl refl) (eqb-true one.client c own), not_closed_held c file_id held (λ x a. each x (inr a))))
    (λ other. not_closed_held c file_id held (λ x a. each x (inr a)))

stepped_order : (world : World) (c : ℕ) (step : Step) → is_up (world.links c) ≡ true
    → step.client.guid ≡ (world.clients c).guid → SendsInOrder (world.clients c) step → IsStandingAt world c
    → ((file : ℕ) (live : LiveEntry) → ((world.clients c).entries file).phase ≡ Phase.Live live
    → was_opened live.file_id file c world.past ≡ true) → IsInOrder world c → IsInOrder (stepped_in world c step) c
stepped_order world c step up guid sends s opened o = record {
  ordered = λ file. subst (λ q. AreOrdered (as_requests (held_by c (new.server.held file)) ++ q)) (sym is.queued)
      (subst (λ (x : Server). AreOrdered (as_requests (held_by c (x.held file)) ++ (world.requests c ++ step.requests)))
      (sym is.server)
      (subst AreOrdered (append_three (as_requests (held_by c (world.server.held file))) (world.requests c) step.requests)
      (ordered_more (asked_of world c file) step.requests (o.ordered file) sends.ordered
      (each_weaker (UnderLive (world.clients c)) (IsOpenIn (asked_of world c file)) step.requests (open_in file) sends.under))));
  stands = record {
    queued = subst (Each (WriteStands new c)) (sym is.queued) (each_append (WriteStands new c) (world.requests c) step.requests
        (each_weaker (WriteStands world c) (WriteStands new c) (world.requests c)
        (stands_later world new c later stays) o.stands.queued)
        (each_weaker (UnderLive (world.clients c)) (WriteStands new c) step.requests new_stands sends.under));
    held = λ file one a own. stands_later world new c later stays (Request.OnFile one.request)
        (o.stands.held file one (subst (λ (x : Server). Among one (x.held file)) is.server a) own);
  };
}
  where
    new : World
    new = stepped_in world c step

    is : IsStepped world (stepped_in world c step) c step.client step.requests
    is = step_of world c step up guid

    later : IsLater world.past (stepped_in world c step).past
    later = subst (IsLater world.past) (sym (stepped_past world c step)) (later_noted c world.past step.notes)

    stays : (file id : ℕ) → Stands world c file id → Stands (stepped_in world c step) c file id
    stays file id x = stands_after world (stepped_in world c step) c step.client step.requests
        (step_of world c step up guid) file id x

    live_stands : (file : ℕ) (live : LiveEntry) → ((world.clients c).entries file).phase ≡ Phase.Live live
        → Stands world c file live.file_id × NotClosed world c live.file_id
    live_stands file live e = subst (PhaseStands world c file) e (s.phases file)

    open_in : (file : ℕ) (r : Request) → UnderLive (world.clients c) r → IsOpenIn (asked_of world c file) r
    open_in file (Request.OnFile (FileRequest.Write file_id number patch)) u =
        let n = (live_stands u.file u.live u.is).1 in
        subst (λ i. Each (IsNoClose i) (asked_of world c file)) u.id
        (each_append (IsNoClose u.live.file_id) (as_requests (held_by c (world.server.held file))) (world.requests c)
        (not_closed_held c u.live.file_id (world.server.held file) (λ one a own. n.held file one a own)) n.queued)
    open_in file request u = tt

    new_stands : (r : Request) → UnderLive (world.clients c) r → WriteStands (stepped_in world c step) c r
    new_stands (Request.OnFile (FileRequest.Write file_id number patch)) u = record {
      file = u.file;
      opened = subst (λ i. was_opened i u.file c (stepped_in world c step).past ≡ true) u.id
          ((subst (IsLater world.past) (sym (stepped_past world c step)) (later_noted c world.past step.notes)).opened
          u.live.file_id u.file c (opened u.file u.live u.is));
      stands = subst (λ i. Stands (stepped_in world c step) c u.file i) u.id
          (stands_after world (stepped_in world c step) c step.client step.requests (step_of world c step up guid) u.file
          u.live.file_id (live_stands u.file u.live u.is).0);
    }
    new_stands (Request.OnFile (FileRequest.Create f access share contexts)) u = tt
    new_stands (Request.Acknowledge given) u = tt
    new_stands (Request.OnFile request) u = tt

live_opened : (world : World) (c : ℕ) → IsNamedAt world c → (file : ℕ) (live : LiveEntry)
    → ((world.clients c).entries file).phase ≡ Phase.Live live → was_opened live.file_id file c world.past ≡ true
live_opened world c n file live is =
    let p : IsNamedPhase c file world.past (Phase.Live live) =
    subst (IsNamedPhase c file world.past) is (n.entries file).phase in p.0

-- ---- a client connects

abbrev pub IsCreate : Request → Type 0
IsCreate (Request.OnFile (FileRequest.Create file access share contexts)) = ⊤
IsCreate request = ⊥

creates_ordered : (queue : List Request) → Each IsCreate queue → AreOrdered queue
creates_ordered [] each = tt
creates_ordered (Request.OnFile (FileRequest.Create file access share contexts) ∷ queue) each = (tt, creates_ordered queue each.1)
creates_ordered (Request.OnFile (FileRequest.Read file_id) ∷ queue) each = absurd each.0
creates_ordered (Request.OnFile (FileRequest.Write file_id number patch) ∷ queue) each = absurd each.0
creates_ordered (Request.OnFile (FileRequest.Close file_id) ∷ queue) each = absurd each.0
creates_ordered (Request.Acknowledge given ∷ queue) each = absurd each.0

create_stands : (world : World) (c : ℕ) (r : Request) → IsCreate r → WriteStands world c r
create_stands world c (Request.OnFile (FileRequest.Create file access share contexts)) is = tt
create_stands world c request is = absurd is

-- a client that connects asks only for creates
pub connect_creates : (world : World) (c : ℕ) → Ground world → world.links c ≡ Link.Down
    → Each IsCreate ((connected world c).requests c)
connect_creates world c g down =
    let machine = world.clients c in
    let back = come_back world c in
    let step = connection_made machine in
    let turn : ℕ → List Request = λ f. (connect_turn machine f (machine.entries f).sent (machine.entries f).phase).requests in
    let queued : (connected world c).requests c ≡ flat_map turn (numbers_to machine.files) =
    (step_of back c step (ap is_up (put_same world.links c Link.Up)) refl).queued
    ∙ ap (λ (q : List Request). q ++ flat_map turn (numbers_to machine.files)) ((g.tied c).requests (ap is_up down)) in
    subst (Each IsCreate) (sym queued) (each_flat IsCreate turn (numbers_to machine.files)
    (λ f. only f (machine.entries f).sent (machine.entries f).phase))
  where
    only : (f : ℕ) (sent : List Pending) (phase : Phase) → Each IsCreate (connect_turn (world.clients c) f sent phase).requests
    only f sent (Phase.Offline parted) = (tt, tt)
    only f sent phase = tt

-- and has none that is held
pub connect_held : (world : World) (c : ℕ) → Ground world → world.links c ≡ Link.Down → (file : ℕ)
    → held_by c ((connected world c).server.held file) ≡ []
connect_held world c g down file =
    ap (λ (x : Server). held_by c (x.held file)) (stepped_server (come_back world c) c (connection_made (world.clients c)))
    ∙ none_held world c g (ap is_up down) file

pub connect_order : (world : World) (c : ℕ) → Ground world → world.links c ≡ Link.Down → IsInOrder (connected world c) c
connect_order world c g down =
    let new = connected world c in
    let creates = connect_creates world c g down in record {
      ordered = λ file. subst (λ l. AreOrdered (as_requests l ++ new.requests c)) (sym (connect_held world c g down file))
          (creates_ordered (new.requests c) creates);
      stands = record {
        queued = each_weaker IsCreate (WriteStands new c) (new.requests c) (create_stands new c) creates;
        held = λ file one a own. absurd (not_there one (subst (λ (l : List Held). Among one l) (connect_held world c g down file)
            (among_filtered (λ h. h.client == c) one (new.server.held file) a (eq-eqb one.client c own))));
      };
    }
  where
    not_there : (one : Held) → Among one [] → ⊥
    not_there one a = a

-- ---- all moves

unmoved_order : (world new : World) (c : ℕ) → IsUnmoved world new c → IsInOrder world c → IsInOrder new c
unmoved_order world new c u o = record {
  ordered = λ file. subst (λ q. AreOrdered (as_requests (held_by c (new.server.held file)) ++ q)) (sym u.requests)
      (subst (λ l. AreOrdered (as_requests l ++ world.requests c)) (sym (u.held file)) (o.ordered file));
  stands = asked_weaker (WriteStands world c) (WriteStands new c) new c (stands_later world new c u.later stays)
      (asked_unmoved (WriteStands world c) world new c u o.stands);
}
  where
    stays : (file id : ℕ) → Stands world c file id → Stands new c file id
    stays file id x = ⊎_elim
        (λ out. inl (u.expired (machine_key new c file) refl
        ∙ ap (λ (k : Client). world.server.expired (key_of c (lease_key k.guid file))) u.machine ∙ out))
        (λ o. inr (record {
          one = o.one;
          there = u.kept o.one o.by o.there;
          id = o.id;
          by = o.by;
          on_file = o.on_file;
          up = o.up;
        })) x

timer_stays : (world : World) (c at : ℕ) → IsNamedAt world c → (file id : ℕ) → Stands world c file id
    → Stands (timed_out world c at) c file id
timer_stays world c at n file id s = timer_stands world c at n file id s

pub order_moves : IsOwnMoved HasRecord IsUp IsInOrder
order_moves = record {
  unmoved = λ world new c k u a. unmoved_order world new c u a;
  told = λ world off c request reply k source is a. replied_order off (told_to off c reply) c refl refl refl refl
      (later_fact off.past (Fact.Sent c)) (λ one own y x. x) (off_order world off c request source a);
  granted = λ world off c file access share ask k source none on free a.
      let lease = lease_after off.server c file ask.lease in
      replied_order off (granted_in off c file access share ask lease) c refl refl
      (lease_put_rest off.server c ask.lease lease (λ s. s.held ≡ off.server.held) (λ l. refl))
      (lease_put_rest off.server c ask.lease lease (λ s. s.expired ≡ off.server.expired) (λ l. refl))
      (later_two off.past (Fact.Opened file c) (Fact.Sent c)) (λ one own y x. among_before one off.server.opens _ x)
      (off_order world off c _ source a);
  reconnected = λ world off c file access share ask file_id k source again on waits a.
      replied_order off (reconnected_in off c file ask file_id) c refl refl refl refl (later_fact off.past (Fact.Sent c))
      (λ one own y x. map_kept (connected_again file_id) one off.server.opens (again_up file_id one y) x)
      (off_order world off c _ source a);
  changed = λ world off c file_id number patch one k source found may a.
      replied_order off (changed_in off c one.file file_id number patch) c refl refl refl refl
      (later_two off.past (Fact.Changed one.file c number patch) (Fact.Sent c)) (λ x own y z. z)
      (off_order world off c _ source a);
  closed = λ world off c file_id one k source found a.
      closed_order world off c file_id one source (ground_of world k.all) found (names_of world k.all c k.good) a;
  ack_failed = λ world c given status k oldest why a.
      replied_order (popped world c) (told_to (popped world c) c (Reply.AckFailed status)) c refl refl refl refl
      (later_fact world.past (Fact.Sent c)) (λ one own y x. x) (popped_order world c _ oldest a);
  ack_done = λ world c given lowered k oldest there breaks within a.
      replied_order (popped world c) (leased_in (popped world c) (key_of c given.key)
      (record { state = granted_form_of given.state; broken_to = None }) (done_reply given)) c refl refl refl refl
      (later_fact world.past (Fact.Sent c)) (λ one own y x. x) (popped_order world c _ oldest a);
  hold = λ world at one k oldest may turn a. hold_order world at one oldest a;
  dropped = λ world c test k away a.
      replied_order world (without_opens world test) c refl refl refl refl (later_same world.past)
      (λ one own y x. among_filtered (λ o. not (test o)) one world.server.opens x
      (false_not (test one) (not_true (test one) (λ t. clash one.connected y (away one t))))) a;
  lower = λ world key lowered k may light a.
      replied_order world (leased_in world key (record { state = lowered; broken_to = None })
      (break_notice key (world.server.leases key).state lowered)) key.client refl refl refl refl
      (later_fact world.past (Fact.Sent key.client)) (λ one own y x. x) a;
  begin = λ world key lowered k may heavy a. replied_order world (leased_in world key (record {
    state = (world.server.leases key).state;
    broken_to = Some lowered;
  }) (break_notice key (world.server.leases key).state lowered)) key.client refl refl refl refl
      (later_fact world.past (Fact.Sent key.client)) (λ one own y x. x) a;
  timer = λ world c at k on breaks a. same_order world (timed_out world c at) c refl refl
      (later_fact world.past (Fact.Expired c at)) (timer_stays world c at (names_of world k.all c k.good)) a;
  command = λ world c command k a.
      stepped_order world c (commanded (world.clients c) command) k.when (commanded-stays (world.clients c) command).guid
      (any_command (world.clients c) (SendsInOrder (world.clients c)) (commands_send (world.clients c)) command)
      (k.all.layers.opens c k.good k.when) (live_opened world c (names_of world k.all c k.good)) a;
  take = λ world c reply queue k first a.
      let gone = reply_gone world c queue in
      let machine = world.clients c in
      let s = k.all.layers.opens c k.good k.when in
      stepped_order gone c (taken machine reply) k.when (taken-stays machine reply).guid
      (any_reply machine (λ r step. SendsInOrder machine step) (takes_send machine) reply)
      (gone_standing world c reply queue first s)
      (λ file live is. (later_fact world.past (Fact.Took c)).opened live.file_id file c
      (live_opened world c (names_of world k.all c k.good) file live is))
      (same_order world gone c refl refl (later_fact world.past (Fact.Took c))
      (λ file id x. stands_by world gone c file id refl refl (λ one own y same z. z) x) a);
}
