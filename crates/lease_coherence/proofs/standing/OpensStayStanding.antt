-- Every move keeps standing what stands.
use Rattle.lease_laws.proofs.Words.{◌++◌, ◌==◌, ◌∙◌, ◌∷◌, ◌≡◌, Among, Client, Fact, FileRequest, Held, IsAbout, IsSoundPhase}
use Rattle.lease_laws.proofs.Words.{Link, List, Pending, Phase, Reply, Request, Server, Some, World, ℕ, [], ⊎_elim, ap, arith}
use Rattle.lease_laws.proofs.Words.{break_notice, commanded, connect_turn, connection_made, eq-eqb, false, flat_map}
use Rattle.lease_laws.proofs.Words.{has_strayed, inl, inr, is_down, is_up, key_of, not, numbers_to, refl, sent_over, subst, sym}
use Rattle.lease_laws.proofs.Words.{taken, true}
use Rattle.lease_laws.proofs.client.Forms.{commanded-stays, taken-stays}
use Rattle.lease_laws.proofs.client.Thin.{put_same}
use Rattle.lease_laws.proofs.client.cases.Commands.{any_command}
use Rattle.lease_laws.proofs.client.cases.Replies.{any_reply}
use Rattle.lease_laws.proofs.server.Lists.{among_filtered, clash}
use Rattle.lease_laws.proofs.world.Runs.{stepped_server}
use Rattle.lease_coherence.specs.Creates.{IsCountedAt, answer_of, answers, create_of, creates, has_asked, held_by, held_creates}
use Rattle.lease_coherence.specs.Creates.{one_if}
use Rattle.lease_coherence.specs.Names.{Each}
use Rattle.lease_coherence.specs.Standing.{AllAsked, AskFits, FitsPhase, GivenWell, IsNoClose, IsStandingAt, NotClosed}
use Rattle.lease_coherence.specs.Standing.{PhaseStands, Stands, again_of}
use Rattle.lease_coherence.proofs.creates.Creates.{none_held, off_rest, stepped_machine}
use Rattle.lease_coherence.proofs.layers.Layers.{HasLayers}
use Rattle.lease_coherence.proofs.moves.Deeds.{IsSource, done_reply}
use Rattle.lease_coherence.proofs.moves.Events.{Ground, come_back, connected, reply_gone}
use Rattle.lease_coherence.proofs.moves.Frames.{stepped_replies, stepped_requests}
use Rattle.lease_coherence.proofs.moves.Moves.{popped}
use Rattle.lease_coherence.proofs.moves.Own.{IsOwnMoved, IsUp, told_bare}
use Rattle.lease_coherence.proofs.names.Done.{gone_named}
use Rattle.lease_coherence.proofs.names.NamedInRecord.{each_append, each_weaker}
use Rattle.lease_coherence.proofs.names.Names.{off_counted, off_named}
use Rattle.lease_coherence.proofs.standing.Clients.{AllEntries, AnswersLast, FitsGiven, IsLastCreate, IsNoAnswer, IsNoCreate}
use Rattle.lease_coherence.proofs.standing.Clients.{StepStands, TakeStands, commands_stand, takes_stand}
use Rattle.lease_coherence.proofs.standing.Servers.{bare_plain, changed_standing, closed_standing, dropped_standing}
use Rattle.lease_coherence.proofs.standing.Servers.{granted_standing, held_standing, leased_standing, off_standing}
use Rattle.lease_coherence.proofs.standing.Servers.{popped_standing, reconnected_standing, timer_standing, told_standing}
use Rattle.lease_coherence.proofs.standing.Servers.{unmoved_standing}
use Rattle.lease_coherence.proofs.standing.Standing.{step_standing}
use Rattle.lease_coherence.proofs.standing.StandingOpens.{asked_off, head_of}

-- ---- no other create is under way

no_creates : (file : ℕ) (queue : List Request) → creates file queue ≡ 0 → Each (IsNoCreate file) queue
no_creates file [] e = tt
no_creates file (Request.OnFile request ∷ queue) e = (
  not_this request (omega (arith, e)),
  no_creates file queue (omega (arith, e)),
)
  where
    not_this : (r : FileRequest) → create_of file r ≡ 0 → IsNoCreate file (Request.OnFile r)
    not_this (FileRequest.Create other access share contexts) n = λ same. omega (arith, ap one_if (eq-eqb other file same), n)
    not_this request n = tt
no_creates file (Request.Acknowledge given ∷ queue) e = (tt, no_creates file queue e)

no_held : (file : ℕ) (held : List Held) (one : Held) → held_creates file held ≡ 0 → Among one held
    → create_of file one.request ≡ 0
no_held file [] one e a = absurd a
no_held file (x ∷ held) one e a = ⊎_elim
    (λ same. ap (λ (h : Held). create_of file h.request) same ∙ (omega (arith, e)))
    (λ later. no_held file held one (omega (arith, e)) later) a

no_answers : (file : ℕ) (queue : List Reply) → answers file queue ≡ 0 → Each (IsNoAnswer file) queue
no_answers file [] e = tt
no_answers file (reply ∷ queue) e = (
  not_this reply (omega (arith, e)),
  no_answers file queue (omega (arith, e)),
)
  where
    not_this : (r : Reply) → answer_of file r ≡ 0 → IsNoAnswer file r
    not_this (Reply.Created other id contexts) n = λ same. omega (arith, ap one_if (eq-eqb other file same), n)
    not_this reply n = tt

-- where an answer is taken, it is the last
last_create : (world : World) (c : ℕ) (reply : Reply) (queue : List Reply) → Ground world
    → is_up (world.links c) ≡ true → IsCountedAt world c → world.replies c ≡ reply ∷ queue → (file : ℕ)
    → answer_of file reply ≡ 1 → has_asked ((world.clients c).entries file).phase ≡ true
    → IsLastCreate (reply_gone world c queue) c file queue
last_create world c reply queue g up counted first file one asks =
    let whole = counted up file ∙ ap one_if asks in
    let parts = ap (λ (q : List Reply). answers file q) first in
    let asked = creates file (world.requests c) in
    let held = held_creates file (held_by c (world.server.held file)) in
    let more = answers file queue in
    record {
      asked = record {
        queued = no_creates file (world.requests c) (omega (arith, whole, parts, one));
        held = λ at x a own. held_not at x a own (omega (arith, whole, parts, one));
      };
      answers = no_answers file queue (omega (arith, whole, parts, one));
    }
  where
    held_not : (at : ℕ) (x : Held) → Among x (world.server.held at) → x.client ≡ c
        → held_creates file (held_by c (world.server.held file)) ≡ 0 → IsNoCreate file (Request.OnFile x.request)
    held_not at x a own none = by_request x.request refl
      where
        by_request : (r : FileRequest) → x.request ≡ r → IsNoCreate file (Request.OnFile r)
        by_request (FileRequest.Create other access share contexts) is = λ same.
            let about : other ≡ at = subst (IsAbout world.server at) is (g.fine.orderly.held_about at x a) in
            (omega (
              arith,
              ap (create_of file) is ∙ ap one_if (eq-eqb other file same),
              no_held file
                  (held_by c (world.server.held file)) x none (among_filtered (λ h. h.client == c) x (world.server.held file)
                  (subst (λ n. Among x (world.server.held n)) (sym about ∙ same) a) (eq-eqb x.client c own)),
            ))
        by_request request is = tt

answers_last : (world : World) (c : ℕ) (reply : Reply) (queue : List Reply) → Ground world
    → is_up (world.links c) ≡ true → IsCountedAt world c → world.replies c ≡ reply ∷ queue
    → AnswersLast (reply_gone world c queue) c queue reply
answers_last world c (Reply.Created file id contexts) queue g up counted first =
    λ asks. last_create world c (Reply.Created file id contexts) queue g up counted first file
    (ap one_if (eq-eqb file file refl)) asks
answers_last world c (Reply.CreateFailed file status) queue g up counted first =
    λ asks. last_create world c (Reply.CreateFailed file status) queue g up counted first file
    (ap one_if (eq-eqb file file refl)) asks
answers_last world c reply queue g up counted first = tt

-- ---- steps of the client

pub fits_of : (world : World) (c file : ℕ) (reply : Reply) → GivenWell world c reply
    → FitsGiven file ((world.clients c).entries file).phase reply
fits_of world c file (Reply.Created other id contexts) w =
    λ same. subst (λ f. FitsPhase ((world.clients c).entries f).phase id) same w.fits
fits_of world c file reply w = tt

pub entries_of : (world : World) (c : ℕ) → IsStandingAt world c → AllEntries world c (world.replies c)
entries_of world c s file = record {
  stands = s.phases file;
  given = each_weaker (GivenWell world c) (FitsGiven file ((world.clients c).entries file).phase) (world.replies c)
      (fits_of world c file) s.given;
}

-- a reply leaves its queue
pub gone_standing : (world : World) (c : ℕ) (reply : Reply) (queue : List Reply) → world.replies c ≡ reply ∷ queue
    → IsStandingAt world c → IsStandingAt (reply_gone world c queue) c
gone_standing world c reply queue first s = record {
  phases = λ file. phase_same file ((world.clients c).entries file).phase (s.phases file);
  given = subst (Each (GivenWell (reply_gone world c queue) c)) (sym (put_same world.replies c queue))
      (each_weaker (GivenWell world c) (GivenWell (reply_gone world c queue) c) queue given_same
      (rest_of_each (subst (Each (GivenWell world c)) first s.given)));
  asked = record { queued = s.asked.queued; held = s.asked.held };
}
  where
    rest_of_each : Each (GivenWell world c) (reply ∷ queue) → Each (GivenWell world c) queue
    rest_of_each each = each.1

    stands_same : {file id : ℕ} → Stands world c file id → Stands (reply_gone world c queue) c file id
    stands_same {file} {id} x = ⊎_elim (λ out. inl out) (λ o. inr (record {
      one = o.one;
      there = o.there;
      id = o.id;
      by = o.by;
      on_file = o.on_file;
      up = o.up;
    })) x

    closed_same : {id : ℕ} → NotClosed world c id → NotClosed (reply_gone world c queue) c id
    closed_same {id} n = record { queued = n.queued; held = n.held }

    phase_same : (file : ℕ) (phase : Phase) → PhaseStands world c file phase → PhaseStands (reply_gone world c queue) c file phase
    phase_same file (Phase.Live live) p = (stands_same p.0, closed_same p.1)
    phase_same file (Phase.Reconnecting parted) p = closed_same p
    phase_same file phase p = tt

    given_same : (r : Reply) → GivenWell world c r → GivenWell (reply_gone world c queue) c r
    given_same (Reply.Created file id contexts) w =
        record { stands = stands_same w.stands; not_closed = closed_same w.not_closed; fits = w.fits }
    given_same reply w = tt

-- ---- a client connects

pub each_flat : (P : Request → Type 0) (turn : ℕ → List Request) (files : List ℕ) → ((file : ℕ) → Each P (turn file))
    → Each P (flat_map turn files)
each_flat P turn [] each = tt
each_flat P turn (file ∷ files) each = each_append P (turn file) (flat_map turn files) (each file) (each_flat P turn files each)

no_entry : {X : Type 0} (held : List Held) (c : ℕ) (one : Held) → held_by c held ≡ [] → Among one held → one.client ≡ c → X
no_entry held c one none a own = absurd (subst (λ (l : List Held). Among one l) none
    (among_filtered (λ h. h.client == c) one held a (eq-eqb one.client c own)))

pub connect_standing : (world : World) (c : ℕ) → Ground world → world.links c ≡ Link.Down → IsStandingAt (connected world c) c
connect_standing world c g down =
    let machine = world.clients c in
    let back = come_back world c in
    let step = connection_made machine in
    let new = connected world c in
    let is_off : is_up (world.links c) ≡ false = ap is_up down in
    let online : machine.is_online ≡ false = g.online c ∙ ap (λ l. not (is_down l)) down in
    let turn : ℕ → List Request = λ f. (connect_turn machine f (machine.entries f).sent (machine.entries f).phase).requests in
    let queued : new.requests c ≡ flat_map turn (numbers_to machine.files) =
    ap (λ (q : ℕ → List Request). q c) (stepped_requests back c step) ∙ put_same back.requests c _
    ∙ ap (λ link. sent_over link (world.requests c) step.requests) (put_same world.links c Link.Up)
    ∙ ap (λ (q : List Request). q ++ flat_map turn (numbers_to machine.files)) ((g.tied c).requests is_off) in
    let none : (at : ℕ) → held_by c (new.server.held at) ≡ [] = λ at.
    ap (λ (x : Server). held_by c (x.held at)) (stepped_server back c step) ∙ none_held world c g is_off at in
    let mine = stepped_machine back c step in record {
      phases = λ file. subst (λ (m : Client). PhaseStands new c file (m.entries file).phase) (sym mine)
          (phase_of new file online queued none (machine.entries file).phase refl);
      given = subst (Each (GivenWell new c))
          (sym (ap (λ (r : ℕ → List Reply). r c) (stepped_replies back c step) ∙ (g.tied c).replies is_off)) tt;
      asked = subst (λ (m : Client). AllAsked (AskFits m) new c) (sym mine) (record {
        queued = subst (Each (AskFits step.client)) (sym queued) (each_flat (AskFits step.client) turn (numbers_to machine.files)
            (λ file. fits_at file (machine.entries file).phase refl));
        held = λ at one a own. no_entry (new.server.held at) c one (none at) a own;
      });
    }
  where
    fits_at : (file : ℕ) (phase : Phase) → ((world.clients c).entries file).phase ≡ phase
        → Each (AskFits (connection_made (world.clients c)).client)
        (connect_turn (world.clients c) file ((world.clients c).entries file).sent
        ((world.clients c).entries file).phase).requests
    fits_at file (Phase.Offline parted) is = subst (λ p. Each (AskFits (connection_made (world.clients c)).client)
        (connect_turn (world.clients c) file ((world.clients c).entries file).sent p).requests) (sym is) (
          sym (ap (λ p. again_of (connect_turn (world.clients c) file ((world.clients c).entries file).sent p).entry.phase) is),
          tt,
        )
    fits_at file phase is = subst (λ p. Each (AskFits (connection_made (world.clients c)).client)
        (connect_turn (world.clients c) file ((world.clients c).entries file).sent p).requests) (sym is) tt

    no_close : (id file : ℕ) (sent : List Pending) (phase : Phase)
        → Each (IsNoClose id) (connect_turn (world.clients c) file sent phase).requests
    no_close id file sent (Phase.Offline parted) = (tt, tt)
    no_close id file sent phase = tt

    all_open : (new : World) (id : ℕ) → new.requests c ≡ flat_map
        (λ f. (connect_turn (world.clients c) f ((world.clients c).entries f).sent ((world.clients c).entries f).phase).requests)
        (numbers_to (world.clients c).files) → ((at : ℕ) → held_by c (new.server.held at) ≡ []) → NotClosed new c id
    all_open new id queued none = record {
      queued = subst (Each (IsNoClose id)) (sym queued) (each_flat (IsNoClose id)
          (λ f. (connect_turn (world.clients c) f ((world.clients c).entries f).sent
          ((world.clients c).entries f).phase).requests) (numbers_to (world.clients c).files)
          (λ f. no_close id f ((world.clients c).entries f).sent ((world.clients c).entries f).phase));
      held = λ at one a own. no_entry (new.server.held at) c one (none at) a own;
    }

    phase_of : (new : World) (file : ℕ) → (world.clients c).is_online ≡ false → new.requests c ≡ flat_map
        (λ f. (connect_turn (world.clients c) f ((world.clients c).entries f).sent ((world.clients c).entries f).phase).requests)
        (numbers_to (world.clients c).files) → ((at : ℕ) → held_by c (new.server.held at) ≡ []) → (phase : Phase)
        → ((world.clients c).entries file).phase ≡ phase
        → PhaseStands new c file (connect_turn (world.clients c) file ((world.clients c).entries file).sent
        ((world.clients c).entries file).phase).entry.phase
    phase_of new file off queued none phase is = subst (λ p. PhaseStands new c file
        (connect_turn (world.clients c) file ((world.clients c).entries file).sent p).entry.phase) (sym is)
        (by_phase phase (subst (λ p. IsSoundPhase (world.clients c).is_online ((world.clients c).entries file).sent p) is
        ((g.clients c).entries file)))
      where
        by_phase : (p : Phase) → IsSoundPhase (world.clients c).is_online ((world.clients c).entries file).sent p
            → PhaseStands new c file (connect_turn (world.clients c) file ((world.clients c).entries file).sent p).entry.phase
        by_phase (Phase.Live live) sound = clash (world.clients c).is_online sound.0 off
        by_phase (Phase.Offline parted) sound = all_open new parted.file_id queued none
        by_phase (Phase.Reconnecting parted) sound = clash (world.clients c).is_online sound.0 off
        by_phase phase sound = tt

-- a message that is taken makes no client stray
pub took_strayed : (c : ℕ) (past : List Fact) → has_strayed c past ≡ false → has_strayed c (Fact.Took c ∷ past) ≡ false
unfolding has_strayed
took_strayed c past good = good

-- a grant that leaves its queue stands as before
given_gone : (world : World) (c : ℕ) (queue : List Reply) (reply : Reply) → GivenWell world c reply
    → GivenWell (reply_gone world c queue) c reply
given_gone world c queue (Reply.Created file id contexts) w = record {
  stands = ⊎_elim (λ out. inl out) (λ o. inr (record {
    one = o.one;
    there = o.there;
    id = o.id;
    by = o.by;
    on_file = o.on_file;
    up = o.up;
  })) w.stands;
  not_closed = record { queued = w.not_closed.queued; held = w.not_closed.held };
  fits = w.fits;
}
given_gone world c queue (_) w = w

-- ---- all moves

pub standing_moves : IsOwnMoved HasLayers IsUp IsStandingAt
standing_moves = record {
  unmoved = λ world new c k u a. unmoved_standing world new c u a;
  told = λ world off c request reply k source is a. told_standing off c reply
      (bare_plain reply (told_bare off c request reply is)) (off_standing world off c request source a);
  granted = λ world off c file access share ask k source none on free a.
      let request = FileRequest.Create file access share (Some ask) in
      granted_standing off c file access share ask (off_counted world off c request source k.all.ground)
      (off_named world off c request c source (k.all.named c k.good)).0
      (fits_off world off c request source a) none (off_standing world off c request source a);
  reconnected = λ world off c file access share ask file_id k source again on waits a.
      let request = FileRequest.Create file access share (Some ask) in
      reconnected_standing off c file access share ask file_id (fits_off world off c request source a) again waits
      (off_standing world off c request source a);
  changed = λ world off c file_id number patch one k source found may a.
      changed_standing off c one.file file_id number patch
      (off_standing world off c _ source a);
  closed = λ world off c file_id one k source found a.
      closed_standing world off c file_id source a;
  ack_failed = λ world c given status k oldest why a.
      told_standing (popped world c) c (Reply.AckFailed status) tt (popped_standing world c a);
  ack_done = λ world c given lowered k oldest there breaks within a.
      leased_standing (popped world c) (key_of c given.key) _ (done_reply given) tt (popped_standing world c a);
  hold = λ world file one k oldest may turn a. held_standing world file one oldest a;
  dropped = λ world c test k away a. dropped_standing world c test away a;
  lower = λ world key lowered k may light a.
      leased_standing world key _ (break_notice key (world.server.leases key).state lowered) tt a;
  begin = λ world key lowered k may heavy a.
      leased_standing world key _ (break_notice key (world.server.leases key).state lowered) tt a;
  timer = λ world c file k on breaks a. timer_standing world c file (k.all.named c k.good) a;
  command = λ world c command k a.
      step_standing world c (commanded (world.clients c) command) k.when
      (commanded-stays (world.clients c) command).guid (k.all.named c k.good)
      (any_command (world.clients c) (StepStands world c (world.replies c))
      (commands_stand world c (world.replies c) (entries_of world c a)) command) a;
  take = λ world c reply queue k first a.
      let gone = reply_gone world c queue in
      let s = gone_standing world c reply queue first a in
      let left : gone.replies c ≡ queue = put_same world.replies c queue in
      step_standing gone c (taken (world.clients c) reply) k.when (taken-stays (world.clients c) reply).guid
      (gone_named world c reply queue first (k.all).named c (strayed_after world c k.good))
      (subst (λ q. StepStands gone c q (taken (world.clients c) reply)) (sym left)
      (any_reply (world.clients c) (TakeStands gone c queue)
      (takes_stand gone c queue (subst (AllEntries gone c) left (entries_of gone c s))) reply
      (first_given world c reply queue first a) (answers_last world c reply queue k.all.ground k.when (k.all.creates c k.good)
      first)))
      s;
}
  where
    fits_off : (world off : World) (c : ℕ) (request : FileRequest) → IsSource world off c request
        → IsStandingAt world c → AskFits (off.clients c) (Request.OnFile request)
    fits_off world off c request source s =
        subst (λ (t : ℕ → Client). AskFits (t c) (Request.OnFile request)) (sym (off_rest world off c request source).clients)
        (asked_off (AskFits (world.clients c)) world off c request source s.asked).1

    strayed_after : (world : World) (c : ℕ) → has_strayed c world.past ≡ false → has_strayed c (Fact.Took c ∷ world.past) ≡ false
    strayed_after world c good = took_strayed c world.past good

    first_given : (world : World) (c : ℕ) (reply : Reply) (queue : List Reply) → world.replies c ≡ reply ∷ queue
        → IsStandingAt world c → GivenWell (reply_gone world c queue) c reply
    first_given world c reply queue first s = given_gone world c queue reply
        (head_of (GivenWell world c) (world.replies c) queue reply first s.given)
