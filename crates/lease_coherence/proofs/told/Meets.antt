-- The break that is to be met is met: a client that takes what comes before it has a live entry then, and what it tells is the
-- state that the lease is broken to.
use Rattle.lease_laws.proofs.Words.{◌&&◌, ◌++◌, ◌+◌, ◌==◌, ◌||◌, ◌∙◌, ◌∷◌, ◌≡◌, ◌⊎◌, Bool, BreakNotice, Client, Link, List}
use Rattle.lease_laws.proofs.Words.{LiveEntry, None, Phase, Reply, Server, Some, State, World, ℕ, [], ⊎_elim, ap, arith}
use Rattle.lease_laws.proofs.Words.{bytes_eq, bytes_eq-Decides, false, has_strayed, is_up, key_of, lease_key, machine_key, not}
use Rattle.lease_laws.proofs.Words.{refl, subst, sym, taken, true, true≢false}
use Rattle.lease_laws.proofs.client.cases.Replies.{any_reply, is_live}
use Rattle.lease_laws.proofs.server.Lists.{and_both, and_parts, clash, either}
use Rattle.lease_coherence.specs.Agreement.{IsTold, asked_of, lease_of_client, taken_all}
use Rattle.lease_coherence.specs.Creates.{answer_of, answers, asked_by, creates, has_asked, one_if}
use Rattle.lease_coherence.specs.Names.{Each, IsNamedReply}
use Rattle.lease_coherence.proofs.agreed.Taken.{IsTaken, left_behind_it, one_taken, still_fresh}
use Rattle.lease_coherence.proofs.beliefs.OneLease.{is_ack_break, is_created}
use Rattle.lease_coherence.proofs.beliefs.Trust.{file_key}
use Rattle.lease_coherence.proofs.covered.Moves.{FailsGone}
use Rattle.lease_coherence.proofs.covered.OpensStayCovered.{counted_of}
use Rattle.lease_coherence.proofs.moves.Events.{Move, reply_taken}
use Rattle.lease_coherence.proofs.told.BreaksMet.{HasMet, met_more}
use Rattle.lease_coherence.proofs.told.BreaksStayTold.{known_here, live_not_failed}
use Rattle.lease_coherence.proofs.told.Clients.{IsParkedBreak, TakeLives, takes_live, whole_of}
use Rattle.lease_coherence.proofs.told.Lone.{AfterLone, HasLones, NoneCreated, holds_handles, is_lone_break, lones_carried}
use Rattle.lease_coherence.proofs.within.BeliefsWithin.{BreaksTell, TellsState}

-- ---- one reply

-- a break that asks for an acknowledgment
pub record IsBreakOf (key : List ℕ) (reply : Reply) : Type 0 where
  pub notice : BreakNotice
  pub is : reply ≡ Reply.Break (Some notice)
  pub key_is : notice.key ≡ key
  pub asks : notice.ack_required ≡ true

break_of : (key : List ℕ) (reply : Reply) → is_ack_break key reply ≡ true → IsBreakOf key reply
break_of key (Reply.Break (Some notice)) e = let parts = and_parts notice.ack_required (bytes_eq key notice.key) e in record {
  notice = notice;
  is = refl;
  key_is = sym ((bytes_eq-Decides key notice.key).0 parts.1);
  asks = parts.0;
}
break_of key (Reply.Break None) e = absurd (true≢false (sym e))
break_of key reply e = absurd (true≢false (sym e))

-- where no create is answered none is granted
none_granted : (file : ℕ) (queue : List Reply) → answers file queue ≡ 0 → NoneCreated file queue
none_granted file [] e = tt
none_granted file (reply ∷ queue) e = let p = both (answer_of file reply) (answers file queue) e in
    (not_made reply p.0, none_granted file queue p.1)
  where
    both : (a b : ℕ) → a + b ≡ 0 → (a ≡ 0) × (b ≡ 0)
    both a b e = (omega (arith, e), omega (arith, e))

    no_one : (b : Bool) → one_if b ≡ 0 → b ≡ false
    no_one true e = let x : ⊥ = omega (arith, e) in absurd x
    no_one false e = refl

    not_made : (r : Reply) → answer_of file r ≡ 0 → is_created file r ≡ false
    not_made (Reply.Created other id contexts) n = no_one (other == file) n
    not_made reply n = refl

-- ---- one client

-- what is known of a client whose file's lease is breaking
record IsWaitingFor (world : World) (c file : ℕ) (lowered : State) : Type 0 where
  known : HasLones world
  good : has_strayed c world.past ≡ false
  up : is_up (world.links c) ≡ true
  fresh : world.server.expired (machine_key world c file) ≡ false
  breaking : (lease_of_client world c file).broken_to ≡ Some lowered

-- a parked entry that believes in handles meets no other break of its key
parked_asks : (world : World) (c file : ℕ) (lowered : State) (reply : Reply) (queue : List Reply)
    → IsWaitingFor world c file lowered → world.replies c ≡ reply ∷ queue → IsParkedBreak (world.clients c) reply file
    → (is_live ((world.clients c).entries file).phase && is_ack_break (file_key world c file) reply) ≡ true
parked_asks world c file lowered reply queue w first b =
    let v = w.known in
    let key = file_key world c file in
    let phase = ((world.clients c).entries file).phase in
    let held = ((((v.0.beliefs c w.good w.up).files file w.fresh).explained.within.own b.live b.was).0 b.handles).1 in
    either (b.notice).ack_required
    (λ asks. and_both (is_live phase) (is_ack_break key reply) (ap is_live b.was)
    (ap (is_ack_break key) b.is ∙ and_both (b.notice).ack_required (bytes_eq key (b.notice).key) asks b.own))
    (λ plain. clash (holds_handles world c file) held
    (lone (subst (AfterLone key file (holds_handles world c file)) first (v.1 c w.good file))
    (ap (is_lone_break key) b.is ∙ and_both (not (b.notice).ack_required) (bytes_eq key (b.notice).key) (ap not plain) b.own)))
  where
    none_behind : NoneCreated file queue
    none_behind = none_granted file queue (rest (creates file (asked_of world c file)) (answer_of file reply)
        (answers file queue) (asked_by (world.clients c) file)
        (subst (λ q. creates file (asked_of world c file) + answers file q ≡ asked_by (world.clients c) file) first
        (counted_of world c file ((known_here world w.known.0 c w.good w.up).counted file)))
        (ap one_if (ap has_asked b.was ∙ b.idle)))
      where
        rest : (a x b n : ℕ) → a + (x + b) ≡ n → n ≡ 0 → b ≡ 0
        rest a x b n e f = omega (arith, e, f)

    lone : AfterLone (file_key world c file) file (holds_handles world c file) (reply ∷ queue)
        → is_lone_break (file_key world c file) reply ≡ true → holds_handles world c file ≡ false
    lone a is = a.0 is none_behind

-- what comes of a break that is to be met
record WillMeet (world : World) (c file : ℕ) (lowered : State) (queue : List Reply) : Type 0 where
  before : List Reply
  notice : BreakNotice
  behind : List Reply
  sent : queue ≡ before ++ Reply.Break (Some notice) ∷ behind
  key : notice.key ≡ file_key world c file
  asks : notice.ack_required ≡ true
  tells : Some lowered ≡ Some notice.lowered
  live : LiveEntry
  meets : ((taken_all (world.clients c) before).entries file).phase ≡ Phase.Live live

live_so : (phase : Phase) → is_live phase ≡ true → (live : LiveEntry) × (phase ≡ Phase.Live live)
live_so (Phase.Live live) e = (live, refl)
live_so phase e = absurd (true≢false (sym e))

-- it is met now
meets_now : (world : World) (c file : ℕ) (lowered : State) (reply : Reply) (queue : List Reply)
    → IsWaitingFor world c file lowered → world.replies c ≡ reply ∷ queue
    → is_live ((world.clients c).entries file).phase ≡ true → is_ack_break (file_key world c file) reply ≡ true
    → WillMeet world c file lowered (reply ∷ queue)
meets_now world c file lowered reply queue w first live is =
    let b = break_of (file_key world c file) reply is in
    let l = live_so ((world.clients c).entries file).phase live in record {
      before = [];
      notice = b.notice;
      behind = queue;
      sent = ap (λ r. r ∷ queue) b.is;
      key = b.key_is;
      asks = b.asks;
      tells = sym w.breaking ∙ told b.notice (subst (TellsState (file_key world c file) (lease_of_client world c file).broken_to)
          b.is (head (subst (BreaksTell (file_key world c file) file (lease_of_client world c file).broken_to
          (is_live ((world.clients c).entries file).phase)) first
          ((w.known.0.beliefs c w.good w.up).files file w.fresh).explained.within.breaks)))
          (and_both (b.notice).ack_required (bytes_eq (file_key world c file) (b.notice).key) b.asks
          ((bytes_eq-Decides (file_key world c file) (b.notice).key).1 (sym b.key_is)));
      live = l.0;
      meets = l.1;
    }
  where
    head : BreaksTell (file_key world c file) file (lease_of_client world c file).broken_to
        (is_live ((world.clients c).entries file).phase) (reply ∷ queue)
        → TellsState (file_key world c file) (lease_of_client world c file).broken_to reply
    head b = b.0 live

    told : (notice : BreakNotice)
        → TellsState (file_key world c file) (lease_of_client world c file).broken_to (Reply.Break (Some notice))
        → (notice.ack_required && bytes_eq (file_key world c file) notice.key) ≡ true
        → (lease_of_client world c file).broken_to ≡ Some notice.lowered
    told notice t = t

will_meet : (c file : ℕ) (lowered : State) (queue : List Reply) (world : World) → IsWaitingFor world c file lowered
    → world.replies c ≡ queue → HasMet (file_key world c file) file (is_live ((world.clients c).entries file).phase) queue
    → WillMeet world c file lowered queue
will_meet c file lowered [] world w first met = absurd met
will_meet c file lowered (reply ∷ queue) world w first met =
    let phase = ((world.clients c).entries file).phase in
    let key = file_key world c file in
    either (is_live phase && is_ack_break key reply)
    (λ now. let p = and_parts (is_live phase) (is_ack_break key reply) now in
    meets_now world c file lowered reply queue w first p.0 p.1)
    (λ not_now. ⊎_elim
    (λ here. clash (is_live phase && is_ack_break key reply)
    (and_both (is_live phase) (is_ack_break key reply) here.0 here.1) not_now)
    (λ later. ⊎_elim
    (λ stays. go_on (will_meet c file lowered queue (reply_taken world c reply queue) (waits_on w first)
    (left_behind_it world c reply queue) (later_met stays later)))
    (λ parked. clash (is_live phase && is_ack_break key reply)
    (parked_asks world c file lowered reply queue w first parked) not_now) (lives w first)) met)
  where
    one : IsTaken world (reply_taken world c reply queue) c (reply ∷ [])
    one = one_taken world c reply queue

    lives : IsWaitingFor world c file lowered → world.replies c ≡ reply ∷ queue
        → ((is_live ((world.clients c).entries file).phase || is_created file reply) ≡ true
        → is_live ((taken (world.clients c) reply).client.entries file).phase ≡ true) ⊎ IsParkedBreak (world.clients c) reply file
    lives w first = let k = known_here world w.known.0 c w.good w.up in
        any_reply (world.clients c) (TakeLives (world.clients c)) (takes_live (world.clients c) (k.ground.clients c)) reply
        (whole_of c world.past reply (named_head (subst (Each (IsNamedReply c world.past)) first k.names.replies)))
        queue file (asked_of world c file) (record {
          counted = subst (λ q. creates file (asked_of world c file) + answers file q ≡ asked_by (world.clients c) file) first
              (counted_of world c file (k.counted file));
          not_failed = live_not_failed world c file reply k.stands k.names.opens w.fresh
              (fails_head (subst (Each (FailsGone world c)) first k.covered.fails));
        })
      where
        named_head : Each (IsNamedReply c world.past) (reply ∷ queue) → IsNamedReply c world.past reply
        named_head each = each.0

        fails_head : Each (FailsGone world c) (reply ∷ queue) → FailsGone world c reply
        fails_head each = each.0

    waits_on : IsWaitingFor world c file lowered → world.replies c ≡ reply ∷ queue
        → IsWaitingFor (reply_taken world c reply queue) c file lowered
    waits_on w first = record {
      known = lones_carried world (Move.Take c reply queue) first w.known;
      good = one.strayed ∙ w.good;
      up = ap (λ (l : ℕ → Link). is_up (l c)) one.links ∙ w.up;
      fresh = still_fresh world (reply_taken world c reply queue) c (reply ∷ []) one file w.fresh;
      breaking = ap (λ (s : Server). (s.leases (machine_key (reply_taken world c reply queue) c file)).broken_to) one.server
          ∙ ap (λ g. (world.server.leases (key_of c (lease_key g file))).broken_to) one.guid ∙ w.breaking;
    }

    later_met : ((is_live ((world.clients c).entries file).phase || is_created file reply) ≡ true
        → is_live ((taken (world.clients c) reply).client.entries file).phase ≡ true)
        → HasMet (file_key world c file) file (is_live ((world.clients c).entries file).phase || is_created file reply) queue
        → HasMet (file_key (reply_taken world c reply queue) c file) file
        (is_live (((reply_taken world c reply queue).clients c).entries file).phase) queue
    later_met stays m = subst (λ g. HasMet (lease_key g file) file
        (is_live (((reply_taken world c reply queue).clients c).entries file).phase) queue) (sym one.guid)
        (subst (λ (x : Client). HasMet (file_key world c file) file (is_live (x.entries file).phase) queue) (sym one.machine)
        (met_more (file_key world c file) file (is_live ((world.clients c).entries file).phase || is_created file reply)
        (is_live ((taken (world.clients c) reply).client.entries file).phase) queue stays m))

    go_on : WillMeet (reply_taken world c reply queue) c file lowered queue → WillMeet world c file lowered (reply ∷ queue)
    go_on m = record {
      before = reply ∷ m.before;
      notice = m.notice;
      behind = m.behind;
      sent = ap (λ q. reply ∷ q) m.sent;
      key = m.key ∙ ap (λ g. lease_key g file) one.guid;
      asks = m.asks;
      tells = m.tells;
      live = m.live;
      meets = ap (λ (x : Client). ((taken_all x m.before).entries file).phase) (sym one.machine) ∙ m.meets;
    }

-- the break of a lease that is breaking
pub is_told : (world : World) (c file : ℕ) (lowered : State) → HasLones world → has_strayed c world.past ≡ false
    → is_up (world.links c) ≡ true → world.server.expired (machine_key world c file) ≡ false
    → (lease_of_client world c file).broken_to ≡ Some lowered
    → HasMet (file_key world c file) file (is_live ((world.clients c).entries file).phase) (world.replies c) → IsTold world c file
is_told world c file lowered known good up fresh breaking met =
    let m = will_meet c file lowered (world.replies c) world
    (record { known = known; good = good; up = up; fresh = fresh; breaking = breaking }) refl met in record {
      before = m.before;
      notice = m.notice;
      behind = m.behind;
      sent = m.sent;
      key = m.key;
      asks = m.asks;
      tells = breaking ∙ m.tells;
      live = m.live;
      meets = m.meets;
    }
