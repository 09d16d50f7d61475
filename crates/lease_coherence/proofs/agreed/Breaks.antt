-- What is on its way while a lease is breaking, and what beliefs are held.
use Rattle.lease_laws.proofs.Words.{◌+◌, ◌||◌, ◌∷◌, ◌≡◌, Among, Bool, FileRequest, List, None, Option, Request, Some, State}
use Rattle.lease_laws.proofs.Words.{World, ℕ, [], ⊎_elim, after, ap, arith, bytes_eq, bytes_eq-Decides, false, first_world_under}
use Rattle.lease_laws.proofs.Words.{has_strayed, inl, inr, is_good, is_served, is_some, is_state_within, machine_key, not, refl}
use Rattle.lease_laws.proofs.Words.{subst, sym, true, true≢false}
use Rattle.lease_laws.proofs.server.Lists.{and_both, and_parts, clash, either, not_parts}
use Rattle.lease_coherence.specs.Agreement.{AcknowledgmentsAreDue, BeliefsAreHeld, BreakingIsAnswered, GoodClientsAreTimely}
use Rattle.lease_coherence.specs.Agreement.{IsDue, Timely, acknowledgment_of, asked_of, lease_of_client}
use Rattle.lease_coherence.specs.Creates.{one_if}
use Rattle.lease_coherence.specs.Names.{Each}
use Rattle.lease_coherence.specs.Parts.{OfRuns}
use Rattle.lease_coherence.proofs.beliefs.OneLease.{acks}
use Rattle.lease_coherence.proofs.beliefs.Trust.{file_key}
use Rattle.lease_coherence.proofs.covered.CoveredOpens.{ClosedBefore}
use Rattle.lease_coherence.proofs.fresh.Reads.{timely}
use Rattle.lease_coherence.proofs.layers.AllRuns.{run_layers}
use Rattle.lease_coherence.proofs.told.Lone.{run_lones}
use Rattle.lease_coherence.proofs.told.Meets.{is_told}
use Rattle.lease_coherence.proofs.told.Moves.{breaking_open}
use Rattle.lease_coherence.proofs.within.BeliefsWithin.{AckFit, IsAckFit}

-- ---- what counts say stands in the queue

acked : (key : List ℕ) (queue : List Request) → (acks key queue ≡ 0 → ⊥)
    → (state : State) × (Among (acknowledgment_of key state) queue)
acked key [] some = absurd (some refl)
acked key (Request.OnFile request ∷ queue) some = let rest = acked key queue (λ none. some (plus (acks key queue) none)) in
    (rest.0, inr rest.1)
  where
    plus : (n : ℕ) → n ≡ 0 → 0 + n ≡ 0
    plus n e = omega (arith, e)
acked key (Request.Acknowledge None ∷ queue) some =
    let rest = acked key queue (λ none. some (plus (acks key queue) none)) in (rest.0, inr rest.1)
  where
    plus : (n : ℕ) → n ≡ 0 → 0 + n ≡ 0
    plus n e = omega (arith, e)
acked key (Request.Acknowledge (Some lease) ∷ queue) some = either (bytes_eq key lease.key)
    (λ own. (
      lease.state,
      inl (ap (λ bytes. acknowledgment_of bytes lease.state) ((bytes_eq-Decides key lease.key).0 own)),
    ))
    (λ other. let rest = acked key queue (λ none. some (plus (one_if (bytes_eq key lease.key)) (acks key queue)
    (ap one_if other) none)) in (rest.0, inr rest.1))
  where
    plus : (m n : ℕ) → m ≡ 0 → n ≡ 0 → m + n ≡ 0
    plus m n e f = omega (arith, e, f)

close_asked : (file id : ℕ) (queue : List Request) → ClosedBefore file id queue
    → Among (Request.OnFile (FileRequest.Close id)) queue
close_asked file id [] c = c
close_asked file id (Request.OnFile (FileRequest.Close other) ∷ queue) c = ⊎_elim
    (λ same. inl (ap (λ i. Request.OnFile (FileRequest.Close i)) (sym same)))
    (λ later. inr (close_asked file id queue later)) c
close_asked file id (Request.OnFile (FileRequest.Create other access share contexts) ∷ queue) c =
    inr (close_asked file id queue c.1)
close_asked file id (Request.OnFile (FileRequest.Read other) ∷ queue) c = inr (close_asked file id queue c)
close_asked file id (Request.OnFile (FileRequest.Write other number patch) ∷ queue) c = inr (close_asked file id queue c)
close_asked file id (Request.Acknowledge given ∷ queue) c = inr (close_asked file id queue c)

-- ---- while a lease is breaking

some_state : (broken_to : Option State) → is_some broken_to ≡ true → (lowered : State) × (broken_to ≡ Some lowered)
some_state None e = absurd (true≢false (sym e))
some_state (Some lowered) e = (lowered, refl)

pub breaking_is_answered : OfRuns (Timely BreakingIsAnswered)
breaking_is_answered rules setup events client good up file fresh breaks =
    let world = after (first_world_under rules setup) events in
    let v = run_layers rules setup events in
    let key = file_key world client file in
    ⊎_elim
    (λ some. let a = acked key (world.requests client) some in inr (inl (record { state = a.0; sent = a.1 })))
    (λ x. ⊎_elim
    (λ met. let l = some_state (lease_of_client world client file).broken_to breaks in
    inl (is_told world client file l.0 (run_lones rules setup events) good up fresh l.1 met))
    (λ closed. let y = breaking_open world.server (machine_key world client file) v.ground.fine.sound breaks in
    inr (inr (record {
      one = y.0;
      there = y.1;
      under = y.2;
      asked = close_asked file (y.0).file_id (asked_of world client file) (closed y.0 y.1 y.2);
    }))) x) (v.told client good up file fresh breaks)

-- one of them, where it stands
pub each_one : {X : Type 0} (P : X → Type 0) (xs : List X) (x : X) → Each P xs → Among x xs → P x
each_one P [] x each there = absurd there
each_one P (y ∷ ys) x each there = ⊎_elim (λ same. subst P (sym same) each.0) (λ later. each_one P ys x each.1 later) there

pub acknowledgments_are_due : OfRuns (Timely AcknowledgmentsAreDue)
acknowledgments_are_due rules setup events client good up file fresh state sent =
    let world = after (first_world_under rules setup) events in
    let w = (((run_layers rules setup events).beliefs client good up).files file fresh).explained.within in
    let key = file_key world client file in
    let phase = ((world.clients client).entries file).phase in
    let fit : AckFit key (lease_of_client world client file) phase (acknowledgment_of key state) =
    each_one (AckFit key (lease_of_client world client file) phase) (world.requests client) (acknowledgment_of key state)
    w.acks sent in
    due world client file state (fit ((bytes_eq-Decides key key).1 refl))
  where
    due : (world : World) (client file : ℕ) (state : State)
        → IsAckFit (lease_of_client world client file) ((world.clients client).entries file).phase state
        → IsDue world client file state
    due world client file state f = record { lowered = f.lowered; breaking = f.breaks; within = f.within }

-- ---- beliefs

implied : (p q : Bool) → (p ≡ true → q ≡ true) → (not p || q) ≡ true
implied true q f = f refl
implied false q f = refl

within_of : (one other : State) → (one.read ≡ true → other.read ≡ true) → (one.write ≡ true → other.write ≡ true)
    → (one.handle ≡ true → other.handle ≡ true) → is_state_within one other ≡ true
within_of one other reads writes handles = and_both _ _
    (and_both _ _ (implied one.read other.read reads) (implied one.write other.write writes))
    (implied one.handle other.handle handles)

pub beliefs_are_held : OfRuns (Timely BeliefsAreHeld)
beliefs_are_held rules setup events client good up file fresh live is =
    let world = after (first_world_under rules setup) events in
    let v = run_layers rules setup events in
    let w = ((v.beliefs client good up).files file fresh).explained.within.own live is in
    let b = ((v.beliefs client good up).files file fresh).explained.believed in
    let state = (lease_of_client world client file).state in
    let whole : (live.belief.read ≡ true → state.read ≡ true) → is_state_within live.belief state ≡ true =
    λ reads. within_of live.belief state reads (λ x. (b.own live is x).1) (λ h. (w.0 h).1) in
    either live.belief.read
    (λ reads. ⊎_elim (λ held. inl (whole (λ r. held))) (λ alone. inr alone) (w.1 reads))
    (λ none. inl (whole (λ r. clash live.belief.read r none)))

-- ---- good clients

pub good_clients_are_timely : GoodClientsAreTimely
unfolding is_good
good_clients_are_timely rules setup events client good =
    let world = after (first_world_under rules setup) events in
    let parts = and_parts (not (has_strayed client world.past)) (is_served client world.past) good in record {
      honest = not_parts (has_strayed client world.past) parts.0;
      up = (((run_layers rules setup events).ground).tied client).served parts.1;
      timers = λ file. timely rules setup events client file parts.1;
    }
