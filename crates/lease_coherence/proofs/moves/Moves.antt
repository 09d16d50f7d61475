-- Worlds move: the server takes its small steps one by one, and what each gives out is delivered at once. The
-- request that comes stands in its queue until the step that answers, holds or judges it.
use Rattle.lease_laws.proofs.Words.{◌++◌, ◌∙◌, ◌∷◌, ◌≡◌, AreGuarded, AreInTurn, AreOf, Call, IsGuarded, IsInTurn, List, Out}
use Rattle.lease_laws.proofs.Words.{Progress, Request, Server, SmallStep, World, ℕ, [], ⊤, all_delivered, ap, arith, begun}
use Rattle.lease_laws.proofs.Words.{delivered, own_count, put, refl, served, step_taken, steps_taken, subst, suc, sym}
use Rattle.lease_laws.proofs.world.Kept.{served-server}
use Rattle.lease_coherence.proofs.moves.Shift.{step_follows}

abbrev pub rest_of : {X : Type 0} → List X → List X
rest_of [] = []
rest_of (x ∷ xs) = xs

-- the oldest request of a client leaves its queue
abbrev pub popped : World → ℕ → World
popped world client = record world { requests = put world.requests client (rest_of (world.requests client)) }

-- the request of a step does
abbrev pub taken_off : SmallStep → World → World
taken_off (SmallStep.Answer client request outcome) world = popped world client
taken_off (SmallStep.Hold file one) world = popped world one.client
taken_off (SmallStep.Acknowledge client given) world = popped world client
taken_off step world = world

-- a step in a world
abbrev pub moved : World → SmallStep → World
moved world step = served (taken_off step world) (step_taken step (begun world.server))

-- the request is the oldest of its client
pub record IsOldest (world : World) (client : ℕ) (request : Request) : Type 0 where
  pub queue : List Request
  pub is_first : world.requests client ≡ request ∷ queue

abbrev pub IsDue : SmallStep → World → Type 0
IsDue (SmallStep.Answer client request outcome) world = IsOldest world client (Request.OnFile request)
IsDue (SmallStep.Hold file one) world = IsOldest world one.client (Request.OnFile one.request)
IsDue (SmallStep.Acknowledge client given) world = IsOldest world client (Request.Acknowledge given)
IsDue step world = ⊤

-- a step that can be next
pub record IsNext (world : World) (step : SmallStep) : Type 0 where
  pub guarded : IsGuarded step world.server
  pub in_turn : IsInTurn step world.server
  pub due : IsDue step world

-- ---- outs are delivered to any server, and whatever is on its way to the server

abbrev with_rest : World → Server → (ℕ → List Request) → World
with_rest world server requests = record world { server = server; requests = requests }

delivered_rest : (world : World) (server : Server) (requests : ℕ → List Request) (out : Out)
    → delivered (with_rest world server requests) out ≡ with_rest (delivered world out) server requests
delivered_rest world server requests (Out.Sent client reply) = refl
delivered_rest world server requests out = refl

all_delivered_rest : (world : World) (server : Server) (requests : ℕ → List Request) (outs : List Out)
    → all_delivered (with_rest world server requests) outs ≡ with_rest (all_delivered world outs) server requests
unfolding all_delivered
all_delivered_rest world server requests [] = refl
all_delivered_rest world server requests (out ∷ outs) = ap (λ w. all_delivered w outs) (delivered_rest world server requests out)
    ∙ all_delivered_rest (delivered world out) server requests outs

all_delivered_append : (world : World) (outs more : List Out)
    → all_delivered world (outs ++ more) ≡ all_delivered (all_delivered world outs) more
unfolding all_delivered
all_delivered_append world [] more = refl
all_delivered_append world (out ∷ outs) more = all_delivered_append (delivered world out) outs more

delivered_requests : (world : World) (out : Out) → (delivered world out).requests ≡ world.requests
delivered_requests world (Out.Sent client reply) = refl
delivered_requests world out = refl

all_delivered_requests : (world : World) (outs : List Out) → (all_delivered world outs).requests ≡ world.requests
unfolding all_delivered
all_delivered_requests world [] = refl
all_delivered_requests world (out ∷ outs) = all_delivered_requests (delivered world out) outs ∙ delivered_requests world out

pub served_requests : (world : World) (progress : Progress) → (served world progress).requests ≡ world.requests
served_requests world progress = all_delivered_requests (record world { server = progress.server }) progress.outs

-- what a step gives out behind what a call gave out before
served_twice : (base : World) (progress : Progress) (step : SmallStep)
    → served (served base progress) (step_taken step (begun progress.server)) ≡ served base (step_taken step progress)
served_twice base progress step =
    let f = step_follows step progress in
    let fresh = step_taken step (begun progress.server) in
    let start : World = record base { server = progress.server } in
    sym (ap (λ (s : Server). all_delivered (record base { server = s }) (step_taken step progress).outs) f.server
    ∙ ap (λ outs. all_delivered (record base { server = fresh.server }) outs) f.outs
    ∙ all_delivered_append (record base { server = fresh.server }) progress.outs fresh.outs ∙ ap (λ w. all_delivered w fresh.outs)
    (all_delivered_rest start fresh.server start.requests progress.outs
    ∙ ap (λ r. with_rest (all_delivered start progress.outs) fresh.server r) (sym (all_delivered_requests start progress.outs))))

-- requests leave their queue whatever is given out
popped_served : (base : World) (progress : Progress) (client : ℕ)
    → popped (served base progress) client ≡ served (popped base client) progress
popped_served base progress client =
    let start : World = record base { server = progress.server } in
    let queues = put base.requests client (rest_of (base.requests client)) in
    ap (λ (r : ℕ → List Request). record (all_delivered start progress.outs) {
      requests = put r client (rest_of (r client));
    }) (all_delivered_requests start progress.outs)
    ∙ ap (λ s. with_rest (all_delivered start progress.outs) s queues) (served-server base progress)
    ∙ sym (all_delivered_rest start progress.server queues progress.outs)

taken_off_served : (step : SmallStep) (base : World) (progress : Progress)
    → taken_off step (served base progress) ≡ served (taken_off step base) progress
taken_off_served (SmallStep.Answer client request outcome) base progress = popped_served base progress client
taken_off_served (SmallStep.Hold file one) base progress = popped_served base progress one.client
taken_off_served (SmallStep.Acknowledge client given) base progress = popped_served base progress client
taken_off_served step base progress = refl

-- The whole call with its outs delivered afterwards is its steps with their outs delivered at once.
pub moved_served : (base : World) (progress : Progress) (step : SmallStep)
    → moved (served base progress) step ≡ served (taken_off step base) (step_taken step progress)
moved_served base progress step =
    ap (λ s. served (taken_off step (served base progress)) (step_taken step (begun s))) (served-server base progress)
    ∙ ap (λ w. served w (step_taken step (begun progress.server))) (taken_off_served step base progress)
    ∙ served_twice (taken_off step base) progress step

-- ---- lists of steps

abbrev pub all_taken_off : List SmallStep → World → World
all_taken_off [] world = world
all_taken_off (step ∷ steps) world = all_taken_off steps (taken_off step world)

abbrev pub AreDue : List SmallStep → World → Type 0
AreDue [] world = ⊤
AreDue (step ∷ steps) world = IsDue step world × AreDue steps (taken_off step world)

due_served : (step : SmallStep) (base : World) (progress : Progress) → IsDue step base → IsDue step (served base progress)
due_served (SmallStep.Answer client request outcome) base progress due = record {
  queue = due.queue;
  is_first = ap (λ (r : ℕ → List Request). r client) (served_requests base progress) ∙ due.is_first;
}
due_served (SmallStep.Hold file one) base progress due = record {
  queue = due.queue;
  is_first = ap (λ (r : ℕ → List Request). r one.client) (served_requests base progress) ∙ due.is_first;
}
due_served (SmallStep.Acknowledge client given) base progress due = record {
  queue = due.queue;
  is_first = ap (λ (r : ℕ → List Request). r client) (served_requests base progress) ∙ due.is_first;
}
due_served (SmallStep.AnswerHeld file before one behind outcome) base progress due = tt
due_served step base progress due = tt

-- what each next step keeps, all steps of a call keep
pub steps_keep : (V : World → Type 0) → ((world : World) (step : SmallStep) → V world → IsNext world step → V (moved world step))
    → (steps : List SmallStep) (base : World) (progress : Progress) → AreGuarded steps progress
    → AreInTurn steps progress → AreDue steps base → V (served base progress)
    → V (served (all_taken_off steps base) (steps_taken steps progress))
steps_keep V keep [] base progress guarded turn due v = v
steps_keep V keep (step ∷ steps) base progress guarded turn due v =
    let here = served base progress in
    let next : IsNext here step = record {
      guarded = subst (λ s. IsGuarded step s) (sym (served-server base progress)) guarded.0;
      in_turn = subst (λ s. IsInTurn step s) (sym (served-server base progress)) turn.0;
      due = due_served step base progress due.0;
    } in
    steps_keep V keep steps (taken_off step base) (step_taken step progress) guarded.1 turn.1 due.1
    (subst V (moved_served base progress step) (keep here step v next))

-- ---- the request of a call is due once

no_suc : (n : ℕ) → suc n ≡ 0 → ⊥
no_suc n e = omega (arith, e)

one_suc : (n : ℕ) → suc n ≡ 1 → n ≡ 0
one_suc n e = omega (arith, e)

no_one : (n : ℕ) → n ≡ 0 → n ≡ 1 → ⊥
no_one n e f = omega (arith, e, f)

-- where no step is of what comes
pub none_due : (steps : List SmallStep) (base : World) → own_count steps ≡ 0
    → AreDue steps base × (all_taken_off steps base ≡ base)
none_due [] base e = (tt, refl)
none_due (SmallStep.Answer client request outcome ∷ steps) base e = absurd (no_suc (own_count steps) e)
none_due (SmallStep.Hold file one ∷ steps) base e = absurd (no_suc (own_count steps) e)
none_due (SmallStep.Acknowledge client given ∷ steps) base e = absurd (no_suc (own_count steps) e)
none_due (step ∷ steps) base e = let r = none_due steps base e in ((tt, r.0), r.1)

-- a call of one request is no call of another
same_client : (client other : ℕ) (request asked : Request) → Call.Receive client request ≡ Call.Receive other asked
    → client ≡ other
same_client client other request asked e = cc

same_request : (client other : ℕ) (request asked : Request) → Call.Receive client request ≡ Call.Receive other asked
    → request ≡ asked
same_request client other request asked e = cc

oldest_of : (base : World) (client other : ℕ) (request asked : Request) (queue : List Request)
    → base.requests client ≡ request ∷ queue → Call.Receive client request ≡ Call.Receive other asked → IsOldest base other asked
oldest_of base client other request asked queue first e = record {
  queue = queue;
  is_first = ap base.requests (sym (same_client client other request asked e)) ∙ first
      ∙ ap (λ r. r ∷ queue) (same_request client other request asked e);
}

-- where one is
pub once_due : (steps : List SmallStep) (base : World) (client : ℕ) (request : Request) (queue : List Request)
    → AreOf (Call.Receive client request) steps → own_count steps ≡ 1 → base.requests client ≡ request ∷ queue
    → AreDue steps base × (all_taken_off steps base ≡ popped base client)
once_due [] base client request queue of e first = absurd (no_one (own_count []) refl e)
once_due (SmallStep.Answer other asked outcome ∷ steps) base client request queue of e first =
    let r = none_due steps (popped base other) (one_suc (own_count steps) e) in (
      (oldest_of base client other request (Request.OnFile asked) queue first of.0, r.0),
      r.1 ∙ ap (popped base) (sym (same_client client other request (Request.OnFile asked) of.0)),
    )
once_due (SmallStep.Hold file one ∷ steps) base client request queue of e first =
    let r = none_due steps (popped base one.client) (one_suc (own_count steps) e) in (
      (oldest_of base client one.client request (Request.OnFile one.request) queue first of.0, r.0),
      r.1 ∙ ap (popped base) (sym (same_client client one.client request (Request.OnFile one.request) of.0)),
    )
once_due (SmallStep.Acknowledge other given ∷ steps) base client request queue of e first =
    let r = none_due steps (popped base other) (one_suc (own_count steps) e) in (
      (oldest_of base client other request (Request.Acknowledge given) queue first of.0, r.0),
      r.1 ∙ ap (popped base) (sym (same_client client other request (Request.Acknowledge given) of.0)),
    )
once_due (step ∷ steps) base client request queue of e first =
    let r = once_due steps base client request queue of.1 e first in ((tt, r.0), r.1)
