-- What a client believes of reads and handles, and what breaks and acknowledgments on their way say of the lease: in words
-- of one file's lease, entry and queues.
use Rattle.lease_laws.proofs.Words.{◌&&◌, ◌++◌, ◌+◌, ◌==◌, ◌||◌, ◌∙◌, ◌∷◌, ◌≡◌, ◌⊎◌, Among, Bool, Lease, List, LiveEntry, None}
use Rattle.lease_laws.proofs.Words.{Option, Phase, Reply, Request, Some, State, ℕ, [], ⊎_elim, ⊤, ap, arith, bytes_eq, eq-eqb}
use Rattle.lease_laws.proofs.Words.{false, inl, inr, is_state_within, refl, sym, true}
use Rattle.lease_laws.proofs.client.cases.Replies.{is_live}
use Rattle.lease_laws.proofs.server.Lists.{among_before, among_behind, clash, or_true}
use Rattle.lease_coherence.specs.Agreement.{lone_break}
use Rattle.lease_coherence.specs.Creates.{one_if}
use Rattle.lease_coherence.specs.Names.{Each}
use Rattle.lease_coherence.proofs.beliefs.Leases.{given_all}
use Rattle.lease_coherence.proofs.beliefs.OneLease.{BreaksAreMet, IsMet, OnGiven, acks, is_ack_break, is_created}

-- ---- beliefs

-- reads are held, or a break of them alone is on its way
abbrev pub ReadsWithin : List ℕ → Bool → List Reply → Bool → Type 0
ReadsWithin key held queue reads = reads ≡ true → (held ≡ true) ⊎ Among (lone_break key) queue

-- handles are believed only with reads, and where the lease holds them
abbrev pub IsWithin : List ℕ → State → List Reply → State → Type 0
IsWithin key held queue state =
    (state.handle ≡ true → (state.read ≡ true) × (held.handle ≡ true)) × ReadsWithin key held.read queue state.read

-- what is given, with what comes behind it
abbrev pub AreGiven : List ℕ → ℕ → State → List Reply → Type 0
AreGiven key file held [] = ⊤
AreGiven key file held (reply ∷ queue) = OnGiven (IsWithin key held queue) key file reply × AreGiven key file held queue

-- ---- breaks

abbrev pub TellsState : List ℕ → Option State → Reply → Type 0
TellsState key broken_to (Reply.Break (Some notice)) =
    (notice.ack_required && bytes_eq key notice.key) ≡ true → broken_to ≡ Some notice.lowered
TellsState key broken_to reply = ⊤

-- a break that asks for an acknowledgment, where a live entry will meet it, tells the state that the lease is broken to
abbrev pub BreaksTell : List ℕ → ℕ → Option State → Bool → List Reply → Type 0
BreaksTell key file broken_to live [] = ⊤
BreaksTell key file broken_to live (reply ∷ queue) =
    (live ≡ true → TellsState key broken_to reply) × BreaksTell key file broken_to (live || is_created file reply) queue

-- ---- acknowledgments

-- an acknowledgment is of a part of the state that the lease is broken to, and the entry believes no more
pub record IsAckFit (lease : Lease) (phase : Phase) (state : State) : Type 0 where
  pub lowered : State
  pub breaks : lease.broken_to ≡ Some lowered
  pub within : is_state_within state lowered ≡ true
  pub formed : state.handle ≡ true → state.read ≡ true
  pub bounds : (live : LiveEntry) → phase ≡ Phase.Live live
      → (live.belief.read ≡ true → state.read ≡ true) × (live.belief.handle ≡ true → state.handle ≡ true)

abbrev pub AckFit : List ℕ → Lease → Phase → Request → Type 0
AckFit key lease phase (Request.Acknowledge (Some given)) = bytes_eq key given.key ≡ true → IsAckFit lease phase given.state
AckFit key lease phase request = ⊤

-- ---- one file

pub record IsWithinFor (key : List ℕ) (file : ℕ) (lease : Lease) (phase : Phase) (asked : List Request)
    (queue : List Reply) : Type 0 where
  pub own : (live : LiveEntry) → phase ≡ Phase.Live live → IsWithin key lease.state queue live.belief
  pub given : AreGiven key file lease.state queue
  pub breaks : BreaksTell key file lease.broken_to (is_live phase) queue
  pub acks : Each (AckFit key lease phase) asked

-- ---- lists

-- another lease and other breaks on their way
pub within_in : (key : List ℕ) (held new : State) (queue more : List Reply) (state : State)
    → (held.handle ≡ true → new.handle ≡ true)
    → ((held.read ≡ true) ⊎ Among (lone_break key) queue → (new.read ≡ true) ⊎ Among (lone_break key) more)
    → IsWithin key held queue state → IsWithin key new more state
within_in key held new queue more state handles reads w = (λ h. ((w.0 h).0, handles (w.0 h).1), λ r. reads (w.1 r))

-- a last reply, and a lease that holds reads still, or a break of them is that reply
pub given_last : (key : List ℕ) (file : ℕ) (held new : State) (queue : List Reply) (last : Reply)
    → (held.handle ≡ true → new.handle ≡ true) → (held.read ≡ true → (new.read ≡ true) ⊎ Among (lone_break key) (last ∷ []))
    → OnGiven (IsWithin key new []) key file last → AreGiven key file held queue → AreGiven key file new (queue ++ last ∷ [])
given_last key file held new [] last handles reads here g = (here, tt)
given_last key file held new (reply ∷ queue) last handles reads here g = (
  given_all (IsWithin key held queue) (IsWithin key new (queue ++ last ∷ [])) key file
      (λ s w. within_in key held new queue (queue ++ last ∷ []) s handles
      (λ x. ⊎_elim (λ r. ⊎_elim (λ y. inl y) (λ y. inr (among_behind (lone_break key) queue (last ∷ []) y)) (reads r))
      (λ a. inr (among_before (lone_break key) queue (last ∷ []) a)) x) w) reply g.0,
  given_last key file held new queue last handles reads here g.1,
)

pub given_changed : (key : List ℕ) (file : ℕ) (held new : State) (queue : List Reply)
    → (held.handle ≡ true → new.handle ≡ true) → (held.read ≡ true → new.read ≡ true)
    → AreGiven key file held queue → AreGiven key file new queue
given_changed key file held new [] handles reads g = tt
given_changed key file held new (reply ∷ queue) handles reads g = (
  given_all (IsWithin key held queue) (IsWithin key new queue) key file
      (λ s w. within_in key held new queue queue s handles (λ x. ⊎_elim (λ r. inl (reads r)) (λ a. inr a) x) w) reply g.0,
  given_changed key file held new queue handles reads g.1,
)

-- nothing is created
pub given_nowhere : (key : List ℕ) (file : ℕ) (held : State) (queue : List Reply)
    → Each (λ reply. is_created file reply ≡ false) queue → AreGiven key file held queue
given_nowhere key file held [] none = tt
given_nowhere key file held (reply ∷ queue) none = (
  not_given reply none.0,
  given_nowhere key file held queue none.1,
)
  where
    not_given : (r : Reply) → is_created file r ≡ false → OnGiven (IsWithin key held queue) key file r
    not_given (Reply.Created other id (Some answer)) e = λ same. clash (other == file) (eq-eqb other file same) e
    not_given reply e = tt

-- ---- breaks along the queue

more_live : (less live made : Bool) → (less ≡ true → live ≡ true) → (less || made) ≡ true → (live || made) ≡ true
more_live less live made fewer e = ⊎_elim (λ a. rw (fewer a) refl) (λ a. right live made a) (or_true less made e)
  where
    right : (a c : Bool) → c ≡ true → (a || c) ≡ true
    right true c e = refl
    right false c e = e

pub tell_fewer : (key : List ℕ) (file : ℕ) (broken_to : Option State) (live less : Bool) (queue : List Reply)
    → (less ≡ true → live ≡ true) → BreaksTell key file broken_to live queue → BreaksTell key file broken_to less queue
tell_fewer key file broken_to live less [] fewer b = tt
tell_fewer key file broken_to live less (reply ∷ queue) fewer b = (
  λ seen. b.0 (fewer seen),
  tell_fewer key file broken_to (live || is_created file reply) (less || is_created file reply) queue
      (λ e. more_live less live (is_created file reply) fewer e) b.1,
)

-- one that asks for no acknowledgment of the key
pub plain_tells : (key : List ℕ) (broken_to : Option State) (reply : Reply) → (is_ack_break key reply ≡ true → ⊥)
    → TellsState key broken_to reply
plain_tells key broken_to (Reply.Break (Some notice)) none = λ is. absurd (none is)
plain_tells key broken_to reply none = tt

-- where none can be met, any state will do
pub tell_none : (key : List ℕ) (file : ℕ) (breaking : Bool) (count : ℕ) (broken_to : Option State) (live : Bool)
    (queue : List Reply) → ((rest : List Reply) → IsMet key file breaking count rest → ⊥)
    → BreaksAreMet key file breaking count live queue → BreaksTell key file broken_to live queue
tell_none key file breaking count broken_to live [] never b = tt
tell_none key file breaking count broken_to live (reply ∷ queue) never b = (
  λ seen. plain_tells key broken_to reply (λ is. never queue (b.0 seen is)),
  tell_none key file breaking count broken_to (live || is_created file reply) queue never b.1,
)

pub tell_last : (key : List ℕ) (file : ℕ) (broken_to : Option State) (live : Bool) (queue : List Reply) (last : Reply)
    → TellsState key broken_to last → BreaksTell key file broken_to live queue
    → BreaksTell key file broken_to live (queue ++ last ∷ [])
tell_last key file broken_to live [] last new b = (λ seen. new, tt)
tell_last key file broken_to live (reply ∷ queue) last new b = (
  b.0,
  tell_last key file broken_to (live || is_created file reply) queue last new b.1,
)

pub tell_nowhere : (key : List ℕ) (file : ℕ) (broken_to : Option State) (live : Bool) (queue : List Reply)
    → live ≡ false → Each (λ reply. is_created file reply ≡ false) queue → BreaksTell key file broken_to live queue
tell_nowhere key file broken_to live [] e none = tt
tell_nowhere key file broken_to live (reply ∷ queue) e none = (
  λ seen. clash live seen e,
  tell_nowhere key file broken_to (live || is_created file reply) queue (neither live (is_created file reply) e none.0) none.1,
)
  where
    neither : (a c : Bool) → a ≡ false → c ≡ false → (a || c) ≡ false
    neither a c e f = rw (e, f) refl

-- ---- acknowledgments along the queue

pub no_acks_fit : (key : List ℕ) (lease : Lease) (phase : Phase) (queue : List Request) → acks key queue ≡ 0
    → Each (AckFit key lease phase) queue
no_acks_fit key lease phase [] e = tt
no_acks_fit key lease phase (Request.OnFile request ∷ queue) e = (
  tt,
  no_acks_fit key lease phase queue (right (acks key queue) e),
)
  where
    right : (n : ℕ) → 0 + n ≡ 0 → n ≡ 0
    right n e = omega (arith, e)
no_acks_fit key lease phase (Request.Acknowledge None ∷ queue) e =
    (tt, no_acks_fit key lease phase queue (right (acks key queue) e))
  where
    right : (n : ℕ) → 0 + n ≡ 0 → n ≡ 0
    right n e = omega (arith, e)
no_acks_fit key lease phase (Request.Acknowledge (Some given) ∷ queue) e = (
  λ own. absurd (omega (arith, ap (λ b. one_if b + acks key queue) (sym own) ∙ e)),
  no_acks_fit key lease phase queue (right (one_if (bytes_eq key given.key)) (acks key queue) e),
)
  where
    right : (a b : ℕ) → a + b ≡ 0 → b ≡ 0
    right a b e = omega (arith, e)

-- the entry believes no more
pub fit_less : (key : List ℕ) (lease : Lease) (old new : Phase) (request : Request)
    → ((state : State) → IsAckFit lease old state → IsAckFit lease new state)
    → AckFit key lease old request → AckFit key lease new request
fit_less key lease old new (Request.Acknowledge (Some given)) less a = λ own. less given.state (a own)
fit_less key lease old new request less a = tt

-- ---- one that leaves its queue

-- a reply that is no break of reads alone
pub still_behind : (key : List ℕ) (reply : Reply) (queue : List Reply) → (lone_break key ≡ reply → ⊥) → (held : Bool)
    → (held ≡ true) ⊎ Among (lone_break key) (reply ∷ queue) → (held ≡ true) ⊎ Among (lone_break key) queue
still_behind key reply queue other held x = ⊎_elim (λ h. inl h)
    (λ a. ⊎_elim (λ same. absurd (other same)) (λ later. inr later) a) x

pub within_rest : (key : List ℕ) (held : State) (reply : Reply) (queue : List Reply) (state : State)
    → (lone_break key ≡ reply → ⊥) → IsWithin key held (reply ∷ queue) state → IsWithin key held queue state
within_rest key held reply queue state other w = (w.0, λ r. still_behind key reply queue other held.read (w.1 r))
