-- What a client believes of one file's lease: of writes, and of reads and handles. Whatever the server does to the lease, and
-- whatever the client does, keeps both.
-- what is given is held by the lease
-- a state holds what another held
-- ---- what the server does
-- a reply that gives no more than the lease, and nothing while it is breaking, and is no break that asks for an
-- acknowledgment
-- a lease that isn't breaking becomes another that isn't
-- a lease of reads alone is lowered, and its break is sent
-- a break begins, and is told
-- the lease is gone, with nothing that could believe anything of it
-- requests that leave the queue and are no acknowledgments of the key
-- ---- what the client does
-- a step that sends no acknowledgment of the key
-- a reply leaves its queue that is no break of reads alone, or that no live entry meets
-- the belief after a grant is what it gives, or no more than before
-- a break that asks for no acknowledgment
-- one that asks for an acknowledgment, which is sent with what is then believed
use Rattle.lease_laws.proofs.Words.{◌++◌, ◌∷◌, ◌≡◌, ◌⊎◌, BreakNotice, CreateAnswer, Lease, List, LiveEntry, Phase, Reply}
use Rattle.lease_laws.proofs.Words.{Request, Some, State, ℕ, [], ap, bytes_eq, false, given_state, is_breaking, meet, refl}
use Rattle.lease_laws.proofs.Words.{true}
use Rattle.lease_laws.proofs.client.cases.Replies.{is_live}
use Rattle.lease_laws.proofs.server.Lists.{clash}
use Rattle.lease_coherence.specs.Agreement.{lone_break, reads_alone}
use Rattle.lease_coherence.specs.Names.{Each}
use Rattle.lease_coherence.proofs.beliefs.Entries.{WasLive, break_kept, created_kept, reply_kept, step_kept}
use Rattle.lease_coherence.proofs.beliefs.Leases.{asked_less, break_sent, given_all, lease_gone, plain_sent, settled_changed}
use Rattle.lease_coherence.proofs.beliefs.OneLease.{AckKeeps, GivesNothing, HoldsWrites, IsBelieved, LowersWell, OnGiven, acks}
use Rattle.lease_coherence.proofs.beliefs.OneLease.{is_ack_break, is_created}
use Rattle.lease_coherence.proofs.within.BeliefsWithin.{AckFit, IsWithin, IsWithinFor, TellsState, plain_tells}
use Rattle.lease_coherence.proofs.within.Entries.{break_within, created_within, now_less, quiet_within, reply_within}
use Rattle.lease_coherence.proofs.within.Entries.{step_within}
use Rattle.lease_coherence.proofs.within.Leases.{break_more, gone_more, less_asked, lone_sent, plain_more, settled_more}

pub record IsExplained (key : List ℕ) (file : ℕ) (lease : Lease) (phase : Phase) (asked : List Request)
    (queue : List Reply) : Type 0 where
  pub believed : IsBelieved key file lease phase asked queue
  pub within : IsWithinFor key file lease phase asked queue

abbrev pub IsHeldBy : List ℕ → State → State → Type 0
IsHeldBy key lease state = HoldsWrites lease state × IsWithin key lease [] state

pub record HoldsOn (old : State) (new : State) : Type 0 where
  pub writes : old.write ≡ true → new.write ≡ true
  pub reads : old.read ≡ true → new.read ≡ true
  pub handles : old.handle ≡ true → new.handle ≡ true

pub plain_explained : (key : List ℕ) (file : ℕ) (lease : Lease) (phase : Phase) (asked : List Request)
    (queue : List Reply) (reply : Reply) → OnGiven (IsHeldBy key lease.state) key file reply
    → (is_breaking lease ≡ true → OnGiven GivesNothing key file reply) → is_ack_break key reply ≡ false
    → IsExplained key file lease phase asked queue → IsExplained key file lease phase asked (queue ++ reply ∷ [])
plain_explained key file lease phase asked queue reply given none plain e = record {
  believed = plain_sent key file lease phase asked queue reply
      (given_all (IsHeldBy key lease.state) (HoldsWrites lease.state) key file (λ s h. h.0) reply given) none plain e.believed;
  within = plain_more key file lease phase asked queue reply
      (given_all (IsHeldBy key lease.state) (IsWithin key lease.state []) key file (λ s h. h.1) reply given)
      (plain_tells key lease.broken_to reply (λ is. clash (is_ack_break key reply) is plain)) e.within;
}

pub settled_explained : (key : List ℕ) (file : ℕ) (lease new : Lease) (phase : Phase) (asked : List Request)
    (queue : List Reply) → is_breaking lease ≡ false → HoldsOn lease.state new.state → is_breaking new ≡ false
    → IsExplained key file lease phase asked queue → IsExplained key file new phase asked queue
settled_explained key file lease new phase asked queue settled more still e = record {
  believed = settled_changed key file lease new phase asked queue settled more.writes still e.believed;
  within = settled_more key file lease new phase asked queue settled more.reads more.handles e.believed e.within;
}

pub lone_explained : (key : List ℕ) (file : ℕ) (lease new : Lease) (phase : Phase) (asked : List Request)
    (queue : List Reply) → is_breaking lease ≡ false → lease.state ≡ reads_alone → is_breaking new ≡ false
    → IsExplained key file lease phase asked queue → IsExplained key file new phase asked (queue ++ lone_break key ∷ [])
lone_explained key file lease new phase asked queue settled alone still e = record {
  believed = plain_sent key file new phase asked queue (lone_break key) tt (λ breaks. tt) refl
      (settled_changed key file lease new phase asked queue settled
      (λ w. clash lease.state.write w (ap (λ (s : State). s.write) alone)) still e.believed);
  within = lone_sent key file lease new phase asked queue settled (ap (λ (s : State). s.handle) alone) e.believed e.within;
}

pub break_explained : (key : List ℕ) (file : ℕ) (lease new : Lease) (phase : Phase) (asked : List Request)
    (queue : List Reply) (reply : Reply) → is_breaking lease ≡ false → is_breaking new ≡ true → new.state ≡ lease.state
    → ((T : State → Type 0) → OnGiven T key file reply) → TellsState key new.broken_to reply
    → IsExplained key file lease phase asked queue → IsExplained key file new phase asked (queue ++ reply ∷ [])
break_explained key file lease new phase asked queue reply settled breaks same given tells e = record {
  believed = break_sent key file lease new phase asked queue reply settled breaks same (given (HoldsWrites new.state)) e.believed;
  within = break_more key file lease new phase asked queue reply settled same (given (IsWithin key new.state [])) tells
      e.believed e.within;
}

pub gone_explained : (key : List ℕ) (file : ℕ) (new : Lease) (phase : Phase) (asked : List Request) (queue : List Reply)
    → is_live phase ≡ false → Each (λ reply. is_created file reply ≡ false) queue → acks key asked ≡ 0
    → IsExplained key file new phase asked queue
gone_explained key file new phase asked queue idle none zero = record {
  believed = lease_gone key file new phase asked queue idle none zero;
  within = gone_more key file new phase asked queue idle none zero;
}

pub less_explained : (key : List ℕ) (file : ℕ) (lease : Lease) (phase : Phase) (asked left : List Request)
    (queue : List Reply) → acks key left ≡ acks key asked → ((P : Request → Type 0) → Each P asked → Each P left)
    → IsExplained key file lease phase asked queue → IsExplained key file lease phase left queue
less_explained key file lease phase asked left queue same fewer e = record {
  believed = asked_less key file lease phase asked left queue same (fewer (AckKeeps key)) e.believed;
  within = less_asked key file lease phase asked left queue (fewer (AckFit key lease phase)) e.within;
}

pub step_explained : (key : List ℕ) (file : ℕ) (lease : Lease) (old new : Phase) (asked more : List Request)
    (queue : List Reply) → ((live : LiveEntry) → new ≡ Phase.Live live → WasLive old live.belief)
    → acks key more ≡ 0 → IsExplained key file lease old asked queue → IsExplained key file lease new (asked ++ more) queue
step_explained key file lease old new asked more queue less none e = record {
  believed = step_kept key file lease old new asked more queue less none e.believed;
  within = step_within key file lease old new asked more queue less none e.within;
}

pub reply_explained : (key : List ℕ) (file : ℕ) (lease : Lease) (phase : Phase) (asked : List Request) (reply : Reply)
    (queue : List Reply) → ((live : LiveEntry) → phase ≡ Phase.Live live → lone_break key ≡ reply → ⊥)
    → IsExplained key file lease phase asked (reply ∷ queue) → IsExplained key file lease phase asked queue
reply_explained key file lease phase asked reply queue other e = record {
  believed = reply_kept key file lease phase asked reply queue e.believed;
  within = reply_within key file lease phase asked reply queue other e.within;
}

pub created_explained : (key : List ℕ) (file file_id : ℕ) (answer : CreateAnswer) (lease : Lease) (old : Phase)
    (new : LiveEntry) (asked more : List Request) (queue : List Reply)
    → (new.belief ≡ given_state key answer.lease) ⊎ WasLive old new.belief
    → acks key more ≡ 0 → IsExplained key file lease old asked (Reply.Created file file_id (Some answer) ∷ queue)
    → IsExplained key file lease (Phase.Live new) (asked ++ more) queue
created_explained key file file_id answer lease old new asked more queue from none e = record {
  believed = created_kept key file file_id answer lease old new asked more queue (λ write. from) none e.believed;
  within = created_within key file file_id answer lease old new asked more queue from none e.believed e.within;
}

pub quiet_explained : (key : List ℕ) (file : ℕ) (notice : BreakNotice) (lease : Lease) (old : Phase) (live new : LiveEntry)
    (asked more : List Request) (queue : List Reply) → old ≡ Phase.Live live → LowersWell (Reply.Break (Some notice))
    → new.belief ≡ meet live.belief notice.lowered → acks key more ≡ 0
    → IsExplained key file lease old asked (Reply.Break (Some notice) ∷ queue)
    → IsExplained key file lease (Phase.Live new) (asked ++ more) queue
quiet_explained key file notice lease old live new asked more queue is formed believes none e = record {
  believed = step_kept key file lease old (Phase.Live new) asked more queue (now_less old live new notice is formed believes)
      none (reply_kept key file lease old asked (Reply.Break (Some notice)) queue e.believed);
  within = quiet_within key file notice lease old live new asked more queue is formed believes none e.within;
}

pub met_explained : (key : List ℕ) (file : ℕ) (notice : BreakNotice) (lease : Lease) (old new : LiveEntry)
    (asked writes : List Request) (queue : List Reply) → notice.ack_required ≡ true → bytes_eq key notice.key ≡ true
    → LowersWell (Reply.Break (Some notice)) → new.belief ≡ meet old.belief notice.lowered → acks key writes ≡ 0
    → IsExplained key file lease (Phase.Live old) asked (Reply.Break (Some notice) ∷ queue)
    → IsExplained key file lease (Phase.Live new)
    (asked ++ (writes ++ Request.Acknowledge (Some (record { key = notice.key; state = meet old.belief notice.lowered })) ∷ []))
    queue
met_explained key file notice lease old new asked writes queue required own formed believes none e = record {
  believed = break_kept key file notice lease old new asked writes queue required own formed believes none e.believed;
  within = break_within key file notice lease old new asked writes queue required own formed believes none e.believed e.within;
}
