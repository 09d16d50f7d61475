-- What the server does to one file's lease, and sends to its client, keeps beliefs within it.
use Rattle.lease_laws.proofs.Words.{◌++◌, ◌∙◌, ◌∷◌, ◌≡◌, Among, Lease, LeaseOf, List, None, Phase, Reply, Request, Some, State}
use Rattle.lease_laws.proofs.Words.{ℕ, [], ⊎_elim, ap, bytes_eq, false, granted_form_of, inl, inr, is_breaking, refl, sym, true}
use Rattle.lease_laws.proofs.Words.{true≢false}
use Rattle.lease_laws.proofs.client.cases.Replies.{is_live}
use Rattle.lease_laws.proofs.server.Lists.{among_before, clash, if_cases}
use Rattle.lease_coherence.specs.Agreement.{lone_break}
use Rattle.lease_coherence.specs.Names.{Each}
use Rattle.lease_coherence.proofs.beliefs.Leases.{settled_none}
use Rattle.lease_coherence.proofs.beliefs.OneLease.{GivesNothing, IsAnswering, IsBelieved, IsMet, OnGiven, acks, is_created}
use Rattle.lease_coherence.proofs.within.BeliefsWithin.{AckFit, AreGiven, IsAckFit, IsWithin, IsWithinFor, TellsState}
use Rattle.lease_coherence.proofs.within.BeliefsWithin.{given_changed, given_last, given_nowhere, no_acks_fit, tell_last}
use Rattle.lease_coherence.proofs.within.BeliefsWithin.{tell_none, tell_nowhere, within_in}

-- one more reply: a lease that is as it was
pub plain_more : (key : List ℕ) (file : ℕ) (lease : Lease) (phase : Phase) (asked : List Request) (queue : List Reply)
    (reply : Reply) → OnGiven (IsWithin key lease.state []) key file reply → TellsState key lease.broken_to reply
    → IsWithinFor key file lease phase asked queue → IsWithinFor key file lease phase asked (queue ++ reply ∷ [])
plain_more key file lease phase asked queue reply given tells w = record {
  own = λ live is. within_in key lease.state lease.state queue (queue ++ reply ∷ []) live.belief (λ h. h)
      (λ x. ⊎_elim (λ r. inl r) (λ a. inr (among_before (lone_break key) queue (reply ∷ []) a)) x) (w.own live is);
  given = given_last key file lease.state lease.state queue reply (λ h. h) (λ r. inl r) given w.given;
  breaks = tell_last key file lease.broken_to (is_live phase) queue reply tells w.breaks;
  acks = w.acks;
}

-- a break that is met only while the lease is breaking
pub never_met : (key : List ℕ) (file : ℕ) (lease : Lease) (count : ℕ) (rest : List Reply) → is_breaking lease ≡ false
    → IsMet key file (is_breaking lease) count rest → ⊥
never_met key file lease count rest settled m = clash (is_breaking lease) m.is_so settled

-- a lease that isn't breaking becomes another that isn't, and holds what it held
pub settled_more : (key : List ℕ) (file : ℕ) (lease new : Lease) (phase : Phase) (asked : List Request)
    (queue : List Reply) → is_breaking lease ≡ false → (lease.state.read ≡ true → new.state.read ≡ true)
    → (lease.state.handle ≡ true → new.state.handle ≡ true) → IsBelieved key file lease phase asked queue
    → IsWithinFor key file lease phase asked queue → IsWithinFor key file new phase asked queue
settled_more key file lease new phase asked queue settled reads handles b w = record {
  own = λ live is. within_in key lease.state new.state queue queue live.belief handles
      (λ x. ⊎_elim (λ r. inl (reads r)) (λ a. inr a) x) (w.own live is);
  given = given_changed key file lease.state new.state queue handles reads w.given;
  breaks = tell_none key file (is_breaking lease) (acks key asked) new.broken_to (is_live phase) queue
      (λ rest m. never_met key file lease (acks key asked) rest settled m) b.breaks;
  acks = no_acks_fit key new phase asked (settled_none key file lease phase asked queue settled b);
}

-- a lease of reads alone is lowered, and its break is sent
pub lone_sent : (key : List ℕ) (file : ℕ) (lease new : Lease) (phase : Phase) (asked : List Request) (queue : List Reply)
    → is_breaking lease ≡ false → lease.state.handle ≡ false → IsBelieved key file lease phase asked queue
    → IsWithinFor key file lease phase asked queue → IsWithinFor key file new phase asked (queue ++ lone_break key ∷ [])
lone_sent key file lease new phase asked queue settled bare b w = record {
  own = λ live is. within_in key lease.state new.state queue (queue ++ lone_break key ∷ []) live.belief
      (λ h. clash lease.state.handle h bare) (λ x. inr (last queue)) (w.own live is);
  given = given_last key file lease.state new.state queue (lone_break key) (λ h. clash lease.state.handle h bare)
      (λ r. inr (inl refl)) tt w.given;
  breaks = tell_last key file new.broken_to (is_live phase) queue (lone_break key) (λ e. absurd (true≢false (sym e)))
      (tell_none key file (is_breaking lease) (acks key asked) new.broken_to (is_live phase) queue
      (λ rest m. never_met key file lease (acks key asked) rest settled m) b.breaks);
  acks = no_acks_fit key new phase asked (settled_none key file lease phase asked queue settled b);
}
  where
    last : (q : List Reply) → Among (lone_break key) (q ++ lone_break key ∷ [])
    last [] = inl refl
    last (x ∷ q) = inr (last q)

-- a break begins, and is told
pub break_more : (key : List ℕ) (file : ℕ) (lease new : Lease) (phase : Phase) (asked : List Request)
    (queue : List Reply) (reply : Reply) → is_breaking lease ≡ false → new.state ≡ lease.state
    → OnGiven (IsWithin key new.state []) key file reply → TellsState key new.broken_to reply
    → IsBelieved key file lease phase asked queue
    → IsWithinFor key file lease phase asked queue → IsWithinFor key file new phase asked (queue ++ reply ∷ [])
break_more key file lease new phase asked queue reply settled same given tells b w =
    plain_more key file new phase asked queue reply given tells
    (settled_more key file lease new phase asked queue settled (λ r. ap (λ (s : State). s.read) same ∙ r)
    (λ h. ap (λ (s : State). s.handle) same ∙ h) b w)

-- the lease is gone, with nothing that could believe anything of it
pub gone_more : (key : List ℕ) (file : ℕ) (new : Lease) (phase : Phase) (asked : List Request) (queue : List Reply)
    → is_live phase ≡ false → Each (λ reply. is_created file reply ≡ false) queue → acks key asked ≡ 0
    → IsWithinFor key file new phase asked queue
gone_more key file new phase asked queue idle none zero = record {
  own = λ live is. clash (is_live phase) (ap is_live is) idle;
  given = given_nowhere key file new.state queue none;
  breaks = tell_nowhere key file new.broken_to (is_live phase) queue idle none;
  acks = no_acks_fit key new phase asked zero;
}

-- requests that leave the queue
pub less_asked : (key : List ℕ) (file : ℕ) (lease : Lease) (phase : Phase) (asked left : List Request)
    (queue : List Reply) → (Each (AckFit key lease phase) asked → Each (AckFit key lease phase) left)
    → IsWithinFor key file lease phase asked queue → IsWithinFor key file lease phase left queue
less_asked key file lease phase asked left queue fewer w =
    record { own = w.own; given = w.given; breaks = w.breaks; acks = fewer w.acks }

-- the acknowledgment is served: what is believed is within it
pub ack_more : (key : List ℕ) (file : ℕ) (lease new : Lease) (phase : Phase) (given : LeaseOf) (left : List Request)
    (queue : List Reply) → bytes_eq key given.key ≡ true → new.state ≡ granted_form_of given.state
    → IsBelieved key file lease phase (Request.Acknowledge (Some given) ∷ left) queue → acks key left ≡ 0
    → IsAnswering key file lease phase (Request.Acknowledge (Some given) ∷ left) queue
    → IsWithinFor key file lease phase (Request.Acknowledge (Some given) ∷ left) queue → IsWithinFor key file new phase left queue
ack_more key file lease new phase given left queue own is b zero a w = record {
  own = λ live at. let bounds = (fit.bounds live at) in (
    λ h. (((w.own live at).0 h).0, ap (λ (s : State). s.handle) is ∙ kept_handle (bounds.1 h) (fit.formed (bounds.1 h))),
    λ r. inl (ap (λ (s : State). s.read) is ∙ kept_read (bounds.0 r)),
  );
  given = none_given queue a.no_grant w.given;
  breaks = tell_none key file (is_breaking lease) (acks key (Request.Acknowledge (Some given) ∷ left)) new.broken_to
      (is_live phase) queue
      (λ rest m. one_none (acks key (Request.Acknowledge (Some given) ∷ left)) a.one m.none_answered) b.breaks;
  acks = no_acks_fit key new phase left zero;
}
  where
    fit : IsAckFit lease phase given.state
    fit = (w.acks.0) own

    one_none : (n : ℕ) → n ≡ 1 → n ≡ 0 → ⊥
    one_none n e f = cc

    kept_read : given.state.read ≡ true → (granted_form_of given.state).read ≡ true
    kept_read r = if_cases (λ (s : State). s.read ≡ true) given.state.read given.state
        (record { read = false; write = false; handle = false }) (λ reads. r) (λ none. clash given.state.read r none)

    kept_handle : given.state.handle ≡ true → given.state.read ≡ true → (granted_form_of given.state).handle ≡ true
    kept_handle h r = if_cases (λ (s : State). s.handle ≡ true) given.state.read given.state
        (record { read = false; write = false; handle = false }) (λ reads. h) (λ none. clash given.state.read r none)

    none_given : (q : List Reply) → Each (OnGiven GivesNothing key file) q → AreGiven key file lease.state q
        → AreGiven key file new.state q
    none_given [] none g = tt
    none_given (reply ∷ q) none g = (both reply none.0 g.0, none_given q none.1 g.1)
      where
        both : (r : Reply) → OnGiven GivesNothing key file r → OnGiven (IsWithin key lease.state q) key file r
            → OnGiven (IsWithin key new.state q) key file r
        both (Reply.Created other id None) n g = tt
        both (Reply.Created other id (Some answer)) n g = λ same. let nothing = n same in let was = g same in (
          λ h. clash _ ((was.0 h).0) nothing.1,
          λ r. clash _ r nothing.1,
        )
        both (Reply.CreateFailed other status) n g = tt
        both reply n g = tt
