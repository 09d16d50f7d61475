-- What the server does to one file's lease, and sends to its client, keeps what is believed of it.
use Rattle.lease_laws.proofs.Words.{◌++◌, ◌+◌, ◌==◌, ◌∙◌, ◌∷◌, ◌≡◌, Lease, LeaseOf, List, Phase, Reply, Request, Some, State, ℕ}
use Rattle.lease_laws.proofs.Words.{[], ⊎_elim, ap, arith, bytes_eq, eq-eqb, false, inl, inr, is_breaking, sym, true}
use Rattle.lease_laws.proofs.client.cases.Replies.{is_live}
use Rattle.lease_laws.proofs.server.Lists.{clash}
use Rattle.lease_coherence.specs.Creates.{one_if}
use Rattle.lease_coherence.specs.Names.{Each}
use Rattle.lease_coherence.proofs.beliefs.OneLease.{AckKeeps, GivesNothing, HoldsWrites, IsBelieved, OnGiven, acks}
use Rattle.lease_coherence.proofs.beliefs.OneLease.{is_ack_break, is_created, met_last, met_mapped, met_nowhere}
use Rattle.lease_coherence.proofs.names.NamedInRecord.{each_append, each_weaker}

each_last : {X : Type 0} (P : X → Type 0) (xs : List X) (x : X) → Each P xs → P x → Each P (xs ++ x ∷ [])
each_last P xs x each last = each_append P xs (x ∷ []) each (last, tt)

pub given_all : (T U : State → Type 0) (key : List ℕ) (file : ℕ) → ((s : State) → T s → U s) → (reply : Reply)
    → OnGiven T key file reply → OnGiven U key file reply
given_all T U key file f (Reply.Created other id (Some answer)) g = λ e. f _ (g e)
given_all T U key file f reply g = tt

-- a reply that gives no more than the lease, and no writes while it is breaking, and is no break that asks for an
-- acknowledgment
pub plain_sent : (key : List ℕ) (file : ℕ) (lease : Lease) (phase : Phase) (asked : List Request) (queue : List Reply)
    (reply : Reply) → OnGiven (HoldsWrites lease.state) key file reply
    → (is_breaking lease ≡ true → OnGiven GivesNothing key file reply) → is_ack_break key reply ≡ false
    → IsBelieved key file lease phase asked queue → IsBelieved key file lease phase asked (queue ++ reply ∷ [])
plain_sent key file lease phase asked queue reply given none plain b = record {
  own = b.own;
  given = each_last (OnGiven (HoldsWrites lease.state) key file) queue reply b.given given;
  breaks = met_last key file (is_breaking lease) (is_breaking lease) (acks key asked) (acks key asked) (is_live phase) queue reply
      (λ rest m. record {
        is_so = m.is_so;
        none_answered = m.none_answered;
        no_grant = each_last (OnGiven GivesNothing key file) rest reply m.no_grant (none m.is_so);
        no_break = each_last (λ r. is_ack_break key r ≡ false) rest reply m.no_break plain;
      })
      (λ is. clash (is_ack_break key reply) is plain) b.breaks;
  answers = ⊎_elim (λ zero. inl zero) (λ a. inr (record {
    one = a.one;
    breaking = a.breaking;
    bounds = a.bounds;
    no_grant = each_last (OnGiven GivesNothing key file) queue reply a.no_grant (none a.breaking);
  })) b.answers;
}

-- nothing is answered while nothing breaks
pub settled_none : (key : List ℕ) (file : ℕ) (lease : Lease) (phase : Phase) (asked : List Request) (queue : List Reply)
    → is_breaking lease ≡ false → IsBelieved key file lease phase asked queue → acks key asked ≡ 0
settled_none key file lease phase asked queue settled b = ⊎_elim (λ zero. zero)
    (λ a. clash (is_breaking lease) a.breaking settled) b.answers

-- a lease that isn't breaking becomes another that isn't: where writes were held they are, or none were
pub settled_changed : (key : List ℕ) (file : ℕ) (lease new : Lease) (phase : Phase) (asked : List Request)
    (queue : List Reply) → is_breaking lease ≡ false
    → (lease.state.write ≡ true → new.state.write ≡ true) → is_breaking new ≡ false
    → IsBelieved key file lease phase asked queue → IsBelieved key file new phase asked queue
settled_changed key file lease new phase asked queue settled more still b = record {
  own = λ live is w. let h = b.own live is w in (h.0, more h.1);
  given = each_weaker (OnGiven (HoldsWrites lease.state) key file) (OnGiven (HoldsWrites new.state) key file) queue
      (λ reply g. given_all (HoldsWrites lease.state) (HoldsWrites new.state) key file
      (λ s h w. ((h w).0, more (h w).1)) reply g) b.given;
  breaks = met_mapped key file (is_breaking lease) (is_breaking new) (acks key asked) (acks key asked) (is_live phase) queue
      (λ rest m. clash (is_breaking lease) m.is_so settled) b.breaks;
  answers = inl (settled_none key file lease phase asked queue settled b);
}

-- a break begins, and is told
pub break_sent : (key : List ℕ) (file : ℕ) (lease new : Lease) (phase : Phase) (asked : List Request)
    (queue : List Reply) (reply : Reply) → is_breaking lease ≡ false → is_breaking new ≡ true
    → new.state ≡ lease.state → OnGiven (HoldsWrites new.state) key file reply
    → IsBelieved key file lease phase asked queue → IsBelieved key file new phase asked (queue ++ reply ∷ [])
break_sent key file lease new phase asked queue reply settled breaks same given b =
    let none = settled_none key file lease phase asked queue settled b in record {
      own = λ live is w. let h = b.own live is w in (h.0, ap (λ (s : State). s.write) same ∙ h.1);
      given = each_last (OnGiven (HoldsWrites new.state) key file) queue reply
          (each_weaker (OnGiven (HoldsWrites lease.state) key file) (OnGiven (HoldsWrites new.state) key file) queue
          (λ r g. given_all (HoldsWrites lease.state) (HoldsWrites new.state) key file
          (λ s h w. ((h w).0, ap (λ (x : State). x.write) same ∙ (h w).1)) r g) b.given) given;
      breaks = met_last key file (is_breaking lease) (is_breaking new) (acks key asked) (acks key asked) (is_live phase)
          queue reply (λ rest m. clash (is_breaking lease) m.is_so settled)
          (λ is. record { is_so = breaks; none_answered = none; no_grant = tt; no_break = tt }) b.breaks;
      answers = inl none;
    }

-- the lease is gone: nobody believes anything of it, and no acknowledgment is on its way
pub lease_gone : (key : List ℕ) (file : ℕ) (new : Lease) (phase : Phase) (asked : List Request) (queue : List Reply)
    → is_live phase ≡ false → Each (λ reply. is_created file reply ≡ false) queue → acks key asked ≡ 0
    → IsBelieved key file new phase asked queue
lease_gone key file new phase asked queue idle none zero = record {
  own = λ live is. clash (is_live phase) (ap is_live is) idle;
  given = each_weaker (λ reply. is_created file reply ≡ false) (OnGiven (HoldsWrites new.state) key file) queue not_given none;
  breaks = met_nowhere key file (is_breaking new) (acks key asked) (is_live phase) queue idle none;
  answers = inl zero;
}
  where
    not_given : (reply : Reply) → is_created file reply ≡ false → OnGiven (HoldsWrites new.state) key file reply
    not_given (Reply.Created other id (Some answer)) e = λ same. clash (other == file) (eq-eqb other file same) e
    not_given reply e = tt

-- requests that leave the queue and are no acknowledgments of the key
pub asked_less : (key : List ℕ) (file : ℕ) (lease : Lease) (phase : Phase) (asked left : List Request)
    (queue : List Reply) → acks key left ≡ acks key asked → (Each (AckKeeps key) asked → Each (AckKeeps key) left)
    → IsBelieved key file lease phase asked queue → IsBelieved key file lease phase left queue
asked_less key file lease phase asked left queue same keeps b = record {
  own = b.own;
  given = b.given;
  breaks = met_mapped key file (is_breaking lease) (is_breaking lease) (acks key asked) (acks key left) (is_live phase) queue
      (λ rest m. record {
        is_so = m.is_so;
        none_answered = same ∙ m.none_answered;
        no_grant = m.no_grant;
        no_break = m.no_break;
      }) b.breaks;
  answers = ⊎_elim (λ zero. inl (same ∙ zero)) (λ a. inr (record {
    one = same ∙ a.one;
    breaking = a.breaking;
    bounds = λ live is w. keeps (a.bounds live is w);
    no_grant = a.no_grant;
  })) b.answers;
}

-- the acknowledgment of the key is served: the break is over, and what was believed is kept
pub ack_served : (key : List ℕ) (file : ℕ) (lease new : Lease) (phase : Phase) (given : LeaseOf) (left : List Request)
    (queue : List Reply) → bytes_eq key given.key ≡ true
    → (given.state.write ≡ true → given.state.read ≡ true → new.state.write ≡ true)
    → IsBelieved key file lease phase (Request.Acknowledge (Some given) ∷ left) queue → IsBelieved key file new phase left queue
ack_served key file lease new phase given left queue own keeps b = ⊎_elim
    (λ zero. absurd (omega (arith, ap (λ x. one_if x + acks key left) (sym own) ∙ zero)))
    (λ a. record {
      own = λ live is w.
          let h = a.bounds live is w in
          let kept = (h.0) own in ((b.own live is w).0, keeps kept.0 kept.1);
      given = each_weaker (OnGiven GivesNothing key file) (OnGiven (HoldsWrites new.state) key file) queue
          (λ reply g. given_all GivesNothing (HoldsWrites new.state) key file (λ s none w. clash s.write w none.0) reply g)
          a.no_grant;
      breaks = met_mapped key file (is_breaking lease) (is_breaking new)
          (acks key (Request.Acknowledge (Some given) ∷ left)) (acks key left) (is_live phase) queue
          (λ rest m. absurd (omega (arith, a.one, m.none_answered))) b.breaks;
      answers = inl (omega (arith, ap (λ x. one_if x + acks key left) (sym own) ∙ a.one));
    }) b.answers
