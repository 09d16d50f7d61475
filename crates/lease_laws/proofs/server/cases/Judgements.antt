-- What an acknowledgment makes of a call under way: it fails, or ends a break.
use Rattle.lease_laws.proofs.Words.{◌∙◌, ◌≡◌, LeaseOf, None, Option, Progress, Reply, Server, Some, State, Status, ℕ, ⊤}
use Rattle.lease_laws.proofs.Words.{acknowledged, break_ended, false, has_lease, if◌then◌else◌, is_state_within, judged, key_of}
use Rattle.lease_laws.proofs.Words.{refl, replied, subst, sym, true}
use Rattle.lease_laws.proofs.server.Lists.{clash, either}

-- why an acknowledgment is refused: no lease of its key is breaking to a state that it lies within
abbrev pub IsRefusedAck : Server → ℕ → Option LeaseOf → Type 0
IsRefusedAck server client None = ⊤
IsRefusedAck server client (Some given) = has_lease server (key_of client given.key) ≡ true → (lowered : State)
    → (server.leases (key_of client given.key)).broken_to ≡ Some lowered → is_state_within given.state lowered ≡ false

abbrev pub fault_of : Option State → Status
fault_of None = Status.Unsuccessful
fault_of (Some lowered) = Status.RequestNotAccepted

-- the status that tells it
abbrev pub ack_fault : Server → ℕ → Option LeaseOf → Status
ack_fault server client None = Status.InvalidParameter
ack_fault server client (Some given) = if has_lease server (key_of client given.key)
    then fault_of (server.leases (key_of client given.key)).broken_to else Status.ObjectNameNotFound

pub record HasJudgements (client : ℕ) (progress : Progress) (P : Option LeaseOf → Progress → Type 0) : Type 0 where
  pub failed : (given : Option LeaseOf) → IsRefusedAck progress.server client given
      → P given (replied client (Reply.AckFailed (ack_fault progress.server client given)) progress)
  pub ended : (given : LeaseOf) (lowered : State) → has_lease progress.server (key_of client given.key) ≡ true
      → (progress.server.leases (key_of client given.key)).broken_to ≡ Some lowered → is_state_within given.state lowered ≡ true
      → P (Some given) (break_ended (key_of client given.key) given.state progress)

-- ---- each of them

pub is_judged : (client : ℕ) (given : LeaseOf) (progress : Progress) → has_lease progress.server (key_of client given.key) ≡ true
    → acknowledged client (Some given) progress ≡ judged (key_of client given.key) given.state
    (progress.server.leases (key_of client given.key)).broken_to progress
unfolding acknowledged
is_judged client given progress there = rw (there) refl

pub ends_break : (client : ℕ) (given : LeaseOf) (lowered : State) (progress : Progress)
    → has_lease progress.server (key_of client given.key) ≡ true
    → (progress.server.leases (key_of client given.key)).broken_to ≡ Some lowered → is_state_within given.state lowered ≡ true
    → acknowledged client (Some given) progress ≡ break_ended (key_of client given.key) given.state progress
ends_break client given lowered progress there breaks within =
    is_judged client given progress there ∙ rw (breaks, within) refl

judged_so : (client : ℕ) (given : LeaseOf) (progress : Progress) (broken : Option State)
    → ((lowered : State) → broken ≡ Some lowered → is_state_within given.state lowered ≡ false)
    → judged (key_of client given.key) given.state broken progress ≡ replied client (Reply.AckFailed (fault_of broken)) progress
judged_so client given progress None why = refl
judged_so client given progress (Some lowered) why = rw (why lowered refl) refl

pub is_refused : (client : ℕ) (given : Option LeaseOf) (progress : Progress) → IsRefusedAck progress.server client given
    → acknowledged client given progress
    ≡ replied client (Reply.AckFailed (ack_fault progress.server client given)) progress
unfolding acknowledged
is_refused client None progress why = refl
is_refused client (Some given) progress why = either (has_lease progress.server (key_of client given.key))
    (λ there. rw (there)
    (judged_so client given progress (progress.server.leases (key_of client given.key)).broken_to (why there)))
    (λ gone. rw (gone) refl)

-- ---- every acknowledgment has one of them

failed : (client : ℕ) (progress : Progress) (P : Option LeaseOf → Progress → Type 0) → HasJudgements client progress P
    → (given : Option LeaseOf) → IsRefusedAck progress.server client given → P given (acknowledged client given progress)
failed client progress P h given why = subst (P given) (sym (is_refused client given progress why)) (h.failed given why)

some_judgement : (client : ℕ) (progress : Progress) (P : Option LeaseOf → Progress → Type 0) → HasJudgements client progress P
    → (given : LeaseOf) → has_lease progress.server (key_of client given.key) ≡ true → (broken : Option State)
    → (progress.server.leases (key_of client given.key)).broken_to ≡ broken
    → P (Some given) (acknowledged client (Some given) progress)
some_judgement client progress P h given there None breaks = failed client progress P h (Some given)
    (λ has lowered other. absurd (never lowered (sym breaks ∙ other)))
  where
    never : (lowered : State) → None ≡ Some lowered → ⊥
    never lowered e = cc
some_judgement client progress P h given there (Some lowered) breaks = either (is_state_within given.state lowered)
    (λ within. subst (P (Some given)) (sym (ends_break client given lowered progress there breaks within))
    (h.ended given lowered there breaks within))
    (λ beyond. failed client progress P h (Some given)
    (λ has other is. subst (λ s. is_state_within given.state s ≡ false) (one_state lowered other (sym breaks ∙ is)) beyond))
  where
    one_state : (a b : State) → Some a ≡ Some b → a ≡ b
    one_state a b e = cc

pub any_judgement : (client : ℕ) (progress : Progress) (P : Option LeaseOf → Progress → Type 0)
    → HasJudgements client progress P → (given : Option LeaseOf) → P given (acknowledged client given progress)
any_judgement client progress P h None = failed client progress P h None tt
any_judgement client progress P h (Some given) = either (has_lease progress.server (key_of client given.key))
    (λ there. some_judgement client progress P h given there (progress.server.leases (key_of client given.key)).broken_to refl)
    (λ gone. failed client progress P h (Some given)
    (λ there. clash (has_lease progress.server (key_of client given.key)) there gone))
