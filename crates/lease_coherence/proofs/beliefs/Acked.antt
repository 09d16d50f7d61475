-- An acknowledgment that is judged, and a request that is held, take no trust away.
use Rattle.lease_laws.proofs.Words.{◌++◌, ◌+◌, ◌==◌, ◌∙◌, ◌∷◌, ◌≡◌, ◌⊎◌, Held, Key, Lease, LeaseOf, List, None, Option, Phase}
use Rattle.lease_laws.proofs.Words.{Reply, Request, Some, State, Status, World, ℕ, [], ⊎_elim, ap, arith, bytes_eq}
use Rattle.lease_laws.proofs.Words.{bytes_eq-Decides, eq-eqb, false, granted_form_of, inl, inr, is_breaking, key_eq, key_of}
use Rattle.lease_laws.proofs.Words.{machine_key, put, put_key, refl, subst, sym, true}
use Rattle.lease_laws.proofs.client.Thin.{put_same}
use Rattle.lease_laws.proofs.client.cases.Replies.{is_live}
use Rattle.lease_laws.proofs.server.Keys.{put_key-cases}
use Rattle.lease_laws.proofs.server.Lists.{among_append, and_both, clash, either, if_cases}
use Rattle.lease_coherence.specs.Creates.{one_if}
use Rattle.lease_coherence.specs.Names.{Each}
use Rattle.lease_coherence.specs.Standing.{IsNoClose}
use Rattle.lease_coherence.proofs.beliefs.Leases.{ack_served}
use Rattle.lease_coherence.proofs.beliefs.OneFile.{IsExplained, less_explained, plain_explained}
use Rattle.lease_coherence.proofs.beliefs.OneLease.{IsAnswering, IsBelieved, LowersWell, OpenTillAck, acks, met_mapped}
use Rattle.lease_coherence.proofs.beliefs.Sent.{told_trusted}
use Rattle.lease_coherence.proofs.beliefs.Trust.{HasTrust, IsAnchored, IsAnchoredBut, IsTrustedFor, file_key, popped_anchor}
use Rattle.lease_coherence.proofs.beliefs.Trust.{popped_trusted, trusted_by}
use Rattle.lease_coherence.proofs.moves.Deeds.{done_reply, held_in, leased_in, told_to}
use Rattle.lease_coherence.proofs.moves.Ground.{among_put}
use Rattle.lease_coherence.proofs.moves.Moves.{IsOldest, popped, rest_of}
use Rattle.lease_coherence.proofs.names.NamedInRecord.{each_append}
use Rattle.lease_coherence.proofs.within.Leases.{ack_more, less_asked}

-- ---- one that leaves its queue

-- of another key
other_gone : (key : List ℕ) (file : ℕ) (lease : Lease) (phase : Phase) (given : LeaseOf) (left : List Request)
    (queue : List Reply) → bytes_eq key given.key ≡ false
    → IsExplained key file lease phase (Request.Acknowledge (Some given) ∷ left) queue
    → IsExplained key file lease phase left queue
other_gone key file lease phase given left queue other e = less_explained key file lease phase
    (Request.Acknowledge (Some given) ∷ left) left queue
    ((omega arith) ∙ ap (λ x. one_if x + acks key left) (sym other)) (λ P each. each.1) e

-- of the key: it was the only one
own_acked : (key : List ℕ) (file : ℕ) (lease : Lease) (phase : Phase) (given : LeaseOf) (left : List Request)
    (queue : List Reply) → bytes_eq key given.key ≡ true
    → IsBelieved key file lease phase (Request.Acknowledge (Some given) ∷ left) queue
    → (acks key left ≡ 0) × IsAnswering key file lease phase (Request.Acknowledge (Some given) ∷ left) queue
own_acked key file lease phase given left queue own b = ⊎_elim
    (λ zero. absurd (omega (arith, ap (λ x. one_if x + acks key left) (sym own) ∙ zero)))
    (λ a. (omega (arith, ap (λ x. one_if x + acks key left) (sym own) ∙ a.one), a)) b.answers

-- the lease stays as it was
own_gone : (key : List ℕ) (file : ℕ) (lease : Lease) (phase : Phase) (given : LeaseOf) (left : List Request)
    (queue : List Reply) → bytes_eq key given.key ≡ true
    → IsBelieved key file lease phase (Request.Acknowledge (Some given) ∷ left) queue → IsBelieved key file lease phase left queue
own_gone key file lease phase given left queue own b =
    let acked = own_acked key file lease phase given left queue own b in record {
      own = b.own;
      given = b.given;
      breaks = met_mapped key file (is_breaking lease) (is_breaking lease)
          (acks key (Request.Acknowledge (Some given) ∷ left)) (acks key left) (is_live phase) queue
          (λ rest m. absurd (one_none (acks key (Request.Acknowledge (Some given) ∷ left)) acked.1.one m.none_answered)) b.breaks;
      answers = inl acked.0;
    }
  where
    one_none : (n : ℕ) → n ≡ 1 → n ≡ 0 → ⊥
    one_none n e f = omega (arith, e, f)

ack_gone : (key : List ℕ) (file : ℕ) (lease : Lease) (phase : Phase) (given : Option LeaseOf) (left : List Request)
    (queue : List Reply) → IsExplained key file lease phase (Request.Acknowledge given ∷ left) queue
    → IsExplained key file lease phase left queue
ack_gone key file lease phase None left queue e = less_explained key file lease phase (Request.Acknowledge None ∷ left) left
    queue (omega arith) (λ P each. each.1) e
ack_gone key file lease phase (Some given) left queue e = either (bytes_eq key given.key)
    (λ own. record {
      believed = own_gone key file lease phase given left queue own e.believed;
      within = less_asked key file lease phase (Request.Acknowledge (Some given) ∷ left) left queue (λ each. each.1) e.within;
    })
    (λ other. other_gone key file lease phase given left queue other e)

tail_open : (key : List ℕ) (file file_id : ℕ) (lease : Lease) (phase : Phase) (given : Option LeaseOf)
    (left : List Request) (queue : List Reply) → IsBelieved key file lease phase (Request.Acknowledge given ∷ left) queue
    → OpenTillAck key file_id (Request.Acknowledge given ∷ left) → (acks key left ≡ 0) ⊎ OpenTillAck key file_id left
tail_open key file file_id lease phase None left queue b till = inr till
tail_open key file file_id lease phase (Some given) left queue b till = either (bytes_eq key given.key)
    (λ own. inl (own_acked key file lease phase given left queue own b).0) (λ other. inr (till other))

pub acked_trusted : (world : World) (c file : ℕ) (given : Option LeaseOf) → IsOldest world c (Request.Acknowledge given)
    → IsTrustedFor world c file → IsTrustedFor (popped world c) c file
acked_trusted world c file given oldest t =
    let key = file_key world c file in
    let lease = world.server.leases (machine_key world c file) in
    let phase = ((world.clients c).entries file).phase in
    let left : (popped world c).requests c ≡ oldest.queue =
    put_same world.requests c (rest_of (world.requests c)) ∙ ap rest_of oldest.is_first in
    let e : IsExplained key file lease phase (Request.Acknowledge given ∷ oldest.queue) (world.replies c) =
    subst (λ q. IsExplained key file lease phase q (world.replies c)) oldest.is_first t.explained in record {
      explained = subst (λ q. IsExplained key file lease phase q (world.replies c)) (sym left)
          (ack_gone key file lease phase given oldest.queue (world.replies c) e);
      anchor = ⊎_elim
          (λ zero. inl (ap (acks key) left ∙ tail_zero key given oldest.queue (ap (acks key) (sym oldest.is_first) ∙ zero)))
          (λ a. ⊎_elim (λ zero. inl (ap (acks key) left ∙ zero)) (λ till. inr (record {
            file_id = a.file_id;
            opened = record {
              one = a.opened.one;
              there = a.opened.there;
              id = a.opened.id;
              by = a.opened.by;
              on_file = a.opened.on_file;
              up = a.opened.up;
            };
            till = subst (OpenTillAck key a.file_id) (sym left) till;
            held = a.held;
          })) (tail_open key file a.file_id lease phase given oldest.queue (world.replies c) e.believed
          (subst (OpenTillAck key a.file_id) oldest.is_first a.till))) t.anchor;
    }
  where
    tail_zero : (key : List ℕ) (g : Option LeaseOf) (left : List Request) → acks key (Request.Acknowledge g ∷ left) ≡ 0
        → acks key left ≡ 0
    tail_zero key None left e = right 0 (acks key left) e
      where
        right : (a b : ℕ) → a + b ≡ 0 → b ≡ 0
        right a b e = omega (arith, e)
    tail_zero key (Some g) left e = right (one_if (bytes_eq key g.key)) (acks key left) e
      where
        right : (a b : ℕ) → a + b ≡ 0 → b ≡ 0
        right a b e = omega (arith, e)

-- ---- one that fails

pub failed_trusted : (world : World) (c : ℕ) (given : Option LeaseOf) (status : Status)
    → IsOldest world c (Request.Acknowledge given) → HasTrust world c
    → HasTrust (told_to (popped world c) c (Reply.AckFailed status)) c
failed_trusted world c given status oldest t = told_trusted (popped world c) c (Reply.AckFailed status) tt (record {
  lowered = t.lowered;
  files = λ file fresh. acked_trusted world c file given oldest (t.files file fresh);
})

-- ---- one that ends its break

pub served_state : (given : State) → given.write ≡ true → given.read ≡ true → (granted_form_of given).write ≡ true
served_state given w r = if_cases (λ (s : State). s.write ≡ true) given.read given
    (record { read = false; write = false; handle = false }) (λ reads. w) (λ none. clash given.read r none)

ack_explained : (key : List ℕ) (file : ℕ) (lease : Lease) (phase : Phase) (given : LeaseOf) (left : List Request)
    (queue : List Reply) → bytes_eq key given.key ≡ true
    → IsExplained key file lease phase (Request.Acknowledge (Some given) ∷ left) queue
    → IsExplained key file (record { state = granted_form_of given.state; broken_to = None }) phase left queue
ack_explained key file lease phase given left queue own e =
    let new : Lease = record { state = granted_form_of given.state; broken_to = None } in
    let acked = own_acked key file lease phase given left queue own e.believed in record {
      believed = ack_served key file lease new phase given left queue own (λ w r. served_state given.state w r) e.believed;
      within = ack_more key file lease new phase given left queue own refl e.believed acked.0 acked.1 e.within;
    }

pub done_trusted : (world : World) (c : ℕ) (given : LeaseOf) → IsOldest world c (Request.Acknowledge (Some given))
    → HasTrust world c → HasTrust (leased_in (popped world c) (key_of c given.key)
    (record { state = granted_form_of given.state; broken_to = None }) (done_reply given)) c
unfolding key_eq
done_trusted world c given oldest t = record {
  lowered = subst (Each LowersWell) (sym sent)
      (each_append LowersWell (world.replies c) (done_reply given ∷ []) t.lowered (tt, tt));
  files = λ file fresh. let was = t.files file fresh in
      trusted_by (popped world c) (leased_in (popped world c) (key_of c given.key) lease (done_reply given)) c file refl
      refl refl (λ one own up a. a) (subst (IsExplained (file_key world c file) file
      (put_key world.server.leases (key_of c given.key) lease (machine_key world c file))
      ((world.clients c).entries file).phase ((popped world c).requests c)) (sym sent)
      (plain_explained (file_key world c file) file
      (put_key world.server.leases (key_of c given.key) lease (machine_key world c file))
      ((world.clients c).entries file).phase ((popped world c).requests c) (world.replies c) (done_reply given) tt
      (λ breaks. tt) refl (subst (λ q. IsExplained (file_key world c file) file
      (put_key world.server.leases (key_of c given.key) lease (machine_key world c file))
      ((world.clients c).entries file).phase q (world.replies c)) (sym left)
      (served file (subst (λ q. IsExplained (file_key world c file) file
      (world.server.leases (machine_key world c file)) ((world.clients c).entries file).phase q (world.replies c))
      oldest.is_first was.explained))))) (acked_trusted world c file (Some given) oldest was);
}
  where
    lease : Lease
    lease = record { state = granted_form_of given.state; broken_to = None }

    sent : put world.replies c (world.replies c ++ done_reply given ∷ []) c ≡ world.replies c ++ done_reply given ∷ []
    sent = put_same world.replies c (world.replies c ++ done_reply given ∷ [])

    left : (popped world c).requests c ≡ oldest.queue
    left = put_same world.requests c (rest_of (world.requests c)) ∙ ap rest_of oldest.is_first

    served : (file : ℕ) → IsExplained (file_key world c file) file (world.server.leases (machine_key world c file))
        ((world.clients c).entries file).phase (Request.Acknowledge (Some given) ∷ oldest.queue) (world.replies c)
        → IsExplained (file_key world c file) file (put_key world.server.leases (key_of c given.key)
        (record { state = granted_form_of given.state; broken_to = None }) (machine_key world c file))
        ((world.clients c).entries file).phase oldest.queue (world.replies c)
    served file b = put_key-cases
        (λ (l : Lease). IsExplained (file_key world c file) file l ((world.clients c).entries file).phase oldest.queue
        (world.replies c)) world.server.leases (key_of c given.key)
        (record { state = granted_form_of given.state; broken_to = None }) (machine_key world c file)
        (λ same. ack_explained (file_key world c file) file (world.server.leases (machine_key world c file))
        ((world.clients c).entries file).phase given oldest.queue (world.replies c)
        ((bytes_eq-Decides (file_key world c file) given.key).1 (ap (λ (k : Key). k.bytes) same)) b)
        (λ other. either (bytes_eq (file_key world c file) given.key)
        (λ own. clash (key_eq (machine_key world c file) (key_of c given.key))
        (and_both (c == c) (bytes_eq (file_key world c file) given.key) (eq-eqb c c refl) own) other)
        (λ apart. other_gone (file_key world c file) file (world.server.leases (machine_key world c file))
        ((world.clients c).entries file).phase given oldest.queue (world.replies c) apart b))

-- ---- a request that is held

pub held_trusted : (world : World) (file : ℕ) (one : Held) → IsOldest world one.client (Request.OnFile one.request)
    → HasTrust world one.client → HasTrust (held_in (popped world one.client) file one) one.client
held_trusted world file one oldest t = record {
  lowered = t.lowered;
  files = λ at fresh. let was = t.files at fresh in
      let left = popped_trusted world one.client at one.request oldest was in record {
        explained = left.explained;
        anchor = ⊎_elim
            (λ zero. ⊎_elim (λ none. inl none) (λ a. inl (popped_zero at zero)) left.anchor)
            (λ a. inr (behind at (popped_anchor world one.client at one.request oldest a))) was.anchor;
      };
}
  where
    popped_zero : (at : ℕ) → acks (file_key world one.client at) (world.requests one.client) ≡ 0
        → acks (file_key world one.client at) ((popped world one.client).requests one.client) ≡ 0
    popped_zero at zero = ap (acks (file_key world one.client at))
        (put_same world.requests one.client (rest_of (world.requests one.client)) ∙ ap rest_of oldest.is_first)
        ∙ same (acks (file_key world one.client at) oldest.queue)
        (ap (acks (file_key world one.client at)) (sym oldest.is_first) ∙ zero)
      where
        same : (n : ℕ) → 0 + n ≡ 0 → n ≡ 0
        same n e = omega (arith, e)

    behind : (at : ℕ) → IsAnchoredBut (popped world one.client) one.client at one.request
        → IsAnchored (held_in (popped world one.client) file one) one.client at
    behind at a = record {
      file_id = a.anchored.file_id;
      opened = record {
        one = a.anchored.opened.one;
        there = a.anchored.opened.there;
        id = a.anchored.opened.id;
        by = a.anchored.opened.by;
        on_file = a.anchored.opened.on_file;
        up = a.anchored.opened.up;
      };
      till = a.anchored.till;
      held = λ f x b own. ⊎_elim (λ old. a.anchored.held f x old own)
          (λ new. ⊎_elim (λ old. a.anchored.held file x old own)
          (λ last. ⊎_elim (λ same. subst (λ (h : Held). IsNoClose a.anchored.file_id (Request.OnFile h.request)) (sym same)
          a.stays) (λ none. absurd none) last) (among_append x (world.server.held file) (one ∷ []) new.1))
          (among_put world.server.held file (world.server.held file ++ one ∷ []) f x b);
    }
