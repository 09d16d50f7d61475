-- What a create is given keeps the trust of its client.
use Rattle.lease_laws.proofs.Words.{◌++◌, ◌∙◌, ◌∷◌, ◌≡◌, Access, CreateAsk, IsFree, IsSound, Key, Lease, LeaseOf, Share, Some}
use Rattle.lease_laws.proofs.Words.{State, World, ℕ, [], ap, connected_again, false, given_state, is_breaking, key_eq, key_of}
use Rattle.lease_laws.proofs.Words.{lease_after, lease_granted, lease_key, machine_key, new_open, own_key, refl, subst, sym}
use Rattle.lease_laws.proofs.Words.{true}
use Rattle.lease_laws.proofs.client.Thin.{put_same}
use Rattle.lease_laws.proofs.server.Keys.{key_eq-refl, put_key-cases}
use Rattle.lease_laws.proofs.server.Lists.{among_before, clash, either}
use Rattle.lease_coherence.proofs.beliefs.Grants.{given_held, given_none, grant_breaking, grant_formed, grant_keeps}
use Rattle.lease_coherence.proofs.beliefs.Grants.{grant_settled, granted_formed}
use Rattle.lease_coherence.proofs.beliefs.OneFile.{HoldsOn, IsExplained, IsHeldBy, plain_explained, settled_explained}
use Rattle.lease_coherence.proofs.beliefs.Sent.{LeaseBears, sent_trusted}
use Rattle.lease_coherence.proofs.beliefs.Trust.{HasTrust, file_key}
use Rattle.lease_coherence.proofs.moves.Deeds.{granted_in, granted_reply, reconnected_in, reconnected_reply}
use Rattle.lease_coherence.proofs.moves.Foreign.{map_kept}
use Rattle.lease_coherence.proofs.standing.Servers.{again_up}

-- the key that a create of the file names
pub own_named : (off : World) (c file at : ℕ) (asked : LeaseOf) → asked.key ≡ lease_key (off.clients c).guid file
    → file ≡ at → machine_key off c at ≡ key_of c asked.key
own_named off c file at asked named same = ap (λ f. key_of c (lease_key (off.clients c).guid f)) (sym same)
    ∙ ap (λ bytes. key_of c bytes) (sym named)

named_here : (off : World) (c file at : ℕ) (asked : LeaseOf) → asked.key ≡ lease_key (off.clients c).guid file
    → file ≡ at → key_eq (machine_key off c at) (key_of c asked.key) ≡ true
named_here off c file at asked named same = ap (λ k. key_eq (machine_key off c at) k)
    (sym (own_named off c file at asked named same)) ∙ key_eq-refl (machine_key off c at)

-- ---- a new open

-- what is believed of the lease as the grant leaves it
lease_bears : (off : World) (c file : ℕ) (access : Access) (share : Share) (asked : LeaseOf) → IsSound off.server
    → IsFree off.server.opens off.server.leases (Some (key_of c asked.key)) file access share → (at : ℕ)
    → off.server.expired (machine_key off c at) ≡ false → machine_key off c at ≡ key_of c asked.key
    → IsExplained (file_key off c at) at (off.server.leases (machine_key off c at))
    ((off.clients c).entries at).phase (off.requests c) (off.replies c)
    → IsExplained (file_key off c at) at (lease_granted off.server (key_of c asked.key) file asked.state)
    ((off.clients c).entries at).phase (off.requests c) (off.replies c)
lease_bears off c file access share asked sound free at fresh same b =
    let key = key_of c asked.key in
    let lease = lease_granted off.server key file asked.state in
    let own = file_key off c at in
    let phase = ((off.clients c).entries at).phase in
    either (is_breaking (off.server.leases key))
    (λ breaks. subst (λ (l : Lease). IsExplained own at l phase (off.requests c) (off.replies c))
    (ap (λ k. off.server.leases k) same ∙ sym (grant_breaking off.server key file asked.state breaks)) b)
    (λ settled. settled_explained own at (off.server.leases (machine_key off c at)) lease phase (off.requests c)
    (off.replies c) (ap (λ k. is_breaking (off.server.leases k)) same ∙ settled)
    (subst (λ k. HoldsOn (off.server.leases k).state lease.state) (sym same)
    (grant_keeps off.server key file asked.state access share sound free (ap off.server.expired (sym same) ∙ fresh)))
    (grant_settled off.server key file asked.state settled) b)

grant_bears : (off : World) (c file : ℕ) (access : Access) (share : Share) (ask : CreateAsk) (asked : LeaseOf)
    → asked.key ≡ lease_key (off.clients c).guid file → IsSound off.server
    → IsFree off.server.opens off.server.leases (Some (key_of c asked.key)) file access share → (at : ℕ)
    → off.server.expired (machine_key off c at) ≡ false
    → LeaseBears off (granted_in off c file access share (record ask { lease = Some asked })
    (lease_granted off.server (key_of c asked.key) file asked.state)) c
    (granted_reply off.server file (record ask { lease = Some asked })
    (lease_granted off.server (key_of c asked.key) file asked.state)) at
grant_bears off c file access share ask asked named sound free at fresh b =
    let key = key_of c asked.key in
    let lease = lease_granted off.server key file asked.state in
    let own = file_key off c at in
    let phase = ((off.clients c).entries at).phase in
    let reply = granted_reply off.server file (record ask { lease = Some asked }) lease in
    put_key-cases (λ (l : Lease). IsExplained own at l phase (off.requests c) (off.replies c ++ reply ∷ []))
    off.server.leases key lease (machine_key off c at)
    (λ same. plain_explained own at lease phase (off.requests c) (off.replies c) reply
    (λ here. given_held own asked.key lease (grant_formed off.server key file asked.state (sound.lawful key).is_granted_form))
    (λ breaks here. given_none own asked.key lease breaks) refl
    (lease_bears off c file access share asked sound free at fresh same b))
    (λ other. plain_explained own at (off.server.leases (machine_key off c at)) phase (off.requests c) (off.replies c) reply
    (λ here. clash (key_eq (machine_key off c at) key) (named_here off c file at asked named here) other)
    (λ breaks here. clash (key_eq (machine_key off c at) key) (named_here off c file at asked named here) other) refl b)

pub granted_trusted : (off : World) (c file : ℕ) (access : Access) (share : Share) (ask : CreateAsk) (asked : LeaseOf)
    → ask.lease ≡ Some asked → asked.key ≡ lease_key (off.clients c).guid file → IsSound off.server
    → IsFree off.server.opens off.server.leases (own_key c ask.lease) file access share → HasTrust off c
    → HasTrust (granted_in off c file access share ask (lease_after off.server c file ask.lease)) c
granted_trusted off c file access share ask asked e named sound free t = subst
    (λ o. IsFree off.server.opens off.server.leases (own_key c o) file access share
    → HasTrust (granted_in off c file access share (record ask { lease = o }) (lease_after off.server c file o)) c) (sym e)
    (λ f. let lease = lease_granted off.server (key_of c asked.key) file asked.state in
    let told : CreateAsk = record ask { lease = Some asked } in
    let reply = granted_reply off.server file told lease in
    let one = new_open off.server c file access share (Some asked) ask.durable lease in
    sent_trusted off (granted_in off c file access share told lease) c reply (record {
      machine = refl;
      requests = refl;
      held = refl;
      kept = λ x own up a. among_before x off.server.opens (one ∷ []) a;
      expired = refl;
      replies = put_same off.replies c (off.replies c ++ reply ∷ []);
    }) tt (grant_bears off c file access share ask asked named sound f) t) free

-- ---- a durable open

pub reconnected_trusted : (off : World) (c file : ℕ) (ask : CreateAsk) (file_id : ℕ) (asked : LeaseOf)
    → ask.lease ≡ Some asked → asked.key ≡ lease_key (off.clients c).guid file → IsSound off.server
    → HasTrust off c → HasTrust (reconnected_in off c file ask file_id) c
reconnected_trusted off c file ask file_id asked e named sound t = subst
    (λ o. HasTrust (reconnected_in off c file (record ask { lease = o }) file_id) c) (sym e)
    (let told : CreateAsk = record ask { lease = Some asked } in
    let reply = reconnected_reply off.server c file told file_id in
    sent_trusted off (reconnected_in off c file told file_id) c reply (record {
      machine = refl;
      requests = refl;
      held = refl;
      kept = λ x own up a. map_kept (connected_again file_id) x off.server.opens (again_up file_id x up) a;
      expired = refl;
      replies = put_same off.replies c (off.replies c ++ reply ∷ []);
    }) tt (λ at fresh b. plain_explained (file_key off c at) at (off.server.leases (machine_key off c at))
    ((off.clients c).entries at).phase (off.requests c) (off.replies c) reply
    (λ here. subst (λ k. IsHeldBy (file_key off c at) (off.server.leases k).state (told_state at))
    (sym (own_named off c file at asked named here))
    (given_held (file_key off c at) asked.key lease (granted_formed lease.state (sound.lawful key).is_granted_form)))
    (λ breaks here. given_none (file_key off c at) asked.key lease
    (ap (λ k. is_breaking (off.server.leases k)) (sym (own_named off c file at asked named here)) ∙ breaks)) refl b) t)
  where
    key : Key
    key = key_of c asked.key

    lease : Lease
    lease = off.server.leases (key_of c asked.key)

    told_state : ℕ → State
    told_state at = given_state (file_key off c at) (Some (record {
      key = asked.key;
      state = (off.server.leases (key_of c asked.key)).state;
      in_progress = is_breaking (off.server.leases (key_of c asked.key));
    }))
