-- What a grant gives is held by the lease, and takes nothing from it.
use Rattle.lease_laws.proofs.Words.{◌&&◌, ◌==◌, ◌||◌, ◌∙◌, ◌≡◌, Access, Bool, IsFree, IsSound, Key, Lease, List, Server, Share}
use Rattle.lease_laws.proofs.Words.{Some, State, ℕ, ap, bytes_eq, eqb-true, false, given_state, granted_form_of, has_key, inl}
use Rattle.lease_laws.proofs.Words.{is_breaking, is_other_on, lease_granted, list_any, not, nothing_cached}
use Rattle.lease_laws.proofs.Words.{refl, subst, sym, true, true≢false}
use Rattle.lease_laws.proofs.server.Lists.{and_parts, any_has, clash, either, if_cases, not_parts}
use Rattle.lease_laws.proofs.server.States.{write_of_part}
use Rattle.lease_laws.proofs.server.cases.Grants.{any_grant}
use Rattle.lease_coherence.proofs.beliefs.OneFile.{HoldsOn, IsHeldBy}
use Rattle.lease_coherence.proofs.beliefs.OneLease.{GivesNothing, IsFormed}

nothing_formed : IsFormed nothing_cached
nothing_formed = (λ w. absurd (true≢false (sym w)), λ h. absurd (true≢false (sym h)))

-- a state that is granted caches writes and handles only with reads
pub granted_formed : (state : State) → granted_form_of state ≡ state → IsFormed state
granted_formed state form = if_cases (λ (s : State). s ≡ state → IsFormed state) state.read state nothing_cached
    (λ reads e. (λ w. reads, λ h. reads)) (λ none e. subst IsFormed e nothing_formed) form

form_formed : (want : State) → IsFormed (granted_form_of want)
form_formed want = if_cases IsFormed want.read want nothing_cached (λ reads. (λ w. reads, λ h. reads)) (λ none. nothing_formed)

-- ---- what a reply tells of a lease

pub given_held : (key : List ℕ) (asked : List ℕ) (lease : Lease) → IsFormed lease.state → IsHeldBy key lease.state
    (given_state key (Some (record { key = asked; state = lease.state; in_progress = is_breaking lease })))
given_held key asked lease formed = if_cases (IsHeldBy key lease.state) (bytes_eq asked key && not (is_breaking lease))
    lease.state nothing_cached (λ told. (λ w. (formed.0 w, w), (λ h. (formed.1 h, h), λ r. inl r)))
    (λ none. (λ w. absurd (true≢false (sym w)), (λ h. absurd (true≢false (sym h)), λ r. absurd (true≢false (sym r)))))

pub given_none : (key : List ℕ) (asked : List ℕ) (lease : Lease) → is_breaking lease ≡ true → GivesNothing
    (given_state key (Some (record { key = asked; state = lease.state; in_progress = is_breaking lease })))
given_none key asked lease breaks = if_cases GivesNothing (bytes_eq asked key && not (is_breaking lease))
    lease.state nothing_cached
    (λ told. clash (is_breaking lease) breaks
    (not_parts (is_breaking lease) (and_parts (bytes_eq asked key) (not (is_breaking lease)) told).1))
    (λ none. (refl, refl))

-- ---- the lease after a grant

pub grant_formed : (server : Server) (key : Key) (file : ℕ) (want : State)
    → granted_form_of (server.leases key).state ≡ (server.leases key).state → IsFormed (lease_granted server key file want).state
grant_formed server key file want form = any_grant server key file want (λ l. IsFormed l.state) (record {
  breaks = λ breaks. granted_formed (server.leases key).state form;
  rises = λ settled within. if_cases IsFormed (server.expired key) _ _ (λ out. nothing_formed)
      (λ fresh. if_cases IsFormed (list_any (is_other_on (Some key) file) server.opens) _ _
      (λ other. (λ w. absurd (true≢false (sym w)), (form_formed want).1)) (λ alone. form_formed want));
  stays = λ settled. granted_formed (server.leases key).state form;
})

pub grant_settled : (server : Server) (key : Key) (file : ℕ) (want : State)
    → is_breaking (server.leases key) ≡ false → is_breaking (lease_granted server key file want) ≡ false
grant_settled server key file want settled = any_grant server key file want (λ l. is_breaking l ≡ false)
    (record { breaks = λ breaks. settled; rises = λ other within. refl; stays = λ other. settled })

pub grant_breaking : (server : Server) (key : Key) (file : ℕ) (want : State)
    → is_breaking (server.leases key) ≡ true → lease_granted server key file want ≡ server.leases key
grant_breaking server key file want breaks = if_cases (λ (l : Lease). l ≡ server.leases key)
    (is_breaking (server.leases key)) _ _ (λ so. refl) (λ settled. clash (is_breaking (server.leases key)) breaks settled)

-- a key that holds writes has all opens on the file
alone_on : (server : Server) (key : Key) (file : ℕ) (access : Access) (share : Share) → IsSound server
    → IsFree server.opens server.leases (Some key) file access share → (server.leases key).state.write ≡ true
    → list_any (is_other_on (Some key) file) server.opens ≡ true → ⊥
alone_on server key file access share sound free w some = either (list_any (has_key key) server.opens)
    (λ there. let mine = any_has (has_key key) server.opens there in
    let other = any_has (is_other_on (Some key) file) server.opens some in
    let parts = and_parts ((other.0).file == file) (not (has_key key other.0)) other.2 in
    clash (has_key key other.0) (sound.one_writer key mine.0 other.0 w mine.1 mine.2 other.1
    (eqb-true (other.0).file file parts.0 ∙ sym (free.at_home mine.0 mine.1 mine.2))) (not_parts (has_key key other.0) parts.1))
    (λ none. clash (server.leases key).state.write w (ap (λ (l : Lease). l.state.write) (sound.no_open key none)))

part_of : (p q : Bool) → (not p || q) ≡ true → p ≡ true → q ≡ true
part_of true q e h = e
part_of false q e h = absurd (true≢false (sym h))

-- while its timer didn't run out, a lease holds after a grant what it held
pub grant_keeps : (server : Server) (key : Key) (file : ℕ) (want : State) (access : Access) (share : Share)
    → IsSound server → IsFree server.opens server.leases (Some key) file access share → server.expired key ≡ false
    → HoldsOn (server.leases key).state (lease_granted server key file want).state
grant_keeps server key file want access share sound free fresh =
    let old = (server.leases key).state in
    let new = granted_form_of want in
    let same : HoldsOn old old = record { writes = λ w. w; reads = λ r. r; handles = λ h. h } in
    any_grant server key file want (λ l. HoldsOn old l.state) (record {
      breaks = λ breaks. same;
      stays = λ settled. same;
      rises = λ settled within. let parts = and_parts _ _ within in
          let reads : old.read ≡ true → new.read ≡ true = part_of old.read new.read (and_parts _ _ parts.0).0 in
          let handles : old.handle ≡ true → new.handle ≡ true = part_of old.handle new.handle parts.1 in
          if_cases (HoldsOn old) (server.expired key) _ _ (λ out. clash (server.expired key) out fresh)
          (λ on. if_cases (HoldsOn old) (list_any (is_other_on (Some key) file) server.opens) _ _
          (λ other. record {
            writes = λ w. absurd (alone_on server key file access share sound free w other);
            reads = reads;
            handles = handles;
          })
          (λ alone. record { writes = λ w. write_of_part old new within w; reads = reads; handles = handles }));
    })
