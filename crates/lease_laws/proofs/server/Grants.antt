-- A grant keeps a server's laws.
use Rattle.lease_laws.proofs.Words.{◌&&◌, ◌++◌, ◌+◌, ◌==◌, ◌∙◌, ◌∷◌, ◌≡◌, ◌⊎◌, Access, Among, AreSound, Bool, Decides-eqb, IsFree}
use Rattle.std.proofs.Common.{arith}
use Rattle.lease_laws.proofs.Words.{IsSound, Key, Lease, LeaseOf, List, None, Open, Option, Progress, Server, Share, Some, State}
use Rattle.lease_laws.proofs.Words.{ℕ, ⊎_elim, [], allowed, ap, conflict, false, granted_form_of, granted_with, has_key}
use Rattle.lease_laws.proofs.Words.{has_own_key, inl, inr, is_breaking, is_key, is_other_on, is_state_within, key_of, lease_after}
use Rattle.lease_laws.proofs.Words.{lease_granted, list_any, new_open, no_lease, not, nothing_cached, offered, own_key, refl, sym}
use Rattle.lease_laws.proofs.Words.{true, true≢false, without_write}
use Rattle.lease_laws.proofs.server.Keys.{is_key-refl, is_key-one}
use Rattle.lease_laws.proofs.server.Leases.{MayBecome, MayOpen, put_sound, open_sound}
use Rattle.lease_laws.proofs.server.Lists.{if_cases, either, clash, and_both, not_true, not_false, none_has, has_any}
use Rattle.lease_laws.proofs.server.Lists.{among_append, among_behind}
use Rattle.lease_laws.proofs.server.States.{settled-lawful, handle_of_part}
use Rattle.lease_laws.proofs.server.cases.Grants.{any_grant}

-- what is allowed is a granted form
allowed-form : (server : Server) (own : Option Key) (file : ℕ) (want : State)
    → granted_form_of (allowed server own file want) ≡ allowed server own file want
allowed-form server own file want = grind arith

-- what is offered is a granted form
offered-form : (server : Server) (key : Key) (file : ℕ) (want : State)
    → granted_form_of (offered server key file want) ≡ offered server key file want
offered-form server key file want = if_cases (λ s. granted_form_of s ≡ s) (server.expired key) nothing_cached
    (allowed server (Some key) file want) (λ e. refl) (λ e. allowed-form server (Some key) file want)

-- what is allowed holds H where the want does
allowed-handle : (server : Server) (own : Option Key) (file : ℕ) (want : State)
    → (granted_form_of want).handle ≡ true → (allowed server own file want).handle ≡ true
allowed-handle server own file want h = grind arith

-- what is offered holds H where the want does
offered-handle : (server : Server) (key : Key) (file : ℕ) (want : State) → server.expired key ≡ false
    → (granted_form_of want).handle ≡ true → (offered server key file want).handle ≡ true
offered-handle server key file want e h = if_cases (λ s. s.handle ≡ true) (server.expired key) nothing_cached
    (allowed server (Some key) file want) (λ t. clash (server.expired key) t e)
    (λ t. allowed-handle server (Some key) file want h)

-- W is allowed only where no open on the file has another key
allowed-alone : (server : Server) (own : Option Key) (file : ℕ) (want : State) → (allowed server own file want).write ≡ true
    → (one : Open) → Among one server.opens → one.file ≡ file → has_own_key own one ≡ true
allowed-alone server own file want w one a f =
    let go : (allowed server own file want).write ≡ true → has_own_key own one ≡ true =
    if_cases (λ s. s.write ≡ true → has_own_key own one ≡ true) (list_any (is_other_on own file) server.opens)
    (without_write (granted_form_of want)) (granted_form_of want)
    (λ e t. absurd (true≢false (sym t)))
    (λ e t. not_false (has_own_key own one) (λ d. clash (one.file == file && not (has_own_key own one))
    (and_both (one.file == file) (not (has_own_key own one)) ((Decides-eqb one.file file).1 f) (ap not d))
    (none_has (is_other_on own file) one server.opens e a))) in
    go w

-- W is offered only where no open on the file has another key
offered-alone : (server : Server) (key : Key) (file : ℕ) (want : State) → (offered server key file want).write ≡ true
    → (one : Open) → Among one server.opens → one.file ≡ file → has_key key one ≡ true
offered-alone server key file want w one a f =
    let go : (offered server key file want).write ≡ true → has_key key one ≡ true =
    if_cases (λ s. s.write ≡ true → has_key key one ≡ true) (server.expired key) nothing_cached
    (allowed server (Some key) file want)
    (λ e t. absurd (true≢false (sym t)))
    (λ e t. allowed-alone server (Some key) file want t one a f) in
    go w

-- a lease that stays may stay
keep_may : (opens : List Open) (leases : Key → Lease) (expired : Key → Bool) (last_id : ℕ) (key : Key)
    → AreSound opens leases expired last_id → MayBecome opens key (leases key)
keep_may opens leases expired last_id key s = record {
  is_lawful = s.lawful key;
  is_alone = λ one other w a k b f. s.one_writer key one other w a k b f;
  lasts = λ one a k d. let l = s.disconnected one a d in
      let same : l.key ≡ key = is_key-one l.key key one.client one.lease_key l.has_the_key k in (
        ap (λ x. (leases x).state.handle) (sym same) ∙ l.holds_handle,
        ap (λ x. is_breaking (leases x)) (sym same) ∙ l.is_settled,
      );
}

-- the new open conflicts with what the create conflicts with
quiet_new : (server : Server) (client file : ℕ) (access : Access) (share : Share) (asked : Option LeaseOf)
    (durable : Bool) (lease : Lease) (other : Open) → conflict access share other.access other.share ≡ false
    → conflict (new_open server client file access share asked durable lease).access
    (new_open server client file access share asked durable lease).share other.access other.share ≡ false
quiet_new server client file access share asked durable lease other e = e

-- the new open of a create with a key may be opened
keyed_may_open : (server : Server) (client file : ℕ) (access : Access) (share : Share) (asked : LeaseOf)
    (durable : Bool) (lease : Lease) → IsFree server.opens server.leases (Some (key_of client asked.key)) file access share
    → MayOpen server.opens server.leases (new_open server client file access share (Some asked) durable lease)
keyed_may_open server client file access share asked durable lease free = record {
  is_connected = refl;
  is_peaceful = λ other a f. quiet_new server client file access share (Some asked) durable lease other (free.peaceful other a f);
  is_at_home = λ key other a kn ko. free.at_home other a
      (ap (λ x. has_key x other) (is_key-one (key_of client asked.key) key client (Some asked.key)
      (is_key-refl client asked.key) kn) ∙ ko);
  is_welcome = λ key other w a k f. not_false (is_key key client (Some asked.key)) (λ differs.
      either (has_key (key_of client asked.key) other)
      (λ own. clash (is_key key client (Some asked.key)) (ap (λ x. is_key x client (Some asked.key))
      (is_key-one key (key_of client asked.key) other.client other.lease_key k own) ∙ is_key-refl client asked.key) differs)
      (λ strange. clash (server.leases key).state.write w (free.unwritten key other a f strange k)));
}

-- the new open of a create without a key may be opened
plain_may_open : (server : Server) (client file : ℕ) (access : Access) (share : Share) (durable : Bool) (lease : Lease)
    → IsFree server.opens server.leases None file access share
    → MayOpen server.opens server.leases (new_open server client file access share None durable lease)
plain_may_open server client file access share durable lease free = grind arith

-- what is offered may become the lease, once the new open is there
offer_may : (server : Server) (client file : ℕ) (asked : LeaseOf) (new : Open)
    → IsSound server → new.file ≡ file → new.connected ≡ true → has_key (key_of client asked.key) new ≡ true
    → ((one : Open) → Among one server.opens → has_key (key_of client asked.key) one ≡ true → one.file ≡ file)
    → is_state_within (server.leases (key_of client asked.key)).state (granted_form_of asked.state) ≡ true
    → MayBecome (server.opens ++ new ∷ []) (key_of client asked.key)
    (record { state = offered server (key_of client asked.key) file asked.state; broken_to = None })
offer_may server client file asked new s new_file new_up new_key home part =
    let key : Key = key_of client asked.key in
    let split : (one : Open) → Among one (server.opens ++ new ∷ []) → Among one server.opens ⊎ (one ≡ new) =
    λ one a. ⊎_elim (λ h. inl h) (λ h. inr (⊎_elim (λ e. e) (λ never. absurd never) h))
    (among_append one server.opens (new ∷ []) a) in
    record {
      is_lawful = settled-lawful (offered server key file asked.state) (offered-form server key file asked.state);
      is_alone = λ one other w a k b f. ⊎_elim
          (λ q. offered-alone server key file asked.state w other q
          (f ∙ ⊎_elim (λ p. home one p k) (λ p. ap (λ o. o.file) p ∙ new_file) (split one a)))
          (λ q. ap (λ o. has_key key o) q ∙ new_key) (split other b);
      lasts = λ one a k d. ⊎_elim
          (λ p. let old = (keep_may server.opens server.leases server.expired server.last_id key s).lasts one p k d in (
            offered-handle server key file asked.state
                (not_true (server.expired key) (λ out. clash (server.leases key).state.handle old.0
                (ap (λ l. l.state.handle) (s.timed_out key out))))
                (handle_of_part (server.leases key).state (granted_form_of asked.state) part old.0),
            refl,
          ))
          (λ p. clash new.connected new_up (ap (λ o. o.connected) (sym p) ∙ d)) (split one a);
    }

-- the lease after a grant may become the key's
granted_may : (server : Server) (client file : ℕ) (asked : LeaseOf) (new : Open)
    → IsSound server → AreSound (server.opens ++ new ∷ []) server.leases server.expired (server.last_id + 1)
    → new.file ≡ file → new.connected ≡ true → has_key (key_of client asked.key) new ≡ true
    → ((one : Open) → Among one server.opens → has_key (key_of client asked.key) one ≡ true → one.file ≡ file)
    → MayBecome (server.opens ++ new ∷ []) (key_of client asked.key)
    (lease_granted server (key_of client asked.key) file asked.state)
granted_may server client file asked new s more new_file new_up new_key home =
    let key : Key = key_of client asked.key in
    let keep = keep_may (server.opens ++ new ∷ []) server.leases server.expired (server.last_id + 1) key more in
    any_grant server key file asked.state (MayBecome (server.opens ++ new ∷ []) key) (record {
      breaks = λ e. keep;
      rises = λ e part. offer_may server client file asked new s new_file new_up new_key home part;
      stays = λ e. keep;
    })

-- a lease of a state, not breaking
abbrev pub settled : State → Lease
settled state = record { state = state; broken_to = None }

-- a key whose timer ran out is given nothing
granted_late : (server : Server) (key : Key) (file : ℕ) (want : State) → IsSound server → server.expired key ≡ true
    → lease_granted server key file want ≡ no_lease
granted_late server key file want s out = grind arith

-- a grant keeps the laws
pub granted_with-sound : (client file : ℕ) (access : Access) (share : Share) (asked : Option LeaseOf)
    (durable : Bool) (progress : Progress)
    → IsSound progress.server → IsFree progress.server.opens progress.server.leases (own_key client asked) file access share
    → IsSound (granted_with client file access share asked durable
    (lease_after progress.server client file asked) progress).server
granted_with-sound client file access share None durable progress s free =
    let new : Open = new_open progress.server client file access share None durable no_lease in
    open_sound progress.server.opens progress.server.leases progress.server.expired progress.server.last_id new s refl
    (plain_may_open progress.server client file access share durable no_lease free)
granted_with-sound client file access share (Some asked) durable progress s free =
    let key : Key = key_of client asked.key in
    let lease : Lease = lease_granted progress.server key file asked.state in
    let new : Open = new_open progress.server client file access share (Some asked) durable lease in
    let more = open_sound progress.server.opens progress.server.leases progress.server.expired progress.server.last_id new s refl
    (keyed_may_open progress.server client file access share asked durable lease free) in
    let owned : has_key key new ≡ true = is_key-refl client asked.key in
    put_sound (progress.server.opens ++ new ∷ []) progress.server.leases progress.server.expired
    (progress.server.last_id + 1) key lease more (has_any (has_key key) new (progress.server.opens ++ new ∷ [])
    (among_behind new progress.server.opens (new ∷ []) (inl refl)) owned) (granted_late progress.server key file asked.state s)
    (granted_may progress.server client file asked new s more refl refl owned free.at_home)
