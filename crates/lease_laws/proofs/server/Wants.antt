-- What a look at a request wants: each wanted lease can be so lowered.
use Rattle.lease_laws.proofs.Words.{◌&&◌, ◌∙◌, ◌∷◌, ◌≡◌, ◌⊎◌, Access, Among, Bool, FileRequest, Finding, IsLowered}
use Rattle.std.proofs.Common.{arith}
use Rattle.lease_laws.proofs.Words.{IsSound, Key, List, None, Open, Option, Server, Share, Some, State}
use Rattle.lease_laws.proofs.Words.{Want, ℕ, ⊎_elim, [], all_wants, ap, conflicts_on}
use Rattle.lease_laws.proofs.Words.{false, filter, finding, granted_form_of, handle_wants}
use Rattle.lease_laws.proofs.Words.{has_key, holds_any, if◌then◌else◌, inl, inr, is_empty, is_key}
use Rattle.lease_laws.proofs.Words.{is_other_on, key_added, key_before, key_eq, key_of, key_of_open, keys_of}
use Rattle.lease_laws.proofs.Words.{lease_of_open, map, no_lease, nothing_cached, open_key_added}
use Rattle.lease_laws.proofs.Words.{own_key, refl, subst, sym, true, true≢false, wants_where}
use Rattle.lease_laws.proofs.Words.{without_handle, without_write, write_wants}
use Rattle.lease_laws.proofs.Words.{Extent, others_wants}
use Rattle.lease_laws.proofs.server.Keys.{is_key-refl, lease_by-key}
use Rattle.lease_laws.proofs.server.Lists.{if_cases, clash, and_parts, not_true, among_filter, among_filtered, among_map}
use Rattle.lease_laws.proofs.server.States.{without_write-lowered, without_handle-lowered, nothing-lowered}
use Rattle.lease_laws.proofs.server.cases.Findings.{any_needs}

-- a key among the keys with one more is that one, or was among them
key_added-has : (key new : Key) (keys : List Key) → Among key (key_added new keys) → (key ≡ new) ⊎ Among key keys
unfolding key_added
key_added-has key new [] (inl e) = inl e
key_added-has key new [] (inr never) = absurd never
key_added-has key new (other ∷ keys) h =
    if_cases (λ l. Among key l → (key ≡ new) ⊎ Among key (other ∷ keys)) (key_eq new other) (other ∷ keys)
    (if key_before new other then new ∷ other ∷ keys else other ∷ key_added new keys)
    (λ e a. inr a)
    (λ e. if_cases (λ l. Among key l → (key ≡ new) ⊎ Among key (other ∷ keys)) (key_before new other)
    (new ∷ other ∷ keys) (other ∷ key_added new keys)
    (λ b a. a)
    (λ b a. ⊎_elim (λ same. inr (inl same))
    (λ later. ⊎_elim (λ same. inl same) (λ found. inr (inr found)) (key_added-has key new keys later)) a)) h

-- a key with one more open is that open's, or was there
open_key_added-has : (key : Key) (client : ℕ) (bytes : Option (List ℕ)) (keys : List Key)
    → Among key (open_key_added client bytes keys) → (is_key key client bytes ≡ true) ⊎ Among key keys
open_key_added-has key client None keys a = inr a
open_key_added-has key client (Some bytes) keys a = ⊎_elim
    (λ same. inl (ap (λ k. is_key k client (Some bytes)) same ∙ is_key-refl client bytes))
    (λ found. inr found) (key_added-has key (key_of client bytes) keys a)

-- each of the keys of opens is the key of one of them
pub keys_of-has : (key : Key) (opens : List Open) → Among key (keys_of opens)
    → (one : Open) × (Among one opens) × (has_key key one ≡ true)
unfolding keys_of
keys_of-has key [] a = absurd a
keys_of-has key (one ∷ opens) a = ⊎_elim
    (λ k. (one, inl refl, k))
    (λ later. let x = keys_of-has key opens later in (x.0, inr x.1, x.2))
    (open_key_added-has key one.client one.lease_key (keys_of opens) a)

-- with one more there are some
key_added-some : (new : Key) (keys : List Key) → is_empty (key_added new keys) ≡ false
unfolding key_added
key_added-some new [] = refl
key_added-some new (other ∷ keys) = if_cases (λ l. is_empty l ≡ false) (key_eq new other) (other ∷ keys)
    (if key_before new other then new ∷ other ∷ keys else other ∷ key_added new keys)
    (λ e. refl)
    (λ e. if_cases (λ l. is_empty l ≡ false) (key_before new other) (new ∷ other ∷ keys) (other ∷ key_added new keys)
    (λ b. refl) (λ b. refl))

-- an open with a key adds one
open_key_added-keyed : (key : Key) (client : ℕ) (bytes : Option (List ℕ)) (keys : List Key)
    → is_key key client bytes ≡ true → is_empty (open_key_added client bytes keys) ≡ false
open_key_added-keyed key client None keys k = absurd (true≢false (sym k))
open_key_added-keyed key client (Some bytes) keys k = key_added-some (key_of client bytes) keys

-- another open leaves some
open_key_added-more : (client : ℕ) (bytes : Option (List ℕ)) (keys : List Key)
    → is_empty keys ≡ false → is_empty (open_key_added client bytes keys) ≡ false
open_key_added-more client None keys e = e
open_key_added-more client (Some bytes) keys e = key_added-some (key_of client bytes) keys

-- opens one of which has a key have some keys
pub keys_of-some : (key : Key) (one : Open) (opens : List Open) → Among one opens → has_key key one ≡ true
    → is_empty (keys_of opens) ≡ false
unfolding keys_of
keys_of-some key one [] a k = absurd a
keys_of-some key one (other ∷ opens) (inl same) k = open_key_added-keyed key other.client other.lease_key (keys_of opens)
    (ap (λ o. has_key key o) (sym same) ∙ k)
keys_of-some key one (other ∷ opens) (inr a) k =
    open_key_added-more other.client other.lease_key (keys_of opens) (keys_of-some key one opens a k)

-- a mapped list is empty where the list is
map_empty : {X Y : Type 0} (f : X → Y) (xs : List X) → is_empty (map f xs) ≡ is_empty xs
map_empty f xs = grind arith

-- where nothing is wanted, no open with a key passes the test
pub wants_where-none : (server : Server) (test : Open → Bool) (lowering : State → State)
    → is_empty (wants_where server test lowering) ≡ true
    → (key : Key) (one : Open) → Among one server.opens → has_key key one ≡ true → test one ≡ false
wants_where-none server test lowering none key one a k = not_true (test one) (λ t.
    clash (is_empty (keys_of (filter test server.opens)))
    (sym (map_empty (λ x. record { key = x; lowered = lowering (server.leases x).state })
    (keys_of (filter test server.opens))) ∙ none)
    (keys_of-some key one (filter test server.opens) (among_filtered test one server.opens a t) k))

-- a want fits a server where the key's state can be so lowered, and its timer didn't run out
pub record Fits (server : Server) (want : Want) : Type 0 where
  pub can_lower : IsLowered (server.leases want.key).state want.lowered
  pub is_timely : server.expired want.key ≡ false

-- each want fits
abbrev pub AllFit : Server → List Want → Type 0
AllFit server wants = (want : Want) → Among want wants → Fits server want

-- a want fits where its lease isn't none
fits-at : (server : Server) (lowering : State → State) (key : Key) → IsSound server → ((server.leases key) ≡ no_lease → ⊥)
    → IsLowered (server.leases key).state (lowering (server.leases key).state)
    → Fits server (record { key = key; lowered = lowering (server.leases key).state })
fits-at server lowering key s held low = grind arith

-- wants fit where each open that passes the test has a lease that can be so lowered
pub wants_where-fit : (server : Server) (test : Open → Bool) (lowering : State → State) → IsSound server
    → ((one : Open) → test one ≡ true → granted_form_of (lease_of_open server one).state ≡ (lease_of_open server one).state
    → ((lease_of_open server one) ≡ no_lease → ⊥)
    × IsLowered (lease_of_open server one).state (lowering (lease_of_open server one).state))
    → AllFit server (wants_where server test lowering)
wants_where-fit server test lowering s good want a =
    let x = among_map (λ key. record { key = key; lowered = lowering (server.leases key).state }) want
    (keys_of (filter test server.opens)) a in
    let y = keys_of-has x.0 (filter test server.opens) x.1 in
    let z = among_filter test y.0 server.opens y.1 in
    let same : lease_of_open server y.0 ≡ server.leases x.0 = lease_by-key server x.0 (y.0).client (y.0).lease_key y.2 in
    let both = good y.0 z.1 (ap (λ l. granted_form_of l.state) same ∙ (s.lawful x.0).is_granted_form
    ∙ ap (λ l. l.state) (sym same)) in
    subst (λ w. Fits server w) (sym x.2) (fits-at server lowering x.0 s
    (λ e. both.0 (same ∙ e)) (subst (λ l. IsLowered l.state (lowering l.state)) same both.1))

-- a conflicting create's wants fit
pub handle_wants-fit : (server : Server) (own : Option Key) (file : ℕ) (access : Access) (share : Share)
    → IsSound server → AllFit server (handle_wants server own file access share)
handle_wants-fit server own file access share s = wants_where-fit server
    (λ one. conflicts_on file access share one && is_other_on own file one && (lease_of_open server one).state.handle)
    without_handle s (λ one t form. let holds = (and_parts (conflicts_on file access share one && is_other_on own file one)
    (lease_of_open server one).state.handle t).1 in (
      (λ e. clash (lease_of_open server one).state.handle holds (ap (λ l. l.state.handle) e)),
      without_handle-lowered (lease_of_open server one).state form holds,
    ))

-- a create's wants fit
pub write_wants-fit : (server : Server) (own : Option Key) (file : ℕ) → IsSound server
    → AllFit server (write_wants server own file)
write_wants-fit server own file s = wants_where-fit server
    (λ one. is_other_on own file one && (lease_of_open server one).state.write) without_write s
    (λ one t form. let holds = (and_parts (is_other_on own file one) (lease_of_open server one).state.write t).1 in (
      (λ e. clash (lease_of_open server one).state.write holds (ap (λ l. l.state.write) e)),
      without_write-lowered (lease_of_open server one).state form holds,
    ))

-- a write's wants fit
pub all_wants-fit : (server : Server) (own : Option Key) (file : ℕ) → IsSound server → AllFit server (all_wants server own file)
all_wants-fit server own file s = wants_where-fit server
    (λ one. is_other_on own file one && holds_any (lease_of_open server one).state) (λ state. nothing_cached) s
    (λ one t form. let holds = (and_parts (is_other_on own file one) (holds_any (lease_of_open server one).state) t).1 in (
      (λ e. clash (holds_any (lease_of_open server one).state) holds (ap (λ l. holds_any l.state) e)),
      nothing-lowered (lease_of_open server one).state holds,
    ))

-- what other keys are to give up fits
pub others_wants-fit : (server : Server) (own : Option Key) (file : ℕ) (extent : Extent) → IsSound server
    → AllFit server (others_wants server own file extent)
others_wants-fit server own file Extent.Handles s = wants_where-fit server
    (λ one. is_other_on own file one && (lease_of_open server one).state.handle) without_handle s
    (λ one t form. let holds = (and_parts (is_other_on own file one) (lease_of_open server one).state.handle t).1 in (
      (λ e. clash (lease_of_open server one).state.handle holds (ap (λ l. l.state.handle) e)),
      without_handle-lowered (lease_of_open server one).state form holds,
    ))
others_wants-fit server own file Extent.All s = all_wants-fit server own file s

-- all that a look at a request wants fits
pub needs-fit : (server : Server) (client : ℕ) (request : FileRequest) (wants : List Want) → IsSound server
    → finding server client request ≡ Finding.Needs wants → AllFit server wants
needs-fit server client request wants s = any_needs server client (λ request. AllFit server) (record {
  conflicts = λ file access share ask at clash some.
      handle_wants-fit server (own_key client ask.lease) file access share s;
  enters = λ file access share ask at calm. write_wants-fit server (own_key client ask.lease) file s;
  awaited = λ file access share ask file_id there again some want a. absurd a;
  reads = λ file_id one own may want a. absurd a;
  writes = λ file_id number patch one own may fits. all_wants-fit server (key_of_open one) one.file s;
  closes = λ file_id one own want a. absurd a;
}) request wants
