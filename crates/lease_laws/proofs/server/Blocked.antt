-- Where a round has to wait, another key on the request's file is breaking.
use Rattle.lease_laws.proofs.Words.{◌&&◌, ◌==◌, ◌∙◌, ◌≡◌, Access, Among, Bool, Decides-eqb, FileRequest, Finding}
use Rattle.std.proofs.Common.{arith}
use Rattle.lease_laws.proofs.Words.{HasToWait, IsBlockedBy, IsSound, Key, Lease, List, None, Open, Option}
use Rattle.lease_laws.proofs.Words.{Progress, Server, Share, Some, State, Want, ℕ, all_wants, ap}
use Rattle.lease_laws.proofs.Words.{breaks_to_some, conflicts_on}
use Rattle.lease_laws.proofs.Words.{false, filter, finding, handle_wants, has_key, has_lease, has_own_key, holds_any}
use Rattle.lease_laws.proofs.Words.{is_breaking, is_other_on}
use Rattle.lease_laws.proofs.Words.{key_of_open, keys_of, lease_of_open, list_any, must_wait, not, nothing_cached}
use Rattle.lease_laws.proofs.Words.{own_key, refl, sym, true, true≢false}
use Rattle.lease_laws.proofs.Words.{wants_met, wants_where, without_handle, without_write, write_wants}
use Rattle.lease_laws.proofs.server.Breaking.{some_breaks}
use Rattle.lease_laws.proofs.server.Keys.{is_key-one}
use Rattle.lease_laws.proofs.server.Lists.{clash, and_parts, not_parts, not_true, any_has, among_map}
use Rattle.lease_laws.proofs.server.Lists.{among_filter}
use Rattle.lease_laws.proofs.server.Met.{wants_met-were, wants_met-found}
use Rattle.lease_laws.proofs.server.Wants.{keys_of-has}
use Rattle.lease_laws.proofs.server.cases.Findings.{any_needs}

-- a key of an open on the file that isn't the one
pub record IsOtherKey (server : Server) (own : Option Key) (file : ℕ) (key : Key) : Type 0 where
  pub one : Open
  pub is_there : Among one server.opens
  pub is_on_file : one.file ≡ file
  pub has_the_key : has_key key one ≡ true
  pub is_other : has_own_key own one ≡ false

-- each want is of another key
abbrev pub AreOtherKeys : Server → Option Key → ℕ → List Want → Type 0
AreOtherKeys server own file wants = (want : Want) → Among want wants → IsOtherKey server own file want.key

-- wants by a test that looks for other keys are of other keys
where_other : (server : Server) (own : Option Key) (file : ℕ) (test : Open → Bool) (lowering : State → State)
    → ((one : Open) → test one ≡ true → is_other_on own file one ≡ true)
    → AreOtherKeys server own file (wants_where server test lowering)
where_other server own file test lowering other want a =
    let x = among_map (λ key. record { key = key; lowered = lowering (server.leases key).state }) want
    (keys_of (filter test server.opens)) a in
    let y = keys_of-has x.0 (filter test server.opens) x.1 in
    let z = among_filter test y.0 server.opens y.1 in
    let parts = and_parts ((y.0).file == file) (not (has_own_key own y.0)) (other y.0 z.1) in
    record {
      one = y.0;
      is_there = z.0;
      is_on_file = (Decides-eqb (y.0).file file).0 parts.0;
      has_the_key = ap (λ w. has_key w.key y.0) x.2 ∙ y.2;
      is_other = not_parts (has_own_key own y.0) parts.1;
    }

-- a conflicting create wants other keys
handles_other : (server : Server) (own : Option Key) (file : ℕ) (access : Access) (share : Share)
    → AreOtherKeys server own file (handle_wants server own file access share)
handles_other server own file access share = where_other server own file
    (λ one. conflicts_on file access share one && is_other_on own file one && (lease_of_open server one).state.handle)
    without_handle (λ one t. (and_parts (conflicts_on file access share one) (is_other_on own file one)
    (and_parts (conflicts_on file access share one && is_other_on own file one) (lease_of_open server one).state.handle t).0).1)

-- a create wants other keys
writes_other : (server : Server) (own : Option Key) (file : ℕ) → AreOtherKeys server own file (write_wants server own file)
writes_other server own file = where_other server own file
    (λ one. is_other_on own file one && (lease_of_open server one).state.write) without_write
    (λ one t. (and_parts (is_other_on own file one) (lease_of_open server one).state.write t).0)

-- a write wants other keys
all_other : (server : Server) (own : Option Key) (file : ℕ) → AreOtherKeys server own file (all_wants server own file)
all_other server own file = where_other server own file
    (λ one. is_other_on own file one && holds_any (lease_of_open server one).state) (λ state. nothing_cached)
    (λ one t. (and_parts (is_other_on own file one) (holds_any (lease_of_open server one).state) t).0)

-- a key that is breaking has an open
pub breaking_open : (server : Server) (key : Key) → IsSound server → is_breaking (server.leases key) ≡ true
    → has_lease server key ≡ true
breaking_open server key s b = grind arith

-- an open with the key of another that isn't the one's isn't the one's either
other_alike : (own : Option Key) (key : Key) (one other : Open) → has_key key one ≡ true → has_key key other ≡ true
    → has_own_key own one ≡ false → has_own_key own other ≡ false
other_alike None key one other k j e = refl
other_alike (Some mine) key one other k j e = not_true (has_key mine other) (λ t.
    clash (has_key mine one) (ap (λ x. has_key x one) (is_key-one mine key other.client other.lease_key t j) ∙ k) e)

-- a round that leaves such a lease leaves the file blocked by it
wait_blocked : (test : Lease → Bool) (own : Option Key) (file : ℕ) (wants : List Want) (progress : Progress)
    → ((lease : Lease) → test lease ≡ true → is_breaking lease ≡ true) → IsSound progress.server
    → IsSound (wants_met wants progress).server → AreOtherKeys progress.server own file wants
    → list_any (λ want. test ((wants_met wants progress).server.leases want.key)) wants ≡ true
    → IsBlockedBy test (wants_met wants progress).server own file
wait_blocked test own file wants progress only s next other wait =
    let met = wants_met wants progress in
    let x = any_has (λ want. test (met.server.leases want.key)) wants wait in
    let was = other x.0 x.1 in
    let y = any_has (has_key (x.0).key) met.server.opens
    (breaking_open met.server (x.0).key next (only (met.server.leases (x.0).key) x.2)) in
    record {
      key = (x.0).key;
      is_in_the_way = x.2;
      one = y.0;
      is_there = y.1;
      is_on_file = s.one_file (x.0).key was.one y.0 was.is_there was.has_the_key
          (wants_met-were wants progress y.0 y.1) y.2 ∙ was.is_on_file;
      has_the_key = y.2;
      is_other = other_alike own (x.0).key was.one y.0 was.has_the_key y.2 was.is_other;
    }

-- where a round of a try has to wait, so has the request
pub round_waits : (client : ℕ) (request : FileRequest) (progress : Progress) (wants : List Want)
    → IsSound progress.server → IsSound (wants_met wants progress).server
    → finding progress.server client request ≡ Finding.Needs wants → must_wait request (wants_met wants progress) wants ≡ true
    → HasToWait (wants_met wants progress).server client request
round_waits client request progress wants s next found wait = any_needs progress.server client
    (λ request wants. IsSound (wants_met wants progress).server → must_wait request (wants_met wants progress) wants ≡ true
    → HasToWait (wants_met wants progress).server client request) (record {
      conflicts = λ file access share ask at clash some next wait.
          let own = own_key client ask.lease in
          wait_blocked (λ lease. is_breaking lease) own file (handle_wants progress.server own file access share) progress
          (λ lease b. b) s next (handles_other progress.server own file access share) wait;
      enters = λ file access share ask at calm next wait.
          let own = own_key client ask.lease in
          wait_blocked (λ lease. is_breaking lease) own file (write_wants progress.server own file) progress
          (λ lease b. b) s next (writes_other progress.server own file) wait;
      awaited = λ file access share ask file_id there again some next wait. absurd (true≢false (sym wait));
      reads = λ file_id one own may next wait. absurd (true≢false (sym wait));
      writes = λ file_id number patch one own may fits next wait.
          let wants = all_wants progress.server (key_of_open one) one.file in record {
            one = one;
            is_open = wants_met-found wants progress client file_id ∙ own.found;
            is_blocked = wait_blocked (λ lease. breaks_to_some lease) (key_of_open one) one.file wants progress
                (λ lease. some_breaks lease.broken_to) s next (all_other progress.server (key_of_open one) one.file) wait;
          };
      closes = λ file_id one own next wait. absurd (true≢false (sym wait));
    }) request wants found next wait
