-- What is wanted and doesn't keep a request waiting is gone after one round.
use Rattle.lease_laws.proofs.Words.{◌&&◌, ◌∙◌, ◌∷◌, ◌≡◌, ◌⊎◌, Among, Bool, Key, Lease, List, None, Open, Option, Progress, Server}
use Rattle.lease_laws.proofs.Words.{Some, State, Want, ℕ, ⊎_elim, [], ap, arith, break_begun, breaks_to_none, breaks_to_some}
use Rattle.lease_laws.proofs.Words.{false, filter, find, has_key, has_lease, if◌then◌else◌, inl, inr, is_breaking, is_key}
use Rattle.lease_laws.proofs.Words.{is_left_open, key_added, key_before, key_eq, key_of, keys_of, lease_broken, lease_by}
use Rattle.lease_laws.proofs.Words.{lease_lowered, lease_of_open, list_all, list_any, map, no_lease, not}
use Rattle.lease_laws.proofs.Words.{nothing_cached, open_key_added, opens_dropped, refl, subst, sym, true, want_met, wants_met}
use Rattle.lease_laws.proofs.Words.{wants_where}
use Rattle.lease_laws.proofs.server.Breaking.{to_nothing}
use Rattle.lease_laws.proofs.server.Keys.{key_eq-same, is_key-refl, is_key-one, put_key-cases, put_key-here}
use Rattle.lease_laws.proofs.server.Lists.{if_cases, clash, and_parts, and_both, not_true, not_false, among_filter}
use Rattle.lease_laws.proofs.server.Lists.{among_filtered, among_map, any_has, has_any, none_has, each_all}
use Rattle.lease_laws.proofs.server.Wants.{keys_of-has}
use Rattle.lease_laws.proofs.server.cases.Tries.{any_break, any_wants}

-- ---- words on lists

-- what is on a list is on the list of its values
among_mapped : {X Y : Type 0} (f : X → Y) (x : X) (xs : List X) → Among x xs → Among (f x) (map f xs)
among_mapped f x [] a = absurd a
among_mapped f x (y ∷ xs) (inl same) = inl (ap f same)
among_mapped f x (y ∷ xs) (inr a) = inr (among_mapped f x xs a)

-- where no element passes, the filter leaves nothing
filter_none : {X : Type 0} (test : X → Bool) (xs : List X) → ((x : X) → Among x xs → test x ≡ false) → filter test xs ≡ []
filter_none test [] none = refl
filter_none test (y ∷ xs) none = if_cases (λ l. l ≡ []) (test y) (y ∷ filter test xs) (filter test xs)
    (λ e. clash (test y) e (none y (inl refl)))
    (λ e. filter_none test xs (λ x a. none x (inr a)))

-- to leave out elements that don't pass changes nothing of what is found
find_kept : {X : Type 0} (test keep : X → Bool) → ((x : X) → keep x ≡ false → test x ≡ false) → (xs : List X)
    → find test (filter keep xs) ≡ find test xs
find_kept test keep left [] = refl
find_kept test keep left (y ∷ xs) =
    if_cases (λ l. find test l ≡ find test (y ∷ xs)) (keep y) (y ∷ filter keep xs) (filter keep xs)
    (λ e. ap (λ o. if test y then Some y else o) (find_kept test keep left xs))
    (λ e. find_kept test keep left xs ∙ rw (left y e) refl)

-- ---- the keys of opens

-- an added key is among the keys
key_added-self : (new : Key) (keys : List Key) → Among new (key_added new keys)
unfolding key_added
key_added-self new [] = inl refl
key_added-self new (other ∷ keys) = if_cases (λ l. Among new l) (key_eq new other) (other ∷ keys)
    (if key_before new other then new ∷ other ∷ keys else other ∷ key_added new keys)
    (λ e. inl (key_eq-same new other e))
    (λ e. if_cases (λ l. Among new l) (key_before new other) (new ∷ other ∷ keys) (other ∷ key_added new keys)
    (λ b. inl refl) (λ b. inr (key_added-self new keys)))

-- and those that were there stay
key_added-keeps : (key new : Key) (keys : List Key) → Among key keys → Among key (key_added new keys)
unfolding key_added
key_added-keeps key new [] a = absurd a
key_added-keeps key new (other ∷ keys) a = if_cases (λ l. Among key l) (key_eq new other) (other ∷ keys)
    (if key_before new other then new ∷ other ∷ keys else other ∷ key_added new keys)
    (λ e. a)
    (λ e. if_cases (λ l. Among key l) (key_before new other) (new ∷ other ∷ keys) (other ∷ key_added new keys)
    (λ b. inr a) (λ b. ⊎_elim (λ same. inl same) (λ later. inr (key_added-keeps key new keys later)) a))

-- they also stay where an open has no key
open_key_added-keeps : (key : Key) (client : ℕ) (bytes : Option (List ℕ)) (keys : List Key) → Among key keys
    → Among key (open_key_added client bytes keys)
open_key_added-keeps key client None keys a = a
open_key_added-keeps key client (Some bytes) keys a = key_added-keeps key (key_of client bytes) keys a

-- the key of an open with a key is added
open_key_added-self : (client : ℕ) (bytes : List ℕ) (key : Option (List ℕ)) (keys : List Key) → key ≡ Some bytes
    → Among (key_of client bytes) (open_key_added client key keys)
open_key_added-self client bytes key keys e = rw e (key_added-self (key_of client bytes) keys)

-- the key of an open is among the keys of the opens
keys_of-own : (one : Open) (bytes : List ℕ) (opens : List Open) → Among one opens → one.lease_key ≡ Some bytes
    → Among (key_of one.client bytes) (keys_of opens)
unfolding keys_of
keys_of-own one bytes [] a e = absurd a
keys_of-own one bytes (other ∷ opens) (inl same) e =
    subst (λ (o : Open). Among (key_of one.client bytes) (open_key_added o.client o.lease_key (keys_of opens))) same
    (open_key_added-self one.client bytes one.lease_key (keys_of opens) e)
keys_of-own one bytes (other ∷ opens) (inr a) e =
    open_key_added-keeps (key_of one.client bytes) other.client other.lease_key (keys_of opens) (keys_of-own one bytes opens a e)

-- ---- what breaks never undo

-- After breaks a server has no new open, every connected one is left, a lease that is left goes on
-- breaking, and no state comes to hold what it didn't (in the sense of the test `holds`).
pub record IsAfterBreaks (holds : State → Bool) (before : Server) (after : Server) : Type 0 where
  pub no_new_open : (one : Open) → Among one after.opens → Among one before.opens
  pub connected_left : (test : Open → Bool)
      → find (λ one. test one && one.connected) after.opens ≡ find (λ one. test one && one.connected) before.opens
  pub same_files : after.files ≡ before.files
  pub still_breaking : (key : Key) → is_breaking (before.leases key) ≡ true → has_lease after key ≡ true
      → is_breaking (after.leases key) ≡ true
  pub no_new_right : (key : Key) → holds (before.leases key).state ≡ false → holds (after.leases key).state ≡ false

-- where nothing is broken
itself : (holds : State → Bool) (server : Server) → IsAfterBreaks holds server server
itself holds server = grind arith

-- a lease that is there was there before
lease_before : (before after : Server) (key : Key) → ((one : Open) → Among one after.opens → Among one before.opens)
    → has_lease after key ≡ true → has_lease before key ≡ true
lease_before before after key was h =
    let found = any_has (has_key key) after.opens h in
    has_any (has_key key) found.0 before.opens (was found.0 found.1) found.2

-- breaks, and then more of them
and_then : (holds : State → Bool) (first middle last : Server) → IsAfterBreaks holds first middle
    → IsAfterBreaks holds middle last → IsAfterBreaks holds first last
and_then holds first middle last f l = record {
  no_new_open = λ one a. f.no_new_open one (l.no_new_open one a);
  connected_left = λ test. l.connected_left test ∙ f.connected_left test;
  same_files = l.same_files ∙ f.same_files;
  still_breaking = λ key b h. l.still_breaking key (f.still_breaking key b (lease_before middle last key l.no_new_open h)) h;
  no_new_right = λ key h. l.no_new_right key (f.no_new_right key h);
}

-- the disconnected opens of a key are closed
dropped_after : (holds : State → Bool) (key : Key) (progress : Progress) → holds nothing_cached ≡ false
    → IsAfterBreaks holds progress.server (opens_dropped (is_left_open key) progress).server
dropped_after holds key progress nothing =
    let kept : List Open = filter (λ one. not (is_left_open key one)) progress.server.opens in
    record {
      no_new_open = λ one a. (among_filter (λ one. not (is_left_open key one)) one progress.server.opens a).0;
      connected_left = λ test. find_kept (λ one. test one && one.connected) (λ one. not (is_left_open key one))
          (λ one e. left_out (test one) one.connected (has_key key one) e) progress.server.opens;
      same_files = refl;
      still_breaking = λ other b h. if_cases (λ (l : Lease). is_breaking l ≡ true) (list_any (has_key other) kept)
          (progress.server.leases other) no_lease
          (λ e. b) (λ e. clash (list_any (has_key other) kept) h e);
      no_new_right = λ other h. if_cases (λ (l : Lease). holds l.state ≡ false) (list_any (has_key other) kept)
          (progress.server.leases other) no_lease
          (λ e. h) (λ e. nothing);
    }
  where
    left_out : (t c k : Bool) → not (k && not c) ≡ false → (t && c) ≡ false
    left_out t c k e = grind arith

-- a break is begun
break_begun_after : (holds : State → Bool) (key : Key) (lowered : State) (progress : Progress)
    → IsAfterBreaks holds progress.server (break_begun key lowered progress).server
break_begun_after holds key lowered progress =
    let new : Lease = record { state = (progress.server.leases key).state; broken_to = Some lowered } in
    record {
      no_new_open = λ one a. a;
      connected_left = λ test. refl;
      same_files = refl;
      still_breaking = λ other b h. put_key-cases (λ (l : Lease). is_breaking l ≡ true) progress.server.leases key new other
          (λ same. refl) (λ apart. b);
      no_new_right = λ other h. put_key-cases (λ (l : Lease). holds l.state ≡ false) progress.server.leases key new other
          (λ same. ap (λ k. holds (progress.server.leases k).state) (sym same) ∙ h) (λ apart. h);
    }

-- a lease is lowered at once, which is done only where it is not breaking
lease_lowered_after : (holds : State → Bool) (key : Key) (lowered : State) (progress : Progress)
    → holds lowered ≡ false → is_breaking (progress.server.leases key) ≡ false
    → IsAfterBreaks holds progress.server (lease_lowered key lowered progress).server
lease_lowered_after holds key lowered progress low settled =
    let new : Lease = record { state = lowered; broken_to = None } in
    record {
      no_new_open = λ one a. a;
      connected_left = λ test. refl;
      same_files = refl;
      still_breaking = λ other b h. put_key-cases (λ (l : Lease). is_breaking l ≡ true) progress.server.leases key new other
          (λ same. clash (is_breaking (progress.server.leases key)) (ap (λ k. is_breaking (progress.server.leases k)) (sym same)
          ∙ b) settled)
          (λ apart. b);
      no_new_right = λ other h. put_key-cases (λ (l : Lease). holds l.state ≡ false) progress.server.leases key new other
          (λ same. low) (λ apart. h);
    }

-- ---- what a want leaves behind

-- a lease that is wanted is gone, breaking, or without what it was to give up
abbrev pub IsMet : (State → Bool) → Key → Server → Type 0
IsMet holds key server = has_lease server key ≡ true
    → (is_breaking (server.leases key) ≡ true) ⊎ (holds (server.leases key).state ≡ false)

-- one key was dealt with
record IsBroken (holds : State → Bool) (key : Key) (before : Server) (after : Server) : Type 0 where
  goes_on : IsAfterBreaks holds before after
  met : IsMet holds key after

-- what is met stays met
met_later : (holds : State → Bool) (key : Key) (before after : Server) → IsAfterBreaks holds before after
    → IsMet holds key before → IsMet holds key after
met_later holds key before after later met h = ⊎_elim
    (λ b. inl (later.still_breaking key b h))
    (λ r. inr (later.no_new_right key r)) (met (lease_before before after key later.no_new_open h))

-- a break that is begun leaves the lease breaking
break_begun_met : (holds : State → Bool) (key : Key) (lowered : State) (progress : Progress)
    → IsBroken holds key progress.server (break_begun key lowered progress).server
break_begun_met holds key lowered progress = record {
  goes_on = break_begun_after holds key lowered progress;
  met = λ h. inl (ap (λ (l : Lease). is_breaking l) (put_key-here progress.server.leases key
      (record { state = (progress.server.leases key).state; broken_to = Some lowered })));
}

-- a lease that is lowered at once gives up what it should
lease_lowered_met : (holds : State → Bool) (key : Key) (lowered : State) (progress : Progress) → holds lowered ≡ false
    → is_breaking (progress.server.leases key) ≡ false
    → IsBroken holds key progress.server (lease_lowered key lowered progress).server
lease_lowered_met holds key lowered progress low settled = record {
  goes_on = lease_lowered_after holds key lowered progress low settled;
  met = λ h. inr (ap (λ (l : Lease). holds l.state) (put_key-here progress.server.leases key
      (record { state = lowered; broken_to = None })) ∙ low);
}

-- so with whichever of these a lease is broken
lease_broken_met : (holds : State → Bool) (key : Key) (lowered : State) (progress : Progress) → holds lowered ≡ false
    → IsBroken holds key progress.server (lease_broken key lowered progress).server
lease_broken_met holds key lowered progress low =
    any_break key lowered progress (λ after. IsBroken holds key progress.server after.server) (record {
      stays = λ not. record {
        goes_on = itself holds progress.server;
        met = λ h. inl (goes_on (has_lease progress.server key) (is_breaking (progress.server.leases key)) not h);
      };
      begins = λ whole needs. break_begun_met holds key lowered progress;
      lowers = λ whole light. lease_lowered_met holds key lowered progress low whole.settled;
    })
  where
    goes_on : (t b : Bool) → (t && not b) ≡ false → t ≡ true → b ≡ true
    goes_on t b e h = grind arith

-- one want
want_met_met : (holds : State → Bool) (want : Want) (progress : Progress) → holds nothing_cached ≡ false
    → holds want.lowered ≡ false → IsBroken holds want.key progress.server (want_met want progress).server
want_met_met holds want progress nothing low =
    let dropped : Progress = opens_dropped (is_left_open want.key) progress in
    let broken : IsBroken holds want.key dropped.server (lease_broken want.key want.lowered dropped).server =
    lease_broken_met holds want.key want.lowered dropped low in
    record {
      goes_on = and_then holds progress.server dropped.server (lease_broken want.key want.lowered dropped).server
          (dropped_after holds want.key progress nothing) broken.goes_on;
      met = broken.met;
    }

-- after a round each wanted lease is met
pub record IsRound (holds : State → Bool) (wants : List Want) (before : Server) (after : Server) : Type 0 where
  pub goes_on : IsAfterBreaks holds before after
  pub met : (want : Want) → Among want wants → IsMet holds want.key after

-- all the wants of a round
pub wants_met_met : (holds : State → Bool) (wants : List Want) (progress : Progress) → holds nothing_cached ≡ false
    → ((want : Want) → Among want wants → holds want.lowered ≡ false)
    → IsRound holds wants progress.server (wants_met wants progress).server
wants_met_met holds wants progress nothing = any_wants
    (λ wants progress after. ((want : Want) → Among want wants → holds want.lowered ≡ false)
    → IsRound holds wants progress.server after.server)
    (λ progress low. record { goes_on = itself holds progress.server; met = λ want a. absurd a })
    (λ first wants progress after more low.
    let next = want_met first progress in
    let here = want_met_met holds first progress nothing (low first (inl refl)) in
    let rest = more (λ want a. low want (inr a)) in
    record {
      goes_on = and_then holds progress.server next.server after.server here.goes_on rest.goes_on;
      met = λ want a. ⊎_elim
          (λ same. subst (λ (w : Want). IsMet holds w.key after.server) (sym same)
          (met_later holds first.key next.server after.server rest.goes_on here.met))
          (λ later. rest.met want later) a;
    }) wants progress

-- ---- one round

-- an open whose lease is to give something up
abbrev pub is_wanted : (State → Bool) → (Open → Bool) → Server → Open → Bool
is_wanted holds base server one = base one && holds (lease_of_open server one).state

-- what is wanted of such opens: that each lease be so lowered
abbrev pub wanted : (State → Bool) → (Open → Bool) → (State → State) → Server → List Want
wanted holds base lowering server = wants_where server (is_wanted holds base server) lowering

-- what is wanted comes from some key, so it is lowered
pub wanted_low : (holds : State → Bool) (base : Open → Bool) (lowering : State → State) (server : Server)
    → ((state : State) → holds (lowering state) ≡ false)
    → (want : Want) → Among want (wanted holds base lowering server) → holds want.lowered ≡ false
wanted_low holds base lowering server low want a =
    let found = among_map (λ key. record { key = key; lowered = lowering (server.leases key).state }) want
    (keys_of (filter (is_wanted holds base server) server.opens)) a in
    ap (λ (w : Want). holds w.lowered) found.2 ∙ low (server.leases found.0).state

-- an open with a key whose lease is to give something up: its key is wanted
wanted_has : (holds : State → Bool) (base : Open → Bool) (lowering : State → State) (server : Server) (one : Open)
    (bytes : List ℕ) → Among one server.opens → one.lease_key ≡ Some bytes → base one ≡ true
    → holds (server.leases (key_of one.client bytes)).state ≡ true → Among (record {
      key = key_of one.client bytes;
      lowered = lowering (server.leases (key_of one.client bytes)).state;
    }) (wanted holds base lowering server)
wanted_has holds base lowering server one bytes a e b h =
    among_mapped (λ key. record { key = key; lowered = lowering (server.leases key).state }) (key_of one.client bytes)
    (keys_of (filter (is_wanted holds base server) server.opens))
    (keys_of-own one bytes (filter (is_wanted holds base server) server.opens)
    (among_filtered (is_wanted holds base server) one server.opens a (and_both (base one)
    (holds (lease_of_open server one).state) b
    (ap (λ (key : Option (List ℕ)). holds (lease_by server one.client key).state) e ∙ h))) e)

-- an open that is still wanted after a round: its lease was wanted, and is breaking
pub record IsStillWanted (holds : State → Bool) (base : Open → Bool) (lowering : State → State) (before : Server)
    (after : Server) (key : Key) : Type 0 where
  pub was_wanted : Among (record { key = key; lowered = lowering (before.leases key).state }) (wanted holds base lowering before)
  pub is_breaking : is_breaking (after.leases key) ≡ true

-- its key is the open's
still_wanted : (holds : State → Bool) (base : Open → Bool) (lowering : State → State)
    (before after : Server) (one : Open) (bytes : List ℕ) → one.lease_key ≡ Some bytes
    → IsRound holds (wanted holds base lowering before) before after
    → Among one after.opens → is_wanted holds base after one ≡ true
    → IsStillWanted holds base lowering before after (key_of one.client bytes)
still_wanted holds base lowering before after one bytes e round a t =
    let key : Key = key_of one.client bytes in
    let lease : lease_of_open after one ≡ after.leases key = ap (λ (k : Option (List ℕ)). lease_by after one.client k) e in
    let want : Want = record { key = key; lowered = lowering (before.leases key).state } in
    let parts : (base one ≡ true) × (holds (lease_of_open after one).state ≡ true) = and_parts (base one)
    (holds (lease_of_open after one).state) t in
    let now : holds (after.leases key).state ≡ true = ap (λ (l : Lease). holds l.state) (sym lease) ∙ parts.1 in
    let was : holds (before.leases key).state ≡ true =
    not_false (holds (before.leases key).state) (λ n. clash (holds (after.leases key).state) now
    (round.goes_on.no_new_right key n)) in
    let wanted_too : Among want (wanted holds base lowering before) =
    wanted_has holds base lowering before one bytes (round.goes_on.no_new_open one a) e parts.0 was in
    record {
      was_wanted = wanted_too;
      is_breaking = ⊎_elim (λ b. b) (λ r. clash (holds (after.leases key).state) now r)
          (round.met want wanted_too (has_any (has_key key) one after.opens a
          (ap (λ (k : Option (List ℕ)). is_key key one.client k) e ∙ is_key-refl one.client bytes)));
    }

-- none of the wants' leases passes the test
abbrev pub NoneIs : (Lease → Bool) → Server → List Want → Type 0
NoneIs test server wants = list_any (λ want. test (server.leases want.key)) wants ≡ false

-- an open that is left after a round that leaves nothing breaking: its lease has nothing to give up
left_met : (holds : State → Bool) (base : Open → Bool) (lowering : State → State)
    (before after : Server) (one : Open) (key : Option (List ℕ)) → one.lease_key ≡ key → holds nothing_cached ≡ false
    → IsRound holds (wanted holds base lowering before) before after
    → NoneIs (λ lease. is_breaking lease) after (wanted holds base lowering before)
    → Among one after.opens → is_wanted holds base after one ≡ false
left_met holds base lowering before after one None e nothing round ready a =
    not_true (is_wanted holds base after one) (λ t. clash (holds (lease_of_open after one).state)
    (and_parts (base one) (holds (lease_of_open after one).state) t).1
    (ap (λ (key : Option (List ℕ)). holds (lease_by after one.client key).state) e ∙ nothing))
left_met holds base lowering before after one (Some bytes) e nothing round ready a =
    not_true (is_wanted holds base after one) (λ t.
    let still = still_wanted holds base lowering before after one bytes e round a t in
    clash (list_any (λ want. is_breaking (after.leases want.key)) (wanted holds base lowering before))
    (has_any (λ want. is_breaking (after.leases want.key)) _ (wanted holds base lowering before) still.was_wanted
    still.is_breaking) ready)

-- where no open's lease has anything to give up, nothing is wanted
pub nothing_wanted : (holds : State → Bool) (base : Open → Bool) (lowering : State → State) (server : Server)
    → ((one : Open) → Among one server.opens → is_wanted holds base server one ≡ false) → wanted holds base lowering server ≡ []
unfolding keys_of
nothing_wanted holds base lowering server none =
    ap (λ (opens : List Open). map (λ key. record { key = key; lowered = lowering (server.leases key).state }) (keys_of opens))
    (filter_none (is_wanted holds base server) server.opens none)

-- what a round that doesn't wait leaves behind
pub record IsRoundDone (holds : State → Bool) (base : Open → Bool) (before : Server) (after : Server) : Type 0 where
  pub goes_on : IsAfterBreaks holds before after
  pub none_left : (one : Open) → Among one after.opens → is_wanted holds base after one ≡ false

-- after a round that leaves none of its leases breaking, nothing of the kind is wanted
pub round_done : (holds : State → Bool) (base : Open → Bool) (lowering : State → State) (progress : Progress)
    → holds nothing_cached ≡ false → ((state : State) → holds (lowering state) ≡ false)
    → NoneIs (λ lease. is_breaking lease) (wants_met (wanted holds base lowering progress.server) progress).server
    (wanted holds base lowering progress.server)
    → IsRoundDone holds base progress.server (wants_met (wanted holds base lowering progress.server) progress).server
round_done holds base lowering progress nothing low ready =
    let wants : List Want = wanted holds base lowering progress.server in
    let round : IsRound holds wants progress.server (wants_met wants progress).server =
    wants_met_met holds wants progress nothing (wanted_low holds base lowering progress.server low) in
    record {
      goes_on = round.goes_on;
      none_left = λ one a. left_met holds base lowering progress.server (wants_met wants progress).server
          one one.lease_key refl nothing round ready a;
    }

-- each lease that is wanted is breaking to nothing
abbrev pub AllBreakToNone : Server → List Want → Type 0
AllBreakToNone server wants = list_all (λ want. breaks_to_none (server.leases want.key)) wants ≡ true

-- what a round leaves behind where it leaves no lease breaking to something
pub record IsRoundBroken (holds : State → Bool) (base : Open → Bool) (lowering : State → State) (before : Server)
    (after : Server) : Type 0 where
  pub goes_on : IsAfterBreaks holds before after
  pub to_none : AllBreakToNone after (wanted holds base lowering after)

-- a key that is still wanted is that of an open which is
pub still_open : (holds : State → Bool) (base : Open → Bool) (lowering : State → State) (before after : Server) (key : Key)
    (one : Open) (bytes : Option (List ℕ)) → one.lease_key ≡ bytes → has_key key one ≡ true
    → IsRound holds (wanted holds base lowering before) before after
    → Among one after.opens → is_wanted holds base after one ≡ true → IsStillWanted holds base lowering before after key
still_open holds base lowering before after key one None e k round a t =
    clash (has_key key one) k (ap (λ (b : Option (List ℕ)). is_key key one.client b) e)
still_open holds base lowering before after key one (Some bytes) e k round a t =
    subst (λ x. IsStillWanted holds base lowering before after x)
    (is_key-one (key_of one.client bytes) key one.client (Some bytes) (is_key-refl one.client bytes)
    (ap (λ (b : Option (List ℕ)). is_key key one.client b) (sym e) ∙ k))
    (still_wanted holds base lowering before after one bytes e round a t)

-- after a round that leaves none of its leases breaking to something, what is still wanted is breaking to
-- nothing
pub round_broken : (holds : State → Bool) (base : Open → Bool) (lowering : State → State) (progress : Progress)
    → holds nothing_cached ≡ false → ((state : State) → holds (lowering state) ≡ false)
    → NoneIs (λ lease. breaks_to_some lease) (wants_met (wanted holds base lowering progress.server) progress).server
    (wanted holds base lowering progress.server) → IsRoundBroken holds base lowering progress.server
    (wants_met (wanted holds base lowering progress.server) progress).server
round_broken holds base lowering progress nothing low ready =
    let wants : List Want = wanted holds base lowering progress.server in
    let after : Server = (wants_met wants progress).server in
    let round : IsRound holds wants progress.server after =
    wants_met_met holds wants progress nothing (wanted_low holds base lowering progress.server low) in
    record {
      goes_on = round.goes_on;
      to_none = each_all (λ want. breaks_to_none (after.leases want.key)) (wanted holds base lowering after)
          (λ want a.
          let x = among_map (λ key. record { key = key; lowered = lowering (after.leases key).state }) want
          (keys_of (filter (is_wanted holds base after) after.opens)) a in
          let y = keys_of-has x.0 (filter (is_wanted holds base after) after.opens) x.1 in
          let z = among_filter (is_wanted holds base after) y.0 after.opens y.1 in
          let still = still_open holds base lowering progress.server after x.0 y.0 (y.0).lease_key refl y.2 round z.0 z.1 in
          ap (λ (w : Want). breaks_to_none (after.leases w.key)) x.2 ∙ to_nothing (after.leases x.0).broken_to still.is_breaking
          (none_has (λ want. breaks_to_some (after.leases want.key)) _ wants ready still.was_wanted));
    }
