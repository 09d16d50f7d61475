-- Which keys are wanted, by records and summaries and by the list of opens.
use Rattle.lease_laws.proofs.Words.{◌&&◌, ◌<◌, ◌==◌, ◌∙◌, ◌∷◌, ◌≡◌, ◌≤◌, Access, Among, AreInKeyOrder, Bool, Decides-eqb}
use Rattle.lease_laws.proofs.Words.{Key, Lease, Less, List, None, Open, Option, Server, Share, Some, State, ℕ, ⊎_elim, ⊤, [], ap}
use Rattle.lease_laws.proofs.Words.{arith, conflict, conflicts_on, false, filter, has_key, has_own_key, holds_any, if◌then◌else◌}
use Rattle.lease_laws.proofs.Words.{inl, inr, is_at, is_eq, is_key, is_other_on, is_some, key_before, key_eq, key_of, keys_of}
use Rattle.lease_laws.proofs.Words.{lease_of_open, length, list_any, map, nat_lt, nat_tests, not, refl, subst, suc, sym, true}
use Rattle.lease_laws.proofs.Words.{lease_by, no_lease, true≢false}
use Rattle.lease_manager.specs.declared.values.number.FileNo.{FileNo}
use Rattle.std.specs.BTreeSet.{BTreeSet, contains}
use Rattle.std.specs.List.{AllByRecursion}
use Rattle.std.specs.List.Sorted.{IsStrictlySortedBy}
use Rattle.std.specs.Ordering.{is_lt}
use Rattle.lease_laws.proofs.server.Keys.{key_eq-same, key_eq-refl, lease_by-key, is_key-one, is_key-refl}
use Rattle.lease_laws.proofs.server.KeyOrder.{keys_of-all, among_mapped}
use Rattle.lease_laws.proofs.server.Lists.{either, clash, and_parts, and_both, not_parts, not_true, any_has, has_any, none_has}
use Rattle.lease_laws.proofs.server.Lists.{among_filter}
use Rattle.lease_laws.proofs.server.Lists.{among_filtered}
use Rattle.lease_laws.proofs.server.Wanted.{wants_where-exact, key_before-then, key_before-self}
use Rattle.lease_laws.proofs.server.Wants.{keys_of-has}
use Rattle.lease_manager.specs.KeyOrder.{key_order}
use Rattle.lease_manager.specs.Leases as leases
use Rattle.lease_manager.specs.Looks.{is_elsewhere}
use Rattle.lease_manager.specs.Summaries.{StandFor, SumsUp, RecordFits, record_at, lease_in, lease_or_none, is_on, has_key_on}
use Rattle.lease_manager.specs.Summaries.{is_keyless_on}
use Rattle.lease_manager.specs.Tallies.{tally_conflicts}
use Rattle.lease_manager.specs.Wanted.{is_own_key, own_count, keys_for, needs_known, is_wanted_key}
use Rattle.lease_manager.specs.Wishes.{is_wanted, is_demanded}
use Rattle.lease_manager.specs.declared.tables.summaries.LeaseRecord.{LeaseRecord}
use Rattle.lease_manager.specs.declared.tables.summaries.Summaries.{Summaries}
use Rattle.lease_manager.specs.declared.values.want.Demand.{Demand}
use Rattle.lease_manager.specs.declared.values.want.Wish.{Wish}
use Rattle.lease_manager.specs.declared.values.want.Wish.TheVariants.{AnyHandles, NoHandles, NoWrites, Nothing}
use Rattle.lease_manager.proofs.sums.Tallies.{conflicts_are}
use Rattle.lease_manager.specs.declared.tables.file_summary.FileSummary.{FileSummary}
use Rattle.lease_manager.proofs.sums.Ordering.{order_eq, order_eq-back, order_before}

-- ---- lists of keys in order

-- each key stands before all behind it
abbrev pub AreOrdered : List Key → Type 0
AreOrdered [] = ⊤
AreOrdered (key ∷ keys) = ((other : Key) → Among other keys → key_before key other ≡ true) × AreOrdered keys

before_all : (key : Key) (keys : List Key) → AllByRecursion (λ y. key_order key y ≡ Less) keys
    → (other : Key) → Among other keys → key_order key other ≡ Less
before_all key [] all other among = absurd among
before_all key (x ∷ keys) all other (inl same) = ap (key_order key) same ∙ all.0
before_all key (x ∷ keys) all other (inr among) = before_all key keys all.1 other among

pub sorted_ordered : (keys : List Key) → IsStrictlySortedBy key_order keys → AreOrdered keys
unfolding IsStrictlySortedBy
sorted_ordered [] sorted = tt
sorted_ordered (key ∷ keys) sorted =
    (λ other a. sym (order_before key other) ∙ ap is_lt (before_all key keys sorted.0 other a), sorted_ordered keys sorted.1)

pub filter_ordered : (test : Key → Bool) (keys : List Key) → AreOrdered keys → AreOrdered (filter test keys)
filter_ordered test [] ordered = tt
filter_ordered test (key ∷ keys) ordered = either (test key)
    (λ t. rw t (λ other a. ordered.0 other (among_filter test other keys a).0, filter_ordered test keys ordered.1))
    (λ t. rw t (filter_ordered test keys ordered.1))

wants_ordered : (lowering : Key → State) (keys : List Key)
    → AreInKeyOrder (map (λ (key : Key). record { key = key; lowered = lowering key }) keys) → AreOrdered keys
wants_ordered lowering [] ordered = tt
wants_ordered lowering (key ∷ keys) ordered = (
  λ other a. ordered.0 (record { key = other; lowered = lowering other })
      (among_mapped (λ (key : Key). record { key = key; lowered = lowering key }) other keys a),
  wants_ordered lowering keys ordered.1,
)

pub keys_ordered : (server : Server) (test : Open → Bool) → AreOrdered (keys_of (filter test server.opens))
keys_ordered server test = wants_ordered (λ key. (server.leases key).state) (keys_of (filter test server.opens))
    (wants_where-exact server test (λ state. state)).in_order

apart_keys : (key other : Key) → key_before key other ≡ true → key ≡ other → ⊥
apart_keys key other before same = true≢false (sym before ∙ (ap (key_before key) (sym same) ∙ key_before-self key))

-- two lists in order with the same keys are one
pub one_list : (xs ys : List Key) → AreOrdered xs → AreOrdered ys → ((key : Key) → Among key xs → Among key ys)
    → ((key : Key) → Among key ys → Among key xs) → xs ≡ ys
one_list [] [] a b to from = refl
one_list [] (y ∷ ys) a b to from = absurd (from y (inl refl))
one_list (x ∷ xs) [] a b to from = absurd (to x (inl refl))
one_list (x ∷ xs) (y ∷ ys) a b to from =
    let head : x ≡ y = ⊎_elim (λ same. same)
    (λ later. ⊎_elim (λ same. sym same)
    (λ behind. absurd (apart_keys x x (key_before-then x y x (a.0 y behind) (b.0 x later)) refl)) (from y (inl refl)))
    (to x (inl refl)) in
    let tail = one_list xs ys a.1 b.1
    (λ key k. ⊎_elim (λ same. absurd (apart_keys x key (a.0 key k) (head ∙ sym same))) (λ later. later) (to key (inr k)))
    (λ key k. ⊎_elim (λ same. absurd (apart_keys y key (b.0 key k) (sym head ∙ sym same))) (λ later. later) (from key (inr k))) in
    rw (head, tail) refl

-- ---- members of sets

pub member : (keys : BTreeSet Key) (key : Key) → Among key keys.keys → contains key_order keys key ≡ true
member keys key among = has_any (is_at (key_order key)) key keys.keys among (order_eq key key ∙ key_eq-refl key)

pub among_members : (keys : BTreeSet Key) (key : Key) → contains key_order keys key ≡ true → Among key keys.keys
among_members keys key has =
    let found = any_has (is_at (key_order key)) keys.keys has in
    let same = key_eq-same key found.0 (sym (order_eq key found.0) ∙ found.2) in
    subst (λ k. Among k keys.keys) (sym same) found.1

-- ---- whether another key is there

pub both_so : (a b : Bool) → (a ≡ true → b ≡ true) → (b ≡ true → a ≡ true) → a ≡ b
both_so a b to from = grind arith

none_own : (own : Key) (keys : List Key) → ((other : Key) → Among other keys → key_eq other own ≡ false)
    → list_any (λ key. not (key_eq key own)) keys ≡ nat_lt 0 (length keys)
none_own own [] apart = grind (arith, nat_tests)
none_own own (key ∷ keys) apart = rw (apart key (inl refl)) (grind (arith, nat_tests))

abbrev pub own_at : Key → List Key → ℕ
own_at own keys = if list_any (is_at (key_order own)) keys then 1 else 0

one_below : (n : ℕ) → nat_lt 0 n ≡ nat_lt 1 (suc n)
one_below n = grind (arith, nat_tests)

pub others_counted : (own : Key) (keys : List Key) → IsStrictlySortedBy key_order keys
    → list_any (λ key. not (key_eq key own)) keys ≡ nat_lt (own_at own keys) (length keys)
unfolding IsStrictlySortedBy
others_counted own [] sorted = grind (arith, nat_tests)
others_counted own (key ∷ keys) sorted = either (key_eq key own)
    (λ t.
    let same = key_eq-same key own t in
    let apart : (other : Key) → Among other keys → key_eq other own ≡ false = λ other a. sym (order_eq-back own other)
    ∙ ap is_eq (ap (λ k. key_order k other) (sym same) ∙ before_all key keys sorted.0 other a) in
    rw (t, order_eq-back own key, t) (none_own own keys apart ∙ one_below (length keys)))
    (λ t. rw (t, order_eq-back own key, t) (sym (below own key keys)))
  where
    below : (own key : Key) (keys : List Key)
        → nat_lt (if list_any (is_at (key_order own)) keys then 1 else 0) (length (key ∷ keys)) ≡ true
    below own key [] = grind (arith, nat_tests)
    below own key (other ∷ keys) = grind arith

-- ---- keys of opens

own_alike : (own : Option Key) (key : Key) (one : Open) → has_key key one ≡ true → has_own_key own one ≡ is_own_key own key
own_alike None key one has = refl
own_alike (Some other) key one has = both_so (has_key other one) (key_eq key other)
    (λ h. ap (key_eq key) (is_key-one other key one.client one.lease_key h has) ∙ key_eq-refl key)
    (λ e. subst (λ k. has_key k one ≡ true) (key_eq-same key other e) has)

pub key_there : (client : ℕ) (bytes : Option (List ℕ)) → is_some bytes ≡ true → (key : Key) × (is_key key client bytes ≡ true)
key_there client None some = absurd (true≢false (sym some))
key_there client (Some bytes) some = (key_of client bytes, is_key-refl client bytes)

on_both : (a b : Bool) → (a && not b) ≡ false → a ≡ true → b ≡ true
on_both a b e on = grind arith

has_none_by : (client : ℕ) (bytes : Option (List ℕ)) (key : Key) → is_some bytes ≡ false → is_key key client bytes ≡ false
has_none_by client bytes key none = grind arith

keyless_own : (own : Option Key) (one : Open) → is_some one.lease_key ≡ false → has_own_key own one ≡ false
keyless_own own one none = grind arith

pub other_keyless : (own : Option Key) (file : ℕ) (opens : List Open) → list_any (is_keyless_on file) opens ≡ true
    → list_any (is_other_on own file) opens ≡ true
other_keyless own file opens some =
    let one = any_has (is_keyless_on file) opens some in
    let parts = and_parts (is_on file one.0) (not (is_some (one.0).lease_key)) one.2 in
    let apart = keyless_own own one.0 (not_parts _ parts.1) in
    has_any (λ o. o.file == file && not (has_own_key own o)) one.0 opens one.1
    (and_both (is_on file one.0) (not (has_own_key own one.0)) parts.0 (ap not apart))

pub others_are : (own : Option Key) (file : ℕ) (opens : List Open) (keys : BTreeSet Key)
    → ((key : Key) → contains key_order keys key ≡ list_any (has_key_on file key) opens)
    → list_any (is_keyless_on file) opens ≡ false
    → list_any (λ key. not (is_own_key own key)) keys.keys ≡ list_any (is_other_on own file) opens
others_are own file opens keys are keyless = both_so _ _
    (λ some.
    let key = any_has (λ k. not (is_own_key own k)) keys.keys some in
    let one = any_has (has_key_on file key.0) opens (sym (are key.0) ∙ member keys key.0 key.1) in
    let parts = and_parts (is_on file one.0) (has_key key.0 one.0) one.2 in
    has_any (λ o. o.file == file && not (has_own_key own o)) one.0 opens one.1
    (and_both (is_on file one.0) (not (has_own_key own one.0)) parts.0 (ap not (own_alike own key.0 one.0 parts.1) ∙ key.2)))
    (λ some.
    let one = any_has (λ o. o.file == file && not (has_own_key own o)) opens some in
    let parts = and_parts (is_on file one.0) (not (has_own_key own one.0)) one.2 in
    let unkeyed = none_has (is_keyless_on file) one.0 opens keyless one.1 in
    let keyed = on_both (is_on file one.0) (is_some (one.0).lease_key) unkeyed parts.0 in
    let key = key_there (one.0).client (one.0).lease_key keyed in
    let there = are key.0 ∙ has_any (has_key_on file key.0) one.0 opens one.1
    (and_both (is_on file one.0) (has_key key.0 one.0) parts.0 key.1) in
    has_any (λ k. not (is_own_key own k)) key.0 keys.keys (among_members keys key.0 there)
    (ap not (sym (own_alike own key.0 one.0 key.1)) ∙ parts.1))

pub all_counted : (keys : List Key) → list_any (λ key. true) keys ≡ nat_lt 0 (length keys)
all_counted [] = grind (arith, nat_tests)
all_counted (key ∷ keys) = grind (arith, nat_tests)

pub others_by : (own : Option Key) (summary : FileSummary) → IsStrictlySortedBy key_order summary.keys.keys
    → list_any (λ key. not (is_own_key own key)) summary.keys.keys ≡ nat_lt (own_count own summary) (length summary.keys.keys)
others_by None summary sorted = all_counted summary.keys.keys
others_by (Some key) summary sorted = others_counted key summary.keys.keys sorted

pub some_is : (n : ℕ) → 0 < n → nat_lt 0 n ≡ true
some_is n some = grind (arith, nat_tests, some)

pub none_is : (n : ℕ) → n ≤ 0 → nat_lt 0 n ≡ false
none_is n none = grind (arith, nat_tests, none)

-- ---- the wanted keys

-- an open by which a key is wanted
record Wants (wish : Wish) (server : Server) (own : Option Key) (file : ℕ) (key : Key) : Type 0 where
  pub one : Open
  pub is_there : Among one server.opens
  pub is_wanted : is_wanted wish server own file one ≡ true
  pub has_it : has_key key one ≡ true

lease_known : (summaries : Summaries) (server : Server) (key : Key) (one : Open) (known : LeaseRecord)
    → StandFor summaries server → record_at summaries key ≡ Some known → has_key key one ≡ true
    → lease_of_open server one ≡ leases.lease_of known.lease
lease_known summaries server key one known stand is has =
    lease_by-key server key one.client one.lease_key has ∙ (stand.leases key ∙ ap lease_or_none is)

-- an open on the file that has the key, whose lease passes
pub other_on : (own : Option Key) (file : ℕ) (key : Key) (one : Open) → is_on file one ≡ true → has_key key one ≡ true
    → not (is_own_key own key) ≡ true → is_other_on own file one ≡ true
other_on own file key one on has apart =
    and_both (one.file == file) (not (has_own_key own one)) on (ap not (own_alike own key one has) ∙ apart)

pub on_other : (own : Option Key) (file : ℕ) (key : Key) (one : Open) → is_other_on own file one ≡ true → has_key key one ≡ true
    → (has_key_on file key one ≡ true) × (not (is_own_key own key) ≡ true)
on_other own file key one other has =
    let parts = and_parts (one.file == file) (not (has_own_key own one)) other in
    (and_both (one.file == file) (has_key key one) parts.0 has, ap not (sym (own_alike own key one has)) ∙ parts.1)

conflicting : (file : ℕ) (access : Access) (share : Share) (one : Open) → is_on file one ≡ true
    → conflict access share one.access one.share ≡ true → conflicts_on file access share one ≡ true
conflicting file access share one on both = and_both (one.file == file) (conflict access share one.access one.share) on both

conflicted : (file : ℕ) (access : Access) (share : Share) (one : Open) → conflicts_on file access share one ≡ true
    → conflict access share one.access one.share ≡ true
conflicted file access share one c = (and_parts (one.file == file) (conflict access share one.access one.share) c).1

-- an open of the key is on the key's file
at_file : (key : Key) (at : ℕ) (opens : List Open) (one : Open) → list_any (is_elsewhere key at) opens ≡ false
    → Among one opens → has_key key one ≡ true → one.file ≡ at
at_file key at opens one home among has = (Decides-eqb one.file at).0 (on_both (has_key key one) (one.file == at)
    (none_has (is_elsewhere key at) one opens home among) has)

wants_to : (wish : Wish) (own : Option Key) (file : FileNo) (key : Key) (summaries : Summaries) (server : Server)
    (summary : FileSummary) (known : Option LeaseRecord)
    → StandFor summaries server → SumsUp file.0 server.opens (lease_in summaries) summary
    → record_at summaries key ≡ known → RecordFits key server.opens known
    → contains key_order (keys_for wish summary) key ≡ true → not (is_own_key own key) ≡ true
    → needs_known wish known ≡ true → Wants wish server own file.0 key
wants_to wish own file key summaries server summary None stand s is fits there apart needs = absurd (true≢false (sym needs))
wants_to (NoHandles access share) own file key summaries server summary (Some known) stand s is fits there apart needs =
    let both = and_parts (tally_conflicts access share known.tally) (leases.lease_of known.lease).state.handle needs in
    let some = sym (conflicts_are access share (has_key key) server.opens)
    ∙ (ap (tally_conflicts access share) (sym fits.tally) ∙ both.0) in
    let found = any_has (λ o. has_key key o && conflict access share o.access o.share) server.opens some in
    let parts = and_parts (has_key key found.0) (conflict access share (found.0).access (found.0).share) found.2 in
    let here = and_parts (list_any (has_key_on file.0 key) server.opens) (lease_in summaries key).state.handle
    (sym (s.handlers key) ∙ there) in
    let other = any_has (has_key_on file.0 key) server.opens here.0 in
    let others = and_parts (is_on file.0 other.0) (has_key key other.0) other.2 in
    let same = at_file key known.file.0 server.opens found.0 fits.one_file found.1 parts.0
    ∙ (sym (at_file key known.file.0 server.opens other.0 fits.one_file other.1 others.1)
    ∙ (Decides-eqb (other.0).file file.0).0 others.0) in
    let on = (Decides-eqb (found.0).file file.0).1 same in
    record {
      one = found.0;
      is_there = found.1;
      is_wanted = and_both (conflicts_on file.0 access share found.0 && is_other_on own file.0 found.0)
          (lease_of_open server found.0).state.handle
          (and_both (conflicts_on file.0 access share found.0) (is_other_on own file.0 found.0)
          (conflicting file.0 access share found.0 on parts.1) (other_on own file.0 key found.0 on parts.0 apart))
          (ap (λ (l : Lease). l.state.handle) (lease_known summaries server key found.0 known stand is parts.0) ∙ both.1);
      has_it = parts.0;
    }
wants_to NoWrites own file key summaries server summary (Some known) stand s is fits there apart needs =
    let writes = and_parts (list_any (has_key_on file.0 key) server.opens) (lease_in summaries key).state.write
    (sym (s.writers key) ∙ there) in
    let found = any_has (has_key_on file.0 key) server.opens writes.0 in
    let parts = and_parts (is_on file.0 found.0) (has_key key found.0) found.2 in
    record {
      one = found.0;
      is_there = found.1;
      is_wanted = and_both (is_other_on own file.0 found.0) (lease_of_open server found.0).state.write
          (other_on own file.0 key found.0 parts.0 parts.1 apart)
          (ap (λ (l : Lease). l.state.write) (lease_known summaries server key found.0 known stand is parts.1) ∙ needs);
      has_it = parts.1;
    }
wants_to AnyHandles own file key summaries server summary (Some known) stand s is fits there apart needs =
    let here = and_parts (list_any (has_key_on file.0 key) server.opens) (lease_in summaries key).state.handle
    (sym (s.handlers key) ∙ there) in
    let found = any_has (has_key_on file.0 key) server.opens here.0 in
    let parts = and_parts (is_on file.0 found.0) (has_key key found.0) found.2 in
    record {
      one = found.0;
      is_there = found.1;
      is_wanted = and_both (is_other_on own file.0 found.0) (lease_of_open server found.0).state.handle
          (other_on own file.0 key found.0 parts.0 parts.1 apart)
          (ap (λ (l : Lease). l.state.handle) (lease_known summaries server key found.0 known stand is parts.1) ∙ needs);
      has_it = parts.1;
    }
wants_to Nothing own file key summaries server summary (Some known) stand s is fits there apart needs =
    let found = any_has (has_key_on file.0 key) server.opens (sym (s.keys key) ∙ there) in
    let parts = and_parts (is_on file.0 found.0) (has_key key found.0) found.2 in
    record {
      one = found.0;
      is_there = found.1;
      is_wanted = and_both (is_other_on own file.0 found.0) (holds_any (lease_of_open server found.0).state)
          (other_on own file.0 key found.0 parts.0 parts.1 apart)
          (ap (λ (l : Lease). holds_any l.state) (lease_known summaries server key found.0 known stand is parts.1) ∙ needs);
      has_it = parts.1;
    }

-- what is known of a key by which an open wants it
record IsKnown (wish : Wish) (own : Option Key) (key : Key) (summary : FileSummary) (known : Option LeaseRecord) : Type 0 where
  pub there : contains key_order (keys_for wish summary) key ≡ true
  pub apart : not (is_own_key own key) ≡ true
  pub needs : needs_known wish known ≡ true

-- a key that an open on the file has, and whose lease holds H
handler_there : (file : ℕ) (key : Key) (summaries : Summaries) (opens : List Open) (summary : FileSummary) (known : LeaseRecord)
    → SumsUp file opens (lease_in summaries) summary → record_at summaries key ≡ Some known
    → list_any (has_key_on file key) opens ≡ true → (leases.lease_of known.lease).state.handle ≡ true
    → contains key_order summary.handlers key ≡ true
handler_there file key summaries opens summary known s is there handles = s.handlers key
    ∙ and_both (list_any (has_key_on file key) opens) (lease_in summaries key).state.handle there
    (ap (λ r. (lease_or_none r).state.handle) is ∙ handles)

wants_from : (wish : Wish) (own : Option Key) (file : FileNo) (key : Key) (summaries : Summaries) (server : Server)
    (summary : FileSummary) (known : Option LeaseRecord) (one : Open)
    → StandFor summaries server → SumsUp file.0 server.opens (lease_in summaries) summary
    → record_at summaries key ≡ known → RecordFits key server.opens known
    → Among one server.opens → has_key key one ≡ true → is_wanted wish server own file.0 one ≡ true
    → IsKnown wish own key summary known
wants_from wish own file key summaries server summary None one stand s is fits there has wanted =
    absurd (true≢false (sym (has_any (has_key key) one server.opens there has) ∙ fits))
wants_from (NoHandles access share) own file key summaries server summary (Some known) one stand s is fits there has wanted =
    let a = and_parts (conflicts_on file.0 access share one && is_other_on own file.0 one) (lease_of_open server one).state.handle
    wanted in
    let b = and_parts (conflicts_on file.0 access share one) (is_other_on own file.0 one) a.0 in
    let o = on_other own file.0 key one b.1 has in
    let handles = ap (λ (l : Lease). l.state.handle) (sym (lease_known summaries server key one known stand is has)) ∙ a.1 in
    record {
      there = handler_there file.0 key summaries server.opens summary known s is
          (has_any (has_key_on file.0 key) one server.opens there o.0) handles;
      apart = o.1;
      needs = and_both (tally_conflicts access share known.tally) (leases.lease_of known.lease).state.handle
          (ap (tally_conflicts access share) fits.tally ∙ (conflicts_are access share (has_key key) server.opens
          ∙ has_any (λ x. has_key key x && conflict access share x.access x.share) one server.opens there
          (and_both (has_key key one) (conflict access share one.access one.share) has (conflicted file.0 access share one b.0))))
          handles;
    }
wants_from NoWrites own file key summaries server summary (Some known) one stand s is fits there has wanted =
    let a = and_parts (is_other_on own file.0 one) (lease_of_open server one).state.write wanted in
    let o = on_other own file.0 key one a.0 has in
    let writes = ap (λ (l : Lease). l.state.write) (sym (lease_known summaries server key one known stand is has)) ∙ a.1 in
    record {
      there = s.writers key ∙ and_both (list_any (has_key_on file.0 key) server.opens) (lease_in summaries key).state.write
          (has_any (has_key_on file.0 key) one server.opens there o.0) (ap (λ r. (lease_or_none r).state.write) is ∙ writes);
      apart = o.1;
      needs = writes;
    }
wants_from AnyHandles own file key summaries server summary (Some known) one stand s is fits there has wanted =
    let a = and_parts (is_other_on own file.0 one) (lease_of_open server one).state.handle wanted in
    let o = on_other own file.0 key one a.0 has in
    let handles = ap (λ (l : Lease). l.state.handle) (sym (lease_known summaries server key one known stand is has)) ∙ a.1 in
    record {
      there = handler_there file.0 key summaries server.opens summary known s is
          (has_any (has_key_on file.0 key) one server.opens there o.0) handles;
      apart = o.1;
      needs = handles;
    }
wants_from Nothing own file key summaries server summary (Some known) one stand s is fits there has wanted =
    let a = and_parts (is_other_on own file.0 one) (holds_any (lease_of_open server one).state) wanted in
    let o = on_other own file.0 key one a.0 has in
    record {
      there = s.keys key ∙ has_any (has_key_on file.0 key) one server.opens there o.0;
      apart = o.1;
      needs = ap (λ (l : Lease). holds_any l.state) (sym (lease_known summaries server key one known stand is has)) ∙ a.1;
    }

pub wanted_are : (demand : Demand) (summaries : Summaries) (server : Server) (summary : FileSummary)
    → StandFor summaries server → SumsUp demand.file.0 server.opens (lease_in summaries) summary
    → IsStrictlySortedBy key_order (keys_for demand.wish summary).keys
    → filter (is_wanted_key summaries demand) (keys_for demand.wish summary).keys
    ≡ keys_of (filter (is_demanded demand server) server.opens)
wanted_are demand summaries server summary stand s sorted =
    one_list _ _ (filter_ordered (is_wanted_key summaries demand) _ (sorted_ordered _ sorted))
    (keys_ordered server (is_demanded demand server))
    (λ key a.
    let found = among_filter (is_wanted_key summaries demand) key (keys_for demand.wish summary).keys a in
    let parts = and_parts (not (is_own_key demand.own key)) (needs_known demand.wish (record_at summaries key)) found.1 in
    let w = wants_to demand.wish demand.own demand.file key summaries server summary (record_at summaries key) stand s refl
    (stand.agree.records key) (member (keys_for demand.wish summary) key found.0) parts.0 parts.1 in
    keys_of-all key w.one (filter (is_demanded demand server) server.opens)
    (among_filtered (is_demanded demand server) w.one server.opens w.is_there w.is_wanted) w.has_it)
    (λ key a.
    let found = keys_of-has key (filter (is_demanded demand server) server.opens) a in
    let there = among_filter (is_demanded demand server) found.0 server.opens found.1 in
    let k = wants_from demand.wish demand.own demand.file key summaries server summary (record_at summaries key) found.0
    stand s refl (stand.agree.records key) there.0 found.2 there.1 in
    among_filtered (is_wanted_key summaries demand) key (keys_for demand.wish summary).keys
    (among_members (keys_for demand.wish summary) key k.there)
    (and_both (not (is_own_key demand.own key)) (needs_known demand.wish (record_at summaries key)) k.apart k.needs))

-- where nothing is open nothing is wanted
pub other_here : (own : Option Key) (file : ℕ) (one : Open) → is_other_on own file one ≡ true → is_on file one ≡ true
other_here own file one o = (and_parts (one.file == file) (not (has_own_key own one)) o).0

on_file : (wish : Wish) (server : Server) (own : Option Key) (file : ℕ) (one : Open)
    → is_wanted wish server own file one ≡ true → is_on file one ≡ true
on_file (NoHandles access share) server own file one w =
    other_here own file one (and_parts (conflicts_on file access share one) (is_other_on own file one)
    (and_parts (conflicts_on file access share one && is_other_on own file one) (lease_of_open server one).state.handle w).0).1
on_file AnyHandles server own file one w =
    other_here own file one (and_parts (is_other_on own file one) (lease_of_open server one).state.handle w).0
on_file NoWrites server own file one w =
    other_here own file one (and_parts (is_other_on own file one) (lease_of_open server one).state.write w).0
on_file Nothing server own file one w =
    other_here own file one (and_parts (is_other_on own file one) (holds_any (lease_of_open server one).state) w).0

no_keys : (test : Open → Bool) (opens : List Open) → ((one : Open) → Among one opens → test one ≡ false)
    → [] ≡ keys_of (filter test opens)
unfolding keys_of
no_keys test [] none = refl
no_keys test (one ∷ opens) none = rw (none one (inl refl)) (no_keys test opens (λ other a. none other (inr a)))

pub wanted_none : (demand : Demand) (server : Server) → list_any (is_on demand.file.0) server.opens ≡ false
    → [] ≡ keys_of (filter (is_demanded demand server) server.opens)
wanted_none demand server none =
    no_keys (is_demanded demand server) server.opens (λ one a. not_true (is_demanded demand server one) (λ w.
    clash (is_on demand.file.0 one) (on_file demand.wish server demand.own demand.file.0 one w)
    (none_has (is_on demand.file.0) one server.opens none a)))

-- ---- whether any is

-- an open without a key wants nothing
keyless : (wish : Wish) (server : Server) (own : Option Key) (file : ℕ) (one : Open) → lease_of_open server one ≡ no_lease
    → is_wanted wish server own file one ≡ true → ⊥
keyless (NoHandles access share) server own file one none w = clash (lease_of_open server one).state.handle
    (and_parts (conflicts_on file access share one && is_other_on own file one) (lease_of_open server one).state.handle w).1
    (ap (λ (l : Lease). l.state.handle) none)
keyless AnyHandles server own file one none w = clash (lease_of_open server one).state.handle
    (and_parts (is_other_on own file one) (lease_of_open server one).state.handle w).1 (ap (λ (l : Lease). l.state.handle) none)
keyless NoWrites server own file one none w = clash (lease_of_open server one).state.write
    (and_parts (is_other_on own file one) (lease_of_open server one).state.write w).1 (ap (λ (l : Lease). l.state.write) none)
keyless Nothing server own file one none w = clash (holds_any (lease_of_open server one).state)
    (and_parts (is_other_on own file one) (holds_any (lease_of_open server one).state) w).1
    (ap (λ (l : Lease). holds_any l.state) none)

keyed : (wish : Wish) (server : Server) (own : Option Key) (file : ℕ) (one : Open) (bytes : Option (List ℕ))
    → one.lease_key ≡ bytes → is_wanted wish server own file one ≡ true → (key : Key) × (has_key key one ≡ true)
keyed wish server own file one None e w =
    absurd (keyless wish server own file one (ap (λ b. lease_by server one.client b) e) w)
keyed wish server own file one (Some bytes) e w =
    (key_of one.client bytes, ap (λ b. is_key (key_of one.client bytes) one.client b) e ∙ is_key-refl one.client bytes)

alike : (a b : Bool) → (a ≡ true → b ≡ true) → (b ≡ true → a ≡ true) → a ≡ b
alike true b to from = sym (to refl)
alike false true to from = absurd (true≢false (sym (from refl)))
alike false false to from = refl

pub any_wanted : (demand : Demand) (summaries : Summaries) (server : Server) (summary : FileSummary)
    → StandFor summaries server → SumsUp demand.file.0 server.opens (lease_in summaries) summary
    → list_any (is_wanted_key summaries demand) (keys_for demand.wish summary).keys
    ≡ list_any (is_demanded demand server) server.opens
any_wanted demand summaries server summary stand s = alike _ _
    (λ some.
    let found = any_has (is_wanted_key summaries demand) (keys_for demand.wish summary).keys some in
    let key = found.0 in
    let parts = and_parts (not (is_own_key demand.own key)) (needs_known demand.wish (record_at summaries key)) found.2 in
    let w = wants_to demand.wish demand.own demand.file key summaries server summary (record_at summaries key) stand s refl
    (stand.agree.records key) (member (keys_for demand.wish summary) key found.1) parts.0 parts.1 in
    has_any (is_demanded demand server) w.one server.opens w.is_there w.is_wanted)
    (λ some.
    let found = any_has (is_demanded demand server) server.opens some in
    let k = keyed demand.wish server demand.own demand.file.0 found.0 (found.0).lease_key refl found.2 in
    let known = wants_from demand.wish demand.own demand.file k.0 summaries server summary (record_at summaries k.0) found.0
    stand s refl (stand.agree.records k.0) found.1 k.1 found.2 in
    has_any (is_wanted_key summaries demand) k.0 (keys_for demand.wish summary).keys
    (among_members (keys_for demand.wish summary) k.0 known.there)
    (and_both (not (is_own_key demand.own k.0)) (needs_known demand.wish (record_at summaries k.0)) known.apart known.needs))

pub none_wanted : (demand : Demand) (server : Server) → list_any (is_on demand.file.0) server.opens ≡ false
    → false ≡ list_any (is_demanded demand server) server.opens
none_wanted demand server none = sym (not_true (list_any (is_demanded demand server) server.opens) (λ some.
    let found = any_has (is_demanded demand server) server.opens some in
    clash (is_on demand.file.0 found.0) (on_file demand.wish server demand.own demand.file.0 found.0 found.2)
    (none_has (is_on demand.file.0) found.0 server.opens none found.1)))
