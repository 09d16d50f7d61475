-- Whether a lease hinders a write, by summaries, by the list of opens and by what the rules want.
use Rattle.lease_laws.proofs.Words.{◌&&◌, ◌+◌, ◌-◌, ◌∙◌, ◌∷◌, ◌≡◌, Bool, Finding, Key, Lease, Less, List, None, Open}
use Rattle.lease_laws.proofs.Words.{Option, Server, Some, Want, ℕ, [], all_wants, ap, arith, breaks_to_none, false, filter}
use Rattle.lease_laws.proofs.Words.{has_key, holds_any, if◌then◌else◌, is_at, is_other_on, is_some, keys_of, lease_by}
use Rattle.lease_laws.proofs.Words.{lease_of_open, length, list_all, list_any, nat_lt, not, nothing_cached, refl, subst, sym}
use Rattle.lease_laws.proofs.Words.{true}
use Rattle.std.specs.BTreeSet.{BTreeSet, contains}
use Rattle.std.specs.List.{AllByRecursion}
use Rattle.std.specs.List.Sorted.{IsStrictlySortedBy}
use Rattle.lease_laws.proofs.server.Keys.{key_eq-same, key_eq-refl, lease_by-key}
use Rattle.lease_laws.proofs.server.KeyOrder.{keys_of-all, among_mapped}
use Rattle.lease_laws.proofs.server.Lists.{any_has, has_any, all_each, each_all, and_parts, and_both, not_parts, none_has}
use Rattle.lease_laws.proofs.server.Lists.{not_false, not_true, clash, either, among_filter, among_filtered, among_map}
use Rattle.lease_laws.proofs.server.Wants.{keys_of-has}
use Rattle.lease_manager.specs.Findings.{Look, looked}
use Rattle.lease_manager.specs.Hindering.{breaks_handle, hinders_writes, is_harmless, is_hinderer}
use Rattle.lease_manager.specs.StillWaiting.{AreHandlesBreaking}
use Rattle.lease_model.specs.server.State.{is_breaking}
use Rattle.lease_manager.specs.KeyOrder.{key_order}
use Rattle.lease_manager.specs.Summaries.{StandFor, SumsUp, lease_in, is_on, has_key_on}
use Rattle.lease_manager.specs.Remaining.{own_remaining, remains}
use Rattle.lease_manager.specs.Wanted.{is_own_key, is_hindering, own_hindering}
use Rattle.lease_manager.specs.declared.tables.file_summary.FileSummary.{FileSummary}
use Rattle.lease_manager.specs.declared.tables.summaries.Summaries.{Summaries}
use Rattle.lease_manager.proofs.sums.Demanding.{filter_ordered, sorted_ordered, one_list, member, among_members, both_so}
use Rattle.lease_manager.proofs.sums.Demanding.{all_counted}
use Rattle.lease_manager.proofs.sums.Demanding.{others_counted, key_there, other_on, on_other, other_here}
use Rattle.lease_manager.proofs.sums.Ordering.{order_eq}

-- ---- how many hinder

parts_counted : (test : Key → Bool) (keys : List Key)
    → length keys ≡ length (filter test keys) + length (filter (λ key. not (test key)) keys)
parts_counted test [] = refl
parts_counted test (key ∷ keys) = let later = parts_counted test keys in grind arith

any_filtered : (test other : Key → Bool) (keys : List Key)
    → list_any other (filter test keys) ≡ list_any (λ key. other key && test key) keys
any_filtered test other [] = refl
any_filtered test other (key ∷ keys) = let later = any_filtered test other keys in grind arith

all_filtered : (P : Key → Type 0) (test : Key → Bool) (keys : List Key) → AllByRecursion P keys
    → AllByRecursion P (filter test keys)
all_filtered P test [] all = all
all_filtered P test (key ∷ keys) all = let later = all_filtered P test keys all.1 in grind arith

filter_sorted : (test : Key → Bool) (keys : List Key) → IsStrictlySortedBy key_order keys
    → IsStrictlySortedBy key_order (filter test keys)
unfolding IsStrictlySortedBy
filter_sorted test [] sorted = sorted
filter_sorted test (key ∷ keys) sorted = either (test key)
    (λ t. rw t (all_filtered (λ y. key_order key y ≡ Less) test keys sorted.0, filter_sorted test keys sorted.1))
    (λ t. rw t (filter_sorted test keys sorted.1))

abbrev is_marked : FileSummary → Key → Bool
is_marked summary key = contains key_order summary.harmless key

-- the keys of a set that aren't marked
abbrev remaining : BTreeSet Key → BTreeSet Key → List Key
remaining all marked = filter (λ key. not (contains key_order marked key)) all.keys

marked_are : (all marked : BTreeSet Key)
    → ((key : Key) → contains key_order marked key ≡ true → contains key_order all key ≡ true)
    → IsStrictlySortedBy key_order all.keys → IsStrictlySortedBy key_order marked.keys
    → filter (contains key_order marked) all.keys ≡ marked.keys
marked_are all marked among sorted marks =
    one_list _ _ (filter_ordered (contains key_order marked) all.keys (sorted_ordered _ sorted)) (sorted_ordered _ marks)
    (λ key a. among_members marked key (among_filter (contains key_order marked) key all.keys a).1)
    (λ key a.
    let m = member marked key a in
    among_filtered (contains key_order marked) key all.keys (among_members all key (among key m)) m)

remaining_counted : (all marked : BTreeSet Key)
    → ((key : Key) → contains key_order marked key ≡ true → contains key_order all key ≡ true)
    → IsStrictlySortedBy key_order all.keys → IsStrictlySortedBy key_order marked.keys
    → length (remaining all marked) ≡ length all.keys - length marked.keys
remaining_counted all marked among sorted marks =
    let e = parts_counted (contains key_order marked) all.keys in
    let m = ap (λ (keys : List Key). length keys) (marked_are all marked among sorted marks) in
    omega arith

own_among : (own : Key) (all marked : BTreeSet Key)
    → list_any (is_at (key_order own)) (remaining all marked) ≡ remains all marked own
own_among own all marked = both_so _ _
    (λ some.
    let key = any_has (is_at (key_order own)) (remaining all marked) some in
    let same = key_eq-same own key.0 (sym (order_eq own key.0) ∙ key.2) in
    let there = among_filter (λ k. not (contains key_order marked k)) key.0 all.keys key.1 in
    and_both (contains key_order all own) (not (contains key_order marked own))
    (subst (λ k. contains key_order all k ≡ true) (sym same) (member all key.0 there.0))
    (subst (λ k. not (contains key_order marked k) ≡ true) (sym same) there.1))
    (λ left.
    let parts = and_parts (contains key_order all own) (not (contains key_order marked own)) left in
    has_any (is_at (key_order own)) own (remaining all marked)
    (among_filtered (λ k. not (contains key_order marked k)) own all.keys (among_members all own parts.0) parts.1)
    (order_eq own own ∙ key_eq-refl own))

-- whether others than the request's remain is told by their number
others_remain : (own : Option Key) (all marked : BTreeSet Key)
    → ((key : Key) → contains key_order marked key ≡ true → contains key_order all key ≡ true)
    → IsStrictlySortedBy key_order all.keys → IsStrictlySortedBy key_order marked.keys
    → nat_lt (own_remaining own all marked) (length all.keys - length marked.keys)
    ≡ list_any (λ key. not (is_own_key own key) && not (contains key_order marked key)) all.keys
others_remain own all marked among sorted marks =
    ap (nat_lt (own_remaining own all marked)) (sym (remaining_counted all marked among sorted marks))
    ∙ (sym (counted own (filter_sorted (λ key. not (contains key_order marked key)) all.keys sorted))
    ∙ any_filtered (λ key. not (contains key_order marked key)) (λ key. not (is_own_key own key)) all.keys)
  where
    counted : (mine : Option Key) → IsStrictlySortedBy key_order (remaining all marked)
        → list_any (λ key. not (is_own_key mine key)) (remaining all marked)
        ≡ nat_lt (own_remaining mine all marked) (length (remaining all marked))
    counted None order = all_counted (remaining all marked)
    counted (Some key) order = others_counted key (remaining all marked) order
        ∙ ap (λ (b : Bool). nat_lt (if b then 1 else 0) (length (remaining all marked))) (own_among key all marked)

-- where no more remain than are the request's, each other key is marked
pub others_marked : (own : Option Key) (all marked : BTreeSet Key)
    → ((key : Key) → contains key_order marked key ≡ true → contains key_order all key ≡ true)
    → IsStrictlySortedBy key_order all.keys → IsStrictlySortedBy key_order marked.keys
    → nat_lt (own_remaining own all marked) (length all.keys - length marked.keys) ≡ false
    → (key : Key) → not (is_own_key own key) ≡ true → contains key_order all key ≡ true → contains key_order marked key ≡ true
others_marked own all marked among sorted marks few key other has =
    let none = none_has (λ k. not (is_own_key own k) && not (contains key_order marked k)) key all.keys
    (sym (others_remain own all marked among sorted marks) ∙ few) (among_members all key has) in
    not_false (contains key_order marked key) (λ no.
    clash (not (is_own_key own key) && not (contains key_order marked key))
    (and_both (not (is_own_key own key)) (not (contains key_order marked key)) other (ap not no)) none)

-- on the list of keys, each of them is a member
here_alike : (own : Option Key) (summary : FileSummary)
    → list_any (λ key. not (is_own_key own key) && not (is_marked summary key)) summary.keys.keys
    ≡ list_any (λ key. not (is_own_key own key) && is_hindering summary key) summary.keys.keys
here_alike own summary = both_so _ _
    (λ some.
    let key = any_has (λ k. not (is_own_key own k) && not (is_marked summary k)) summary.keys.keys some in
    let parts = and_parts (not (is_own_key own key.0)) (not (is_marked summary key.0)) key.2 in
    has_any (λ k. not (is_own_key own k) && is_hindering summary k) key.0 summary.keys.keys key.1
    (and_both (not (is_own_key own key.0)) (is_hindering summary key.0) parts.0
    (and_both (contains key_order summary.keys key.0) (not (is_marked summary key.0)) (member summary.keys key.0 key.1) parts.1)))
    (λ some.
    let key = any_has (λ k. not (is_own_key own k) && is_hindering summary k) summary.keys.keys some in
    let parts = and_parts (not (is_own_key own key.0)) (is_hindering summary key.0) key.2 in
    has_any (λ k. not (is_own_key own k) && not (is_marked summary k)) key.0 summary.keys.keys key.1
    (and_both (not (is_own_key own key.0)) (not (is_marked summary key.0)) parts.0
    (and_parts (contains key_order summary.keys key.0) (not (is_marked summary key.0)) parts.1).1))

pub others_hindering : (own : Option Key) (file : ℕ) (opens : List Open) (leases : Key → Lease) (summary : FileSummary)
    → SumsUp file opens leases summary
    → IsStrictlySortedBy key_order summary.keys.keys → IsStrictlySortedBy key_order summary.harmless.keys
    → nat_lt (own_hindering own summary) (length summary.keys.keys - length summary.harmless.keys)
    ≡ list_any (λ key. not (is_own_key own key) && is_hindering summary key) summary.keys.keys
others_hindering own file opens leases summary s sorted marked =
    let among : (key : Key) → is_marked summary key ≡ true → contains key_order summary.keys key ≡ true =
    λ key m. s.keys key ∙ (and_parts (list_any (has_key_on file key) opens) (is_harmless (leases key))
    (sym (s.harmless key) ∙ m)).0 in
    ap (λ n. nat_lt n (length summary.keys.keys - length summary.harmless.keys)) (mine own)
    ∙ (others_remain own summary.keys summary.harmless among sorted marked ∙ here_alike own summary)
  where
    mine : (one : Option Key) → own_hindering one summary ≡ own_remaining one summary.keys summary.harmless
    mine None = refl
    mine (Some key) = refl

-- ---- by summaries

lease_summed : (summaries : Summaries) (server : Server) (key : Key) (one : Open) → StandFor summaries server
    → has_key key one ≡ true → lease_of_open server one ≡ lease_in summaries key
lease_summed summaries server key one stand has = lease_by-key server key one.client one.lease_key has ∙ stand.leases key

-- an open without a key has no lease, and hinders nothing
hinderer_keyed : (server : Server) (client : ℕ) (bytes : Option (List ℕ))
    → hinders_writes (lease_by server client bytes) ≡ true → is_some bytes ≡ true
hinderer_keyed server client bytes hinders = grind arith

pub hindered_by : (own : Option Key) (file : ℕ) (summaries : Summaries) (server : Server) (summary : FileSummary)
    → StandFor summaries server → SumsUp file server.opens (lease_in summaries) summary
    → list_any (λ key. not (is_own_key own key) && is_hindering summary key) summary.keys.keys
    ≡ list_any (is_hinderer server own file) server.opens
hindered_by own file summaries server summary stand s = both_so _ _
    (λ some.
    let key = any_has (λ k. not (is_own_key own k) && is_hindering summary k) summary.keys.keys some in
    let apart = and_parts (not (is_own_key own key.0)) (is_hindering summary key.0) key.2 in
    let hinders = and_parts (contains key_order summary.keys key.0) (not (contains key_order summary.harmless key.0)) apart.1 in
    let used = sym (s.keys key.0) ∙ hinders.0 in
    let one = any_has (has_key_on file key.0) server.opens used in
    let parts = and_parts (is_on file one.0) (has_key key.0 one.0) one.2 in
    has_any (is_hinderer server own file) one.0 server.opens one.1
    (and_both (is_other_on own file one.0) (hinders_writes (lease_of_open server one.0))
    (other_on own file key.0 one.0 parts.0 parts.1 apart.0)
    (ap hinders_writes (lease_summed summaries server key.0 one.0 stand parts.1)
    ∙ unmarked _ _ (hinders_writes (lease_in summaries key.0)) (s.harmless key.0) used (not_parts _ hinders.1))))
    (λ some.
    let one = any_has (is_hinderer server own file) server.opens some in
    let parts = and_parts (is_other_on own file one.0) (hinders_writes (lease_of_open server one.0)) one.2 in
    let key = key_there (one.0).client (one.0).lease_key (hinderer_keyed server (one.0).client (one.0).lease_key parts.1) in
    let other = on_other own file key.0 one.0 parts.0 key.1 in
    let used = has_any (has_key_on file key.0) one.0 server.opens one.1 other.0 in
    let there = s.keys key.0 ∙ used in
    let hinders = ap hinders_writes (sym (lease_summed summaries server key.0 one.0 stand key.1)) ∙ parts.1 in
    let marked = hinders_unmarked _ (list_any (has_key_on file key.0) server.opens) _ (s.harmless key.0) hinders in
    has_any (λ k. not (is_own_key own k) && is_hindering summary k) key.0 summary.keys.keys
    (among_members summary.keys key.0 there) (and_both (not (is_own_key own key.0)) (is_hindering summary key.0) other.1
    (and_both (contains key_order summary.keys key.0) (not (contains key_order summary.harmless key.0)) there (ap not marked))))
  where
    hinders_unmarked : (marked used hinders : Bool) → marked ≡ (used && not hinders) → hinders ≡ true → marked ≡ false
    hinders_unmarked marked used hinders is e = grind arith

    unmarked : (marked used hinders : Bool) → marked ≡ (used && not hinders) → used ≡ true → marked ≡ false → hinders ≡ true
    unmarked marked used hinders is u m = grind arith

-- where no open is on the file
pub hindered_none : (own : Option Key) (file : ℕ) (server : Server) → list_any (is_on file) server.opens ≡ false
    → false ≡ list_any (is_hinderer server own file) server.opens
hindered_none own file server none = sym (not_true (list_any (is_hinderer server own file) server.opens) (λ some.
    let one = any_has (is_hinderer server own file) server.opens some in
    let parts = and_parts (is_other_on own file one.0) (hinders_writes (lease_of_open server one.0)) one.2 in
    clash (is_on file one.0) (other_here own file one.0 parts.0) (none_has (is_on file) one.0 server.opens none one.1)))

-- ---- leases that hold H

-- the sets of a summary, the one within the other
pub breaking_within : (file : ℕ) (opens : List Open) (leases : Key → Lease) (summary : FileSummary)
    → SumsUp file opens leases summary → (key : Key) → contains key_order summary.breaking key ≡ true
    → contains key_order summary.handlers key ≡ true
breaking_within file opens leases summary s key has =
    let parts = and_parts (list_any (has_key_on file key) opens) (breaks_handle (leases key)) (sym (s.breaking key) ∙ has) in
    s.handlers key ∙ and_both (list_any (has_key_on file key) opens) (leases key).state.handle parts.0
    (and_parts (leases key).state.handle (is_breaking (leases key)) parts.1).0

pub handler_keyed : (server : Server) (client : ℕ) (bytes : Option (List ℕ))
    → (lease_by server client bytes).state.handle ≡ true → is_some bytes ≡ true
handler_keyed server client bytes handles = grind arith

pub handlers_breaking : (own : Option Key) (file : ℕ) (summaries : Summaries) (server : Server) (summary : FileSummary)
    → StandFor summaries server → SumsUp file server.opens (lease_in summaries) summary
    → ((key : Key) → not (is_own_key own key) ≡ true → contains key_order summary.handlers key ≡ true
    → contains key_order summary.breaking key ≡ true) → AreHandlesBreaking server own file
handlers_breaking own file summaries server summary stand s all = λ one a other handles.
    let key = key_there one.client one.lease_key (handler_keyed server one.client one.lease_key handles) in
    let apart = on_other own file key.0 one other key.1 in
    let used = has_any (has_key_on file key.0) one server.opens a apart.0 in
    let summed = lease_summed summaries server key.0 one stand key.1 in
    let has = s.handlers key.0 ∙ and_both (list_any (has_key_on file key.0) server.opens) (lease_in summaries key.0).state.handle
    used (ap (λ (l : Lease). l.state.handle) (sym summed) ∙ handles) in
    let parts = and_parts (list_any (has_key_on file key.0) server.opens) (breaks_handle (lease_in summaries key.0))
    (sym (s.breaking key.0) ∙ all key.0 apart.1 has) in
    ap is_breaking summed ∙ (and_parts (lease_in summaries key.0).state.handle (is_breaking (lease_in summaries key.0)) parts.1).1

pub none_breaking : (own : Option Key) (file : ℕ) (server : Server) → list_any (is_on file) server.opens ≡ false
    → AreHandlesBreaking server own file
none_breaking own file server none = λ one a other handles.
    clash (is_on file one) (other_here own file one other) (none_has (is_on file) one server.opens none a)

-- ---- by what the rules want

-- what a lease holds it gives up by the break under way, or it hinders
gives_up : (holds gives : Bool) → holds ≡ true → (holds && not gives) ≡ false → gives ≡ true
gives_up holds gives h e = grind arith

hinders_still : (holds gives : Bool) → (holds && not gives) ≡ true → (holds ≡ true) × (gives ≡ false)
hinders_still holds gives e = grind arith

abbrev is_wanted_of : Server → Option Key → ℕ → Open → Bool
is_wanted_of server own file one = is_other_on own file one && holds_any (lease_of_open server one).state

abbrev want_at : Key → Want
want_at key = record { key = key; lowered = nothing_cached }

-- each lease that a write wants breaks to nothing where none hinders the write
pub unhindered_ready : (server : Server) (own : Option Key) (file : ℕ) → list_any (is_hinderer server own file) server.opens
    ≡ false
    → list_all (λ want. breaks_to_none (server.leases want.key)) (all_wants server own file) ≡ true
unhindered_ready server own file none =
    each_all (λ want. breaks_to_none (server.leases want.key)) (all_wants server own file) (λ want a.
    let key = among_map want_at want (keys_of (filter (is_wanted_of server own file) server.opens)) a in
    let found = keys_of-has key.0 (filter (is_wanted_of server own file) server.opens) key.1 in
    let there = among_filter (is_wanted_of server own file) found.0 server.opens found.1 in
    let parts = and_parts (is_other_on own file found.0) (holds_any (lease_of_open server found.0).state) there.1 in
    let settled = none_has (is_hinderer server own file) found.0 server.opens none there.0 in
    let same = lease_by-key server key.0 (found.0).client (found.0).lease_key found.2 in
    ap (λ (w : Want). breaks_to_none (server.leases w.key)) key.2 ∙ (ap breaks_to_none (sym same)
    ∙ gives_up (holds_any (lease_of_open server found.0).state) (breaks_to_none (lease_of_open server found.0)) parts.1
    (rw parts.0 at settled)))

-- and where one hinders it, that one doesn't
pub hindered_unready : (server : Server) (own : Option Key) (file : ℕ) → list_any (is_hinderer server own file) server.opens
    ≡ true
    → list_all (λ want. breaks_to_none (server.leases want.key)) (all_wants server own file) ≡ false
hindered_unready server own file some =
    let one = any_has (is_hinderer server own file) server.opens some in
    let parts = and_parts (is_other_on own file one.0) (hinders_writes (lease_of_open server one.0)) one.2 in
    let still = hinders_still (holds_any (lease_of_open server one.0).state) (breaks_to_none (lease_of_open server one.0))
    parts.1 in
    let key = key_there (one.0).client (one.0).lease_key (hinderer_keyed server (one.0).client (one.0).lease_key parts.1) in
    let same = lease_by-key server key.0 (one.0).client (one.0).lease_key key.1 in
    let wanted = among_mapped want_at key.0 (keys_of (filter (is_wanted_of server own file) server.opens))
    (keys_of-all key.0 one.0 (filter (is_wanted_of server own file) server.opens)
    (among_filtered (is_wanted_of server own file) one.0 server.opens one.1
    (and_both (is_other_on own file one.0) (holds_any (lease_of_open server one.0).state) parts.0 still.0)) key.1) in
    not_true (list_all (λ want. breaks_to_none (server.leases want.key)) (all_wants server own file)) (λ all.
    clash (breaks_to_none (server.leases key.0))
    (all_each (λ want. breaks_to_none (server.leases want.key)) (want_at key.0) (all_wants server own file) all wanted)
    (ap breaks_to_none (sym same) ∙ still.1))

-- ---- what a write needs

abbrev write_looked : Server → Option Key → ℕ → Look
write_looked server own file = looked (λ wants. list_all (λ want. breaks_to_none (server.leases want.key)) wants)
    (Finding.Needs (all_wants server own file))

pub unhindered : (server : Server) (own : Option Key) (file : ℕ)
    → list_any (is_hinderer server own file) server.opens ≡ false → Look.Ready ≡ write_looked server own file
unhindered server own file none = ap (λ b. if b then Look.Ready else Look.Needs (all_wants server own file))
    (sym (unhindered_ready server own file none))

pub hindered : (server : Server) (own : Option Key) (file : ℕ) → list_any (is_hinderer server own file) server.opens ≡ true
    → Look.Needs (all_wants server own file) ≡ write_looked server own file
hindered server own file some = ap (λ b. if b then Look.Ready else Look.Needs (all_wants server own file))
    (sym (hindered_unready server own file some))
