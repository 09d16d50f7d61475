-- The tables' opens and lease records as the server that they stand for.
use Rattle.lease_laws.proofs.Words.{◌++◌, ◌<◌, ◌^◌, ◌||◌, ◌∙◌, ◌∷◌, ◌≡◌, ◌≤◌, Among, AreInOrder, Bool}
use Rattle.lease_laws.proofs.Words.{Decides-eqb, Key, Lease, List, None, Open, Option, Server, Some, ℕ, ⊎_elim, [], ap}
use Rattle.lease_laws.proofs.Words.{append-nil, ap₂, arith, awaits, false, filter, find, fun_ext, has_key}
use Rattle.lease_laws.proofs.Words.{if◌then◌else◌, inl, inr, is_at, is_breaking, is_key, is_leased_elsewhere, is_left_behind}
use Rattle.lease_laws.proofs.Words.{key_eq, length}
use Rattle.lease_laws.proofs.Words.{list_any, map, nat_tests, no_lease, not, put_key, refl, subst, sym, true}
use Rattle.lease_laws.proofs.Words.{with_lease, with_opens, without}
use Rattle.std.specs.Map.{lookup}
use Rattle.std.proofs.lemmas.List.{length-append}
use Rattle.lease_laws.proofs.server.Goes.{one_id}
use Rattle.lease_laws.proofs.server.Lists.{either, clash, among_filter, among_filtered, among_append, any_has, has_any, not_true}
use Rattle.lease_laws.proofs.server.Lists.{among_map, or_of_true, and_parts}
use Rattle.lease_manager.specs.Filed.{has_id, disconnected_at}
use Rattle.lease_manager.specs.KeyOrder.{key_order}
use Rattle.lease_manager.specs.Kept.{listed, AreKept, HaveClosed, is_one_of, disconnected_where, lease_put_by, opened_with}
use Rattle.lease_manager.specs.Leases.{lease_of}
use Rattle.lease_manager.specs.Looks.{is_connected_as, is_elsewhere}
use Rattle.lease_manager.specs.StillWaiting.{AreSettled}
use Rattle.lease_manager.specs.Summaries.{Agrees, IsOneMore, StandFor, lease_in, lease_or_none}
use Rattle.lease_manager.specs.Table.{Table, KeyedLease, lease_at, server_of}
use Rattle.lease_manager.specs.declared.tables.summaries.LeaseRecord.{LeaseRecord}
use Rattle.lease_manager.specs.declared.tables.summaries.Summaries.{Summaries}
use Rattle.lease_manager.proofs.sums.Mapping.{KeepsCounted, agrees_mapped}
use Rattle.lease_manager.proofs.sums.Ordering.{order_eq}

abbrev listed_entry : Key × LeaseRecord → KeyedLease
listed_entry entry = record { key = entry.0; lease = lease_of entry.1.lease }

listed_at : (entries : List (Key × LeaseRecord)) (key : Key)
    → lease_at (map listed_entry entries) key ≡ lease_or_none (lookup (is_at (key_order key)) entries)
listed_at [] key = refl
listed_at (e ∷ entries) key = either (key_eq key e.0)
    (λ at. rw (order_eq key e.0, at) refl)
    (λ at. rw (order_eq key e.0, at) (listed_at entries key))

-- the leases of the records are those of the server
pub listed_lease : (summaries : Summaries) (key : Key) → lease_at (listed summaries) key ≡ lease_in summaries key
listed_lease summaries key = listed_at summaries.leases.entries key

pub leases_are : (summaries : Summaries) → lease_at (listed summaries) ≡ lease_in summaries
leases_are summaries = fun_ext (listed_lease summaries)

pub stands_now : (table : Table) (summaries : Summaries) → AreKept table.opens summaries table.last_id
    → table.leases ≡ listed summaries → StandFor summaries (server_of table)
stands_now table summaries kept same = record {
  agree = kept.agree;
  leases = λ key. ap (λ l. lease_at l key) same ∙ listed_lease summaries key;
}

-- ---- the one open of a FileId

abbrev pick : (Open → Bool) → Option Open → Option Open
pick test None = None
pick test (Some one) = if test one then Some one else None

abbrev check : (Open → Bool) → Option Open → Bool
check test None = false
check test (Some one) = test one

none_above : (n : ℕ) (test : Open → Bool) (opens : List Open) → ((one : Open) → test one ≡ true → has_id n one ≡ true)
    → ((one : Open) → Among one opens → has_id n one ≡ false) → list_any test opens ≡ false
none_above n test [] only apart = refl
none_above n test (one ∷ opens) only apart =
    let later = none_above n test opens only (λ other a. apart other (inr a)) in grind arith

find_none : (test : Open → Bool) (opens : List Open) → list_any test opens ≡ false → find test opens ≡ None
find_none test [] none = refl
find_none test (one ∷ opens) none = either (test one)
    (λ t. absurd (cc (rw t at none)))
    (λ t. rw t (find_none test opens (rw t at none)))

apart_behind : (n : ℕ) (first one : Open) → first.file_id ≡ n → first.file_id < one.file_id → has_id n one ≡ false
apart_behind n first one is less = grind (arith, nat_tests, is, less)

pub any_one : (n : ℕ) (test : Open → Bool) (opens : List Open)
    → ((one : Open) → test one ≡ true → has_id n one ≡ true) → AreInOrder opens
    → list_any test opens ≡ check test (find (has_id n) opens)
any_one n test [] only order = refl
any_one n test (one ∷ opens) only order = either (has_id n one)
    (λ its.
    let is = (Decides-eqb one.file_id n).0 its in
    let none = none_above n test opens only (λ other a. apart_behind n one other is (order.0 other a)) in
    rw (its, none) (or_false (test one)))
    (λ its.
    let here = not_true (test one) (λ t. clash (has_id n one) (only one t) its) in
    rw (its, here) (any_one n test opens only order.1))
  where
    or_false : (b : Bool) → (b || false) ≡ b
    or_false b = grind arith

pub find_one : (n : ℕ) (test : Open → Bool) (opens : List Open)
    → ((one : Open) → test one ≡ true → has_id n one ≡ true) → AreInOrder opens
    → find test opens ≡ pick test (find (has_id n) opens)
find_one n test [] only order = refl
find_one n test (one ∷ opens) only order = either (has_id n one)
    (λ its.
    let is = (Decides-eqb one.file_id n).0 its in
    let none = none_above n test opens only (λ other a. apart_behind n one other is (order.0 other a)) in
    rw (its, find_none test opens none) refl)
    (λ its.
    let here = not_true (test one) (λ t. clash (has_id n one) (only one t) its) in
    rw (its, here) (find_one n test opens only order.1))

-- ---- opens chosen by their FileIds

pub chosen : (test : Open → Bool) (opens : List Open) (one : Open) → AreInOrder opens → Among one opens
    → is_one_of (map (λ o. o.file_id) (filter test opens)) one ≡ test one
chosen test opens one order among = either (test one)
    (λ t. has_any (λ id. has_id id one) one.file_id (map (λ o. o.file_id) (filter test opens))
    (mapped one (filter test opens) (among_filtered test one opens among t)) ((Decides-eqb one.file_id one.file_id).1 refl)
    ∙ sym t)
    (λ t. not_true _ (λ some.
    let id = any_has (λ id. has_id id one) (map (λ o. o.file_id) (filter test opens)) some in
    let other = among_map (λ (o : Open). o.file_id) id.0 (filter test opens) id.1 in
    let there = among_filter test other.0 opens other.1 in
    let same = one_id opens one other.0 order among there.0 ((Decides-eqb one.file_id id.0).0 id.2 ∙ other.2) in
    clash (test one) (ap test same ∙ there.1) t) ∙ sym t)
  where
    mapped : (o : Open) (xs : List Open) → Among o xs → Among o.file_id (map (λ x. x.file_id) xs)
    mapped o [] a = absurd a
    mapped o (x ∷ xs) (inl same) = inl (ap (λ y. y.file_id) same)
    mapped o (x ∷ xs) (inr a) = inr (mapped o xs a)

pub filter_alike : (f g : Open → Bool) (opens : List Open) → ((one : Open) → Among one opens → f one ≡ g one)
    → without f opens ≡ without g opens
filter_alike f g [] same = refl
filter_alike f g (one ∷ opens) same = let later = filter_alike f g opens (λ other a. same other (inr a)) in grind arith

pub map_alike : (f g : Open → Open) (opens : List Open) → ((one : Open) → Among one opens → f one ≡ g one)
    → map f opens ≡ map g opens
map_alike f g [] same = refl
map_alike f g (one ∷ opens) same = let later = map_alike f g opens (λ other a. same other (inr a)) in grind arith

-- ---- opens that are closed

pub one_more : (ids : List ℕ) (id : ℕ) (one : Open) → is_one_of (ids ++ id ∷ []) one ≡ (is_one_of ids one || has_id id one)
one_more [] id one = grind arith
one_more (x ∷ ids) id one = let e = one_more ids id one in grind (arith, e)

without_more : (ids : List ℕ) (id : ℕ) (opens : List Open)
    → without (has_id id) (without (is_one_of ids) opens) ≡ without (is_one_of (ids ++ id ∷ [])) opens
without_more ids id [] = refl
without_more ids id (one ∷ opens) =
    let later = without_more ids id opens in
    let more = one_more ids id one in
    either (is_one_of ids one)
    (λ t. rw (more, t) later)
    (λ t. either (has_id id one) (λ h. rw (more, t, h) later) (λ h. rw (more, t, h) (ap (λ x. one ∷ x) later)))

pub unused_lease : (key : Key) (opens : List Open) (summaries : Summaries) → Agrees summaries opens
    → lease_in summaries key ≡ (if list_any (has_key key) opens then lease_in summaries key else no_lease)
unused_lease key opens summaries agree = grind arith

nothing_left_out : (xs : List Open) → xs ≡ without (is_one_of []) xs
nothing_left_out [] = refl
nothing_left_out (x ∷ xs) = ap (λ y. x ∷ y) (nothing_left_out xs)

pub closed_none : (opens : List Open) (summaries : Summaries) → Agrees summaries opens
    → HaveClosed opens [] summaries opens summaries
closed_none opens summaries agree = record {
  opens_left = nothing_left_out opens;
  agree = agree;
  leases = λ key. unused_lease key opens summaries agree;
}

any_left : (test out : Open → Bool) (opens : List Open) → list_any test (without out opens) ≡ true → list_any test opens ≡ true
any_left test out [] some = some
any_left test out (one ∷ opens) some = either (out one)
    (λ o. or_of_true (test one) (list_any test opens) (any_left test out opens (rw o at some)))
    (λ o. either (test one) (λ t. rw t refl) (λ t. rw t (any_left test out opens (rw (o, t) at some))))

pub closed_more : (opens : List Open) (ids : List ℕ) (id : ℕ) (summaries during after : Summaries) (middle left : List Open)
    → HaveClosed opens ids summaries middle during → left ≡ without (has_id id) middle → Agrees after left
    → ((key : Key) → lease_in after key ≡ (if list_any (has_key key) left then lease_in during key else no_lease))
    → HaveClosed opens (ids ++ id ∷ []) summaries left after
closed_more opens ids id summaries during after middle left closed is agree leases = record {
  opens_left = is ∙ (ap (without (has_id id)) closed.opens_left ∙ without_more ids id opens);
  agree = agree;
  leases = λ key. leases key ∙ still (list_any (has_key key) left) (list_any (has_key key) middle) _ _ (closed.leases key)
      (λ some. any_left (has_key key) (has_id id) middle (rw is at some));
}
  where
    still : (left middle : Bool) (lease now : Lease) → now ≡ (if middle then lease else no_lease)
        → (left ≡ true → middle ≡ true) → (if left then now else no_lease) ≡ (if left then lease else no_lease)
    still left middle lease now e up = grind arith

abbrev with_leases : Server → List Open → (Key → Lease) → Server
with_leases server opens leases = record server { opens = opens; leases = leases }

same_leases : (server : Server) (opens others : List Open) (leases later : Key → Lease) → opens ≡ others → leases ≡ later
    → with_leases server opens leases ≡ with_leases server others later
same_leases server opens others leases later a b = grind arith

-- what is left once the opens of these FileIds are closed is what the rules leave
pub opens_closed : (test : Open → Bool) (opens left : List Open) (ids : List ℕ) (summaries after : Summaries) → AreInOrder opens
    → ids ≡ map (λ one. one.file_id) (filter test opens) → HaveClosed opens ids summaries left after
    → left ≡ without test opens
opens_closed test opens left ids summaries after order are closed =
    let chosen_ones : (one : Open) → Among one opens → is_one_of ids one ≡ test one =
    λ one a. rw are (chosen test opens one order a) in
    closed.opens_left ∙ filter_alike (is_one_of ids) test opens chosen_ones

pub table_closed : (table : Table) (test : Open → Bool) (ids : List ℕ) (summaries after : Summaries) (left : List Open)
    → table.leases ≡ listed summaries → AreInOrder table.opens → ids ≡ map (λ one. one.file_id) (filter test table.opens)
    → HaveClosed table.opens ids summaries left after → server_of (record table { opens = left; leases = listed after })
    ≡ with_opens (server_of table) (without test (server_of table).opens)
table_closed table test ids summaries after left same order are closed =
    let is : left ≡ without test table.opens = opens_closed test table.opens left ids summaries after order are closed in
    same_leases (server_of table) _ _ _ _ is (fun_ext (λ key. listed_lease after key ∙ (closed.leases key
    ∙ ap₂ (λ b l. if b then l else no_lease) (ap (λ o. list_any (has_key key) o) is)
    (sym (listed_lease summaries key) ∙ ap (λ l. lease_at l key) (sym same)))))

pub kept_left : (opens : List Open) (ids : List ℕ) (summaries after : Summaries) (left : List Open) (last_id : ℕ)
    → AreKept opens summaries last_id → HaveClosed opens ids summaries left after → AreKept left after last_id
kept_left opens ids summaries after left last_id kept closed = record {
  agree = closed.agree;
  numbered = λ one a. kept.numbered one
      (among_filter (λ o. not (is_one_of ids o)) one opens (subst (λ xs. Among one xs) closed.opens_left a)).0;
}

pub lease_written : (table : Table) (key : Key) (lease : Lease) (summaries after : Summaries) → table.leases ≡ listed summaries
    → ((other : Key) → lease_in after other ≡ (if key_eq other key then lease else lease_in summaries other))
    → server_of (record table { leases = listed after }) ≡ with_lease (server_of table) key lease
unfolding put_key
lease_written table key lease summaries after same now = same_leases (server_of table) _ _ _ _ refl
    (fun_ext (λ other. listed_lease after other ∙ (now other ∙ ap (λ l. if key_eq other key then lease else l)
    (sym (listed_lease summaries other) ∙ ap (λ l. lease_at l other) (sym same)))))

-- ---- a new open

new_leases : (client : ℕ) (bytes : Option (List ℕ)) (server : Server) (lease : Lease) (later : Key → Lease) (opens : List Open)
    (last : ℕ) → ((key : Key) → later key ≡ (if is_key key client bytes then lease else server.leases key))
    → record server { opens = opens; leases = later; last_id = last }
    ≡ record (lease_put_by server client bytes lease) { opens = opens; last_id = last }
unfolding put_key key_eq
new_leases client bytes server lease later opens last now = grind arith

pub table_opened : (table : Table) (one : Open) (lease : Lease) (summaries after : Summaries) → table.leases ≡ listed summaries
    → ((key : Key) → lease_in after key ≡ (if has_key key one then lease else lease_in summaries key))
    → server_of (record table { opens = table.opens ++ one ∷ []; leases = listed after; last_id = one.file_id })
    ≡ opened_with (server_of table) one lease
table_opened table one lease summaries after same now =
    new_leases one.client one.lease_key (server_of table) lease _ _ one.file_id
    (λ key. listed_lease after key ∙ (now key ∙ ap (λ l. if has_key key one then lease else l)
    (sym (listed_lease summaries key) ∙ ap (λ l. lease_at l key) (sym same))))

below_next : (one : Open) (last next : ℕ) → one.file_id ≤ last → last < next → one.file_id < next
below_next one last next low is = omega (arith, low, is)

pub below_new : (opens : List Open) (summaries : Summaries) (last next : ℕ) → AreKept opens summaries last → last < next
    → (other : Open) → Among other opens → other.file_id < next
below_new opens summaries last next kept is = λ other a. below_next other last next (kept.numbered other a) is

pub kept_opened : (opens : List Open) (one : Open) (summaries after : Summaries) (last : ℕ) → AreKept opens summaries last
    → last < one.file_id → Agrees after (opens ++ one ∷ []) → AreKept (opens ++ one ∷ []) after one.file_id
kept_opened opens one summaries after last kept is agree = record {
  agree = agree;
  numbered = λ other a. ⊎_elim
      (λ before. let low = kept.numbered other before in omega (arith, low, is))
      (λ behind. ⊎_elim (λ same. let e = ap (λ (o : Open). o.file_id) same in omega (arith, e)) (λ never. absurd never) behind)
      (among_append other opens (one ∷ []) a);
}

-- ---- opens that are connected or disconnected

pub kept_mapped : (opens : List Open) (change : Open → Open) (summaries : Summaries) (last : ℕ) → AreKept opens summaries last
    → KeepsCounted change → ((one : Open) → (change one).file_id ≡ one.file_id) → AreKept (map change opens) summaries last
kept_mapped opens change summaries last kept keeps same = record {
  agree = agrees_mapped summaries change opens keeps kept.agree;
  numbered = λ one a.
      let was = among_map change one opens a in
      let low = kept.numbered was.0 was.1 in
      let e = ap (λ (o : Open). o.file_id) was.2 ∙ same was.0 in
      omega (arith, low, e);
}

disconnect_more : (ids : List ℕ) (id : ℕ) (one : Open)
    → disconnected_at id (disconnected_where (is_one_of ids) one) ≡ disconnected_where (is_one_of (ids ++ id ∷ [])) one
disconnect_more ids id one =
    let more = one_more ids id one in
    either (is_one_of ids one)
    (λ t. either (has_id id one) (λ h. rw (more, t, h) refl) (λ h. rw (more, t, h) refl))
    (λ t. either (has_id id one) (λ h. rw (more, t, h) refl) (λ h. rw (more, t, h) refl))

pub disconnected_more : (ids : List ℕ) (id : ℕ) (opens : List Open)
    → map (disconnected_at id) (map (disconnected_where (is_one_of ids)) opens)
    ≡ map (disconnected_where (is_one_of (ids ++ id ∷ []))) opens
disconnected_more ids id [] = refl
disconnected_more ids id (one ∷ opens) = rw (disconnect_more ids id one, disconnected_more ids id opens) refl

pub disconnected_none : (opens : List Open) → opens ≡ map (disconnected_where (is_one_of [])) opens
disconnected_none [] = refl
disconnected_none (one ∷ opens) = ap (λ x. one ∷ x) (disconnected_none opens)

pub same_id_where : (test : Open → Bool) (b : Bool) (one : Open)
    → (if test one then record one { connected = b } else one).file_id ≡ one.file_id
same_id_where test b one = either (test one) (λ t. rw t refl) (λ t. rw t refl)

pub kept_raised : (opens : List Open) (summaries : Summaries) (last next : ℕ) → AreKept opens summaries last → last ≤ next
    → AreKept opens summaries next
kept_raised opens summaries last next kept less = record {
  agree = kept.agree;
  numbered = λ one a. let low = kept.numbered one a in omega (arith, low, less);
}

-- where no lease is breaking, no open of one that is waits for its client
pub unbroken_settled : (known : Bool) (opens : List Open) (summaries : Summaries)
    → ((key : Key) → is_breaking (lease_at (listed summaries) key) ≡ false) → AreSettled known opens (lease_in summaries)
unbroken_settled known opens summaries none = λ yes key breaks.
    clash (is_breaking (lease_in summaries key)) breaks (ap is_breaking (sym (listed_lease summaries key)) ∙ none key)

-- ---- looks at the open of a FileId

pub found_so : (n : ℕ) (test : Open → Bool) (opens : List Open) (one : Open)
    → ((other : Open) → test other ≡ true → has_id n other ≡ true) → AreInOrder opens
    → Some one ≡ find (has_id n) opens → test one ≡ true → Some one ≡ find test opens
found_so n test opens one only order found is = sym (find_one n test opens only order ∙ (ap (pick test) (sym found) ∙ rw is refl))

pub found_not : (n : ℕ) (test : Open → Bool) (opens : List Open) (one : Open)
    → ((other : Open) → test other ≡ true → has_id n other ≡ true) → AreInOrder opens
    → Some one ≡ find (has_id n) opens → test one ≡ false → None ≡ find test opens
found_not n test opens one only order found is =
    sym (find_one n test opens only order ∙ (ap (pick test) (sym found) ∙ rw is refl))

pub found_none : (n : ℕ) (test : Open → Bool) (opens : List Open)
    → ((other : Open) → test other ≡ true → has_id n other ≡ true) → AreInOrder opens
    → None ≡ find (has_id n) opens → None ≡ find test opens
found_none n test opens only order found = sym (find_one n test opens only order ∙ ap (pick test) (sym found))

pub any_so : (n : ℕ) (test : Open → Bool) (opens : List Open) (one : Open)
    → ((other : Open) → test other ≡ true → has_id n other ≡ true) → AreInOrder opens
    → Some one ≡ find (has_id n) opens → test one ≡ list_any test opens
any_so n test opens one only order found = sym (any_one n test opens only order ∙ ap (check test) (sym found))

pub any_none : (n : ℕ) (test : Open → Bool) (opens : List Open)
    → ((other : Open) → test other ≡ true → has_id n other ≡ true) → AreInOrder opens
    → None ≡ find (has_id n) opens → false ≡ list_any test opens
any_none n test opens only order found = sym (any_one n test opens only order ∙ ap (check test) (sym found))

pub connected_only : (client n : ℕ) (one : Open) → is_connected_as client n one ≡ true → has_id n one ≡ true
connected_only client n one is = grind arith

pub left_only : (n : ℕ) (one : Open) → is_left_behind n one ≡ true → has_id n one ≡ true
left_only n one is = (and_parts (has_id n one) (not one.connected) is).0

pub awaits_only : (client file : ℕ) (own : Option Key) (n : ℕ) (one : Open) → awaits client file own n one ≡ true
    → has_id n one ≡ true
awaits_only client file own n one is = grind arith

pub leased_by : (server : Server) (own : Option Key) (key : Key) (file : ℕ) (b : Bool) → own ≡ Some key
    → b ≡ list_any (is_elsewhere key file) server.opens → b ≡ is_leased_elsewhere server own file
leased_by server own key file b is e = rw is e

-- ---- steps of loops over FileIds

pub none_taken : (n : ℕ) (opens : List Open) → None ≡ find (has_id n) opens → without (has_id n) opens ≡ opens
none_taken n [] none = refl
none_taken n (one ∷ opens) none = either (has_id n one)
    (λ t. absurd (cc (rw t at none)))
    (λ t. rw t (ap (λ x. one ∷ x) (none_taken n opens (rw t at none))))

pub untaken_agrees : (n : ℕ) (opens left : List Open) (summaries : Summaries) → None ≡ find (has_id n) opens
    → left ≡ without (has_id n) opens → Agrees summaries opens → Agrees summaries left
untaken_agrees n opens left summaries none is agree = subst (Agrees summaries) (sym (is ∙ none_taken n opens none)) agree

pub one_more_last : (one : Open) (opens : List Open) → IsOneMore one opens (opens ++ one ∷ [])
one_more_last one opens = record {
  before = opens;
  behind = [];
  is_less = sym (append-nil opens);
  is_more = refl;
}

pub short_more : (opens : List Open) (one : Open) (n : ℕ) → n ≡ length opens → n < 2 ^ 63 → length (opens ++ one ∷ []) < 2 ^ 64
short_more opens one n is small =
    let e = length-append opens (one ∷ []) in
    omega (arith, e, is, small)

pub opened_now : (opens now : List Open) (one : Open) (summaries after : Summaries) (last : ℕ) → AreKept opens summaries last
    → last < one.file_id → now ≡ opens ++ one ∷ [] → Agrees after now → AreKept now after one.file_id
opened_now opens now one summaries after last kept is same agree = subst (λ xs. AreKept xs after one.file_id) (sym same)
    (kept_opened opens one summaries after last kept is (subst (Agrees after) same agree))

-- ---- the one open that may be closed

abbrev picked : (Open → Bool) → Option Open → List Open
picked test None = []
picked test (Some one) = if test one then one ∷ [] else []

filter_none : (test : Open → Bool) (opens : List Open) → list_any test opens ≡ false → filter test opens ≡ []
filter_none test [] none = refl
filter_none test (one ∷ opens) none = either (test one)
    (λ t. absurd (cc (rw t at none)))
    (λ t. rw t (filter_none test opens (rw t at none)))

filter_one : (n : ℕ) (test : Open → Bool) (opens : List Open)
    → ((one : Open) → test one ≡ true → has_id n one ≡ true) → AreInOrder opens
    → filter test opens ≡ picked test (find (has_id n) opens)
filter_one n test [] only order = refl
filter_one n test (one ∷ opens) only order = either (has_id n one)
    (λ its.
    let is = (Decides-eqb one.file_id n).0 its in
    let none = none_above n test opens only (λ other a. apart_behind n one other is (order.0 other a)) in
    rw (its, filter_none test opens none) refl)
    (λ its.
    let here = not_true (test one) (λ t. clash (has_id n one) (only one t) its) in
    rw (its, here) (filter_one n test opens only order.1))

picked_so : (test : Open → Bool) (one : Open) → test one ≡ true → picked test (Some one) ≡ one ∷ []
picked_so test one is = rw is refl

picked_not : (test : Open → Bool) (one : Open) → test one ≡ false → picked test (Some one) ≡ []
picked_not test one is = rw is refl

pub ids_picked : (n : ℕ) (test : Open → Bool) (opens : List Open) (one : Open)
    → ((other : Open) → test other ≡ true → has_id n other ≡ true) → AreInOrder opens
    → Some one ≡ find (has_id n) opens → test one ≡ true → n ∷ [] ≡ map (λ o. o.file_id) (filter test opens)
ids_picked n test opens one only order found is =
    let chosen_one : filter test opens ≡ one ∷ [] =
    filter_one n test opens only order ∙ (ap (picked test) (sym found) ∙ picked_so test one is) in
    sym (ap (map (λ (o : Open). o.file_id)) chosen_one ∙ ap (λ m. m ∷ []) ((Decides-eqb one.file_id n).0 (only one is)))

pub ids_unpicked : (n : ℕ) (test : Open → Bool) (opens : List Open) (one : Open)
    → ((other : Open) → test other ≡ true → has_id n other ≡ true) → AreInOrder opens
    → Some one ≡ find (has_id n) opens → test one ≡ false → [] ≡ map (λ o. o.file_id) (filter test opens)
ids_unpicked n test opens one only order found is =
    let chosen_none : filter test opens ≡ [] =
    filter_one n test opens only order ∙ (ap (picked test) (sym found) ∙ picked_not test one is) in
    sym (ap (map (λ (o : Open). o.file_id)) chosen_none)

pub ids_none : (n : ℕ) (test : Open → Bool) (opens : List Open)
    → ((other : Open) → test other ≡ true → has_id n other ≡ true) → AreInOrder opens
    → None ≡ find (has_id n) opens → [] ≡ map (λ o. o.file_id) (filter test opens)
ids_none n test opens only order found =
    sym (ap (map (λ o. o.file_id)) (filter_one n test opens only order ∙ ap (picked test) (sym found)))
