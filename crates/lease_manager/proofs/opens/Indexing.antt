-- FileIds of opens under keys, as opens come, go, are left and are connected again.
use Rattle.lease_laws.proofs.Words.{◌++◌, ◌<◌, ◌∙◌, ◌∷◌, ◌≡◌, Among, AreInOrder, Bool, Decides-eqb, FileId, Key, List}
use Rattle.lease_laws.proofs.Words.{None, Open, Some, ℕ, [], ap, ap₂, arith, false, filter, find, has_key, if◌then◌else◌, inl}
use Rattle.lease_laws.proofs.Words.{inr, key_of_open, map, nat_cmp, nat_tests, refl, subst, sym, true, without}
use Rattle.std.specs.BTreeMap.{is_at}
use Rattle.std.specs.BTreeSet.{insert_key}
use Rattle.std.specs.Prelude.{Err, Ok, OnErr, Result}
use Rattle.std.specs.Ordering.{is_gt}
use Rattle.std.specs.Set.{remove_key}
use Rattle.std.specs.declared.cmp.Ordering.{Ordering}
use Rattle.lease_laws.proofs.server.Lists.{either, among_filter, find_has}
use Rattle.lease_manager.specs.Filed.{connected_at, file_id_order, has_id}
use Rattle.lease_manager.specs.KeyOrder.{key_order}
use Rattle.lease_manager.specs.LeftOpens.{ids_of, numbers}
use Rattle.lease_manager.specs.OpenIndex.{AreIndexed, IsLast, client_order, is_connected, is_left, owner_order}
use Rattle.lease_manager.specs.declared.values.number.ClientNo.{ClientNo}
use Rattle.lease_manager.specs.declared.values.owner.Owner.{Owner}
use Rattle.lease_manager.proofs.opens.Filing.{greater, none_behind, none_changed, some_same, test_at}
use Rattle.lease_manager.proofs.opens.LeftOpens.{at_head, equal_is, inserted_first, inserted_id, removed_id}
use Rattle.lease_manager.proofs.sums.Ordering.{has_key_own, order_eq-back}

-- the open as it is where its client is there, or isn't
abbrev now : Bool → Open → Open
now connected one = record one { connected = connected }

-- ---- one more open, the last

last_in : (test : Open → Bool) (opens : List Open) (one : Open) → IsLast one opens → test one ≡ true
    → insert_key nat_cmp (ids_of (filter test opens)) one.file_id ≡ ids_of (filter test (opens ++ one ∷ []))
last_in test [] one last passes = rw passes refl
last_in test (x ∷ opens) one last passes =
    let later = last_in test opens one (λ other a. last other (inr a)) passes in
    either (test x)
    (λ t. rw t (rw (greater one.file_id x.file_id (last x (inl refl))) (ap (λ l. x.file_id ∷ l) later)))
    (λ t. rw t later)

last_out : (test : Open → Bool) (opens : List Open) (one : Open) → test one ≡ false
    → filter test (opens ++ one ∷ []) ≡ filter test opens
last_out test [] one fails = rw fails refl
last_out test (x ∷ opens) one fails = ap (λ l. if test x then x ∷ l else l) (last_out test opens one fails)

-- ---- an open goes

filter_without : (n : ℕ) (test : Open → Bool) (opens : List Open)
    → filter test (without (has_id n) opens) ≡ without (has_id n) (filter test opens)
filter_without n test [] = refl
filter_without n test (x ∷ opens) = let later = filter_without n test opens in grind arith

none_passes : (n : ℕ) (test : Open → Bool) (opens : List Open) (one : Open) → AreInOrder opens
    → find (has_id n) opens ≡ Some one → test one ≡ false → without (has_id n) (filter test opens) ≡ filter test opens
none_passes n test [] one order found fails = refl
none_passes n test (x ∷ opens) one order found fails = either (has_id n x)
    (λ its.
    let is : x ≡ one = some_same (rw its at found) in
    let here : test x ≡ false = ap test is ∙ fails in
    let same = (Decides-eqb x.file_id n).0 its in
    rw here (none_behind n (filter test opens)
    (λ other a. subst (λ m. m < other.file_id) same (order.0 other (among_filter test other opens a).0))))
    (λ its.
    let later = none_passes n test opens one order.1 (rw its at found) fails in
    either (test x) (λ t. rw (t, its) (ap (λ l. x ∷ l) later)) (λ t. rw t later))

in_order_filter : (test : Open → Bool) (opens : List Open) → AreInOrder opens → AreInOrder (filter test opens)
in_order_filter test [] order = tt
in_order_filter test (x ∷ opens) order = either (test x)
    (λ t. rw t (
      λ other a. order.0 other (among_filter test other opens a).0,
      in_order_filter test opens order.1,
    ))
    (λ t. rw t (in_order_filter test opens order.1))

-- ---- the client of an open goes, or comes back

rest_unchanged : (n : ℕ) (connected : Bool) (one : Open) (opens : List Open) → one.file_id ≡ n
    → ((other : Open) → Among other opens → one.file_id < other.file_id) → map (connected_at n connected) opens ≡ opens
rest_unchanged n connected one opens is above = none_changed n (now connected) opens
    (λ other a. subst (λ m. m < other.file_id) is (above other a))

turned_in : (n : ℕ) (connected : Bool) (test : Open → Bool) (opens : List Open) (one : Open) → AreInOrder opens
    → find (has_id n) opens ≡ Some one → test (now connected one) ≡ true
    → insert_key nat_cmp (ids_of (filter test opens)) n ≡ ids_of (filter test (map (connected_at n connected) opens))
turned_in n connected test [] one order found passes = absurd (cc found)
turned_in n connected test (x ∷ opens) one order found passes = either (has_id n x)
    (λ at.
    let is : x ≡ one = some_same (rw at at found) in
    let same = (Decides-eqb x.file_id n).0 at in
    let rest = rest_unchanged n connected x opens same order.0 in
    let in_now : test (now connected x) ≡ true = ap (λ o. test (now connected o)) is ∙ passes in
    either (test x)
    (λ t. rw (t, at, rest, in_now, same, equal_is n) refl)
    (λ t. rw (t, at, rest, in_now) (inserted_first n (filter test opens)
    (λ other a. subst (λ m. m < other.file_id) same (order.0 other (among_filter test other opens a).0))
    ∙ ap (λ m. m ∷ ids_of (filter test opens)) (sym same))))
    (λ at.
    let behind = find_has (has_id n) one opens (rw at at found) in
    let later = turned_in n connected test opens one order.1 (rw at at found) passes in
    let above = subst (λ m. x.file_id < m) ((Decides-eqb one.file_id n).0 behind.1) (order.0 one behind.0) in
    either (test x)
    (λ t. rw (t, at, t, greater n x.file_id above) (ap (λ l. x.file_id ∷ l) later))
    (λ t. rw (t, at, t) later))

turned_out : (n : ℕ) (connected : Bool) (test : Open → Bool) (opens : List Open) (one : Open) → AreInOrder opens
    → find (has_id n) opens ≡ Some one → test (now connected one) ≡ false
    → filter test (map (connected_at n connected) opens) ≡ without (has_id n) (filter test opens)
turned_out n connected test [] one order found fails = refl
turned_out n connected test (x ∷ opens) one order found fails = either (has_id n x)
    (λ at.
    let is : x ≡ one = some_same (rw at at found) in
    let same = (Decides-eqb x.file_id n).0 at in
    let rest = rest_unchanged n connected x opens same order.0 in
    let out_now : test (now connected x) ≡ false = ap (λ o. test (now connected o)) is ∙ fails in
    let others : without (has_id n) (filter test opens) ≡ filter test opens = none_behind n (filter test opens)
    (λ other a. subst (λ m. m < other.file_id) same (order.0 other (among_filter test other opens a).0)) in
    either (test x)
    (λ t. rw (t, at, rest, out_now) (sym others))
    (λ t. rw (t, at, rest, out_now) (sym others)))
    (λ at.
    let later = turned_out n connected test opens one order.1 (rw at at found) fails in
    either (test x) (λ t. rw (at, t, at) (ap (λ l. x ∷ l) later)) (λ t. rw (at, t) later))

turned_alike : (n : ℕ) (connected : Bool) (test : Open → Bool) (opens : List Open) (one : Open) → AreInOrder opens
    → find (has_id n) opens ≡ Some one → test (now connected one) ≡ test one
    → ids_of (filter test (map (connected_at n connected) opens)) ≡ ids_of (filter test opens)
turned_alike n connected test [] one order found alike = refl
turned_alike n connected test (x ∷ opens) one order found alike = either (has_id n x)
    (λ at.
    let is : x ≡ one = some_same (rw at at found) in
    let same = (Decides-eqb x.file_id n).0 at in
    let rest = rest_unchanged n connected x opens same order.0 in
    let both : test (now connected x) ≡ test x = ap (λ o. test (now connected o)) is ∙ (alike ∙ ap test (sym is)) in
    either (test x) (λ t. rw (at, rest, both, t) refl) (λ t. rw (at, rest, both, t) refl))
    (λ at.
    let later = turned_alike n connected test opens one order.1 (rw at at found) alike in
    either (test x) (λ t. rw (at, t) (ap (λ l. x.file_id ∷ l) later)) (λ t. rw (at, t) later))

-- ---- the lists of all keys

pub none_indexed : {K : Type 0} (test : K → Open → Bool) (ids : K → List FileId)
    → ((key : K) → ids key ≡ []) → AreIndexed test ids []
none_indexed test ids none = λ key. rw (none key) refl

pub gained : {K : Type 0} (order : K → K → Ordering) (test : K → Open → Bool) (old new : K → List FileId) (key : K)
    (fid : FileId) (opens : List Open) (one : Open) → IsLast one opens → fid.0 ≡ one.file_id
    → ((other : K) → test other one ≡ is_at (order key) other)
    → ((other : K) → new other
    ≡ (if is_at (order key) other then insert_key file_id_order (old other) fid else old other))
    → AreIndexed test old opens → AreIndexed test new (opens ++ one ∷ [])
gained order test old new key fid opens one last is stands changed indexed = λ other. either (is_at (order key) other)
    (λ at. rw (changed other, at) (inserted_id fid (old other)
    ∙ (ap₂ (insert_key nat_cmp) (indexed other) is ∙ last_in (test other) opens one last (stands other ∙ at))))
    (λ at. rw (changed other, at) (indexed other ∙ ap ids_of (sym (last_out (test other) opens one (stands other ∙ at)))))

-- the FileId of the last open is above the first one that is listed
pub above_first : (test : Open → Bool) (first : FileId) (others : List FileId) (fid : FileId) (opens : List Open) (one : Open)
    → IsLast one opens → fid.0 ≡ one.file_id → numbers (first ∷ others) ≡ ids_of (filter test opens)
    → is_gt (file_id_order fid first) ≡ true
above_first test first others fid opens one last is same =
    above_in (filter test opens) same (λ other a. last other (among_filter test other opens a).0)
  where
    above_in : (passed : List Open) → numbers (first ∷ others) ≡ ids_of passed
        → ((other : Open) → Among other passed → other.file_id < one.file_id) → is_gt (file_id_order fid first) ≡ true
    above_in [] same below = absurd (cc same)
    above_in (x ∷ passed) same below =
        let less : first.0 < fid.0 = subst (λ m. m < fid.0) (sym (at_head first others x passed same))
        (subst (λ m. x.file_id < m) (sym is) (below x (inl refl))) in
        ap is_gt (greater fid.0 first.0 less)

pub gained_nowhere : {K : Type 0} (test : K → Open → Bool) (ids : K → List FileId) (opens : List Open)
    (one : Open) → ((other : K) → test other one ≡ false) → AreIndexed test ids opens
    → AreIndexed test ids (opens ++ one ∷ [])
gained_nowhere test ids opens one fails indexed = λ other.
    indexed other ∙ ap ids_of (sym (last_out (test other) opens one (fails other)))

-- the same change, of the open's own FileId
renumbered : {K : Type 0} (order : K → K → Ordering) (old new : K → List FileId) (key other : K) (n m : ℕ) → n ≡ m
    → new other ≡ (if is_at (order key) other then remove_key (test_at n) (old other)
    else old other)
    → new other ≡ (if is_at (order key) other then remove_key (test_at m) (old other)
    else old other)
renumbered order old new key other n m is changed =
    subst (λ k. new other ≡ (if is_at (order key) other then remove_key (test_at k) (old other)
    else old other)) is changed

pub lost : {K : Type 0} (order : K → K → Ordering) (test : K → Open → Bool) (old new : K → List FileId) (key : K)
    (fid : FileId) (opens : List Open) (one : Open) → fid.0 ≡ one.file_id → AreInOrder opens
    → find (has_id one.file_id) opens ≡ Some one
    → ((other : K) → is_at (order key) other ≡ false → test other one ≡ false)
    → ((other : K) → new other
    ≡ (if is_at (order key) other then remove_key (test_at fid.0) (old other) else old other))
    → AreIndexed test old opens → AreIndexed test new (without (has_id one.file_id) opens)
lost order test old new key fid opens one is rises found fails changed indexed = λ other.
    let n = one.file_id in
    let after = renumbered order old new key other fid.0 n is (changed other) in
    either (is_at (order key) other)
    (λ at. rw (after, at) (removed_id n (old other) (filter (test other) opens) (indexed other)
    (in_order_filter (test other) opens rises) ∙ ap ids_of (sym (filter_without n (test other) opens))))
    (λ at. rw (after, at) (indexed other ∙ (ap ids_of (sym (none_passes n (test other) opens one rises found
    (fails other at))) ∙ ap ids_of (sym (filter_without n (test other) opens)))))

pub lost_nowhere : {K : Type 0} (test : K → Open → Bool) (ids : K → List FileId) (n : ℕ)
    (opens : List Open) (one : Open) → AreInOrder opens → find (has_id n) opens ≡ Some one
    → ((other : K) → test other one ≡ false) → AreIndexed test ids opens
    → AreIndexed test ids (without (has_id n) opens)
lost_nowhere test ids n opens one rises found fails indexed = λ other.
    indexed other ∙ (ap ids_of (sym (none_passes n (test other) opens one rises found (fails other)))
    ∙ ap ids_of (sym (filter_without n (test other) opens)))

pub turned_on : {K : Type 0} (order : K → K → Ordering) (test : K → Open → Bool) (old new : K → List FileId) (key : K)
    (fid : FileId) (connected : Bool) (opens : List Open) (one : Open) → fid.0 ≡ one.file_id → AreInOrder opens
    → find (has_id one.file_id) opens ≡ Some one
    → ((other : K) → is_at (order key) other ≡ true → test other (now connected one) ≡ true)
    → ((other : K) → is_at (order key) other ≡ false → test other (now connected one) ≡ test other one)
    → ((other : K) → new other
    ≡ (if is_at (order key) other then insert_key file_id_order (old other) fid else old other))
    → AreIndexed test old opens → AreIndexed test new (map (connected_at one.file_id connected) opens)
turned_on order test old new key fid connected opens one is rises found passes alike changed indexed = λ other.
    either (is_at (order key) other)
    (λ at. rw (changed other, at) (inserted_id fid (old other)
    ∙ (ap₂ (insert_key nat_cmp) (indexed other) is
    ∙ turned_in one.file_id connected (test other) opens one rises found (passes other at))))
    (λ at. rw (changed other, at) (indexed other
    ∙ sym (turned_alike one.file_id connected (test other) opens one rises found (alike other at))))

pub turned_off : {K : Type 0} (order : K → K → Ordering) (test : K → Open → Bool) (old new : K → List FileId) (key : K)
    (fid : FileId) (connected : Bool) (opens : List Open) (one : Open) → fid.0 ≡ one.file_id → AreInOrder opens
    → find (has_id one.file_id) opens ≡ Some one
    → ((other : K) → is_at (order key) other ≡ true → test other (now connected one) ≡ false)
    → ((other : K) → is_at (order key) other ≡ false → test other (now connected one) ≡ test other one)
    → ((other : K) → new other
    ≡ (if is_at (order key) other then remove_key (test_at fid.0) (old other) else old other))
    → AreIndexed test old opens → AreIndexed test new (map (connected_at one.file_id connected) opens)
turned_off order test old new key fid connected opens one is rises found fails alike changed indexed = λ other.
    let n = one.file_id in
    let after = renumbered order old new key other fid.0 n is (changed other) in
    either (is_at (order key) other)
    (λ at. rw (after, at) (removed_id n (old other) (filter (test other) opens) (indexed other)
    (in_order_filter (test other) opens rises)
    ∙ ap ids_of (sym (turned_out n connected (test other) opens one rises found (fails other at)))))
    (λ at. rw (after, at) (indexed other
    ∙ sym (turned_alike n connected (test other) opens one rises found (alike other at))))

pub turned_nowhere : {K : Type 0} (test : K → Open → Bool) (ids : K → List FileId) (n : ℕ)
    (connected : Bool) (opens : List Open) (one : Open) → AreInOrder opens → find (has_id n) opens ≡ Some one
    → ((other : K) → test other (now connected one) ≡ test other one)
    → AreIndexed test ids opens → AreIndexed test ids (map (connected_at n connected) opens)
turned_nowhere test ids n connected opens one rises found alike indexed = λ other.
    indexed other ∙ sym (turned_alike n connected (test other) opens one rises found (alike other))

-- ---- a refused insertion

pub unchanged : {K : Type 0} (test : K → Open → Bool) (old new : K → List FileId) (opens : List Open)
    → ((key : K) → new key ≡ old key)
    → AreIndexed test old opens → AreIndexed test new opens
unchanged test old new opens same indexed = λ key. ap numbers (same key) ∙ indexed key

pub refused_so : {A E P : Type 0} (result : Result A E) → P → OnErr result P
refused_so (Ok value) p = tt
refused_so (Err error) p = p

-- ---- where an open stands: among those of its client

pub at_client : (client other : ClientNo) (one : Open) → client.0 ≡ one.client → one.connected ≡ true
    → is_connected other one ≡ is_at (client_order client) other
at_client client other one is here = grind (arith, nat_tests, is, here)

pub not_client : (client other : ClientNo) (one : Open) → client.0 ≡ one.client → is_at (client_order client) other ≡ false
    → is_connected other one ≡ false
not_client client other one is apart = grind (arith, nat_tests, is, apart)

pub client_back : (client other : ClientNo) (one : Open) → client.0 ≡ one.client → is_at (client_order client) other ≡ true
    → is_connected other (record one { connected = true }) ≡ true
client_back client other one is at = grind (arith, nat_tests, is, at)

pub client_gone : (other : ClientNo) (one : Open) → is_connected other (record one { connected = false }) ≡ false
client_gone other one = grind (arith, nat_tests)

pub client_alike : (client other : ClientNo) (connected : Bool) (one : Open) → client.0 ≡ one.client
    → is_at (client_order client) other ≡ false
    → is_connected other (record one { connected = connected }) ≡ is_connected other one
client_alike client other connected one is apart = grind (arith, nat_tests, is, apart)

-- ---- among those that wait

pub none_left : (other : Owner) (one : Open) → one.connected ≡ true → is_left other one ≡ false
none_left other one here = grind (arith, nat_tests, here)

pub not_owner : (owner other : Owner) (one : Open) → owner.client.0 ≡ one.client → owner.file.0 ≡ one.file
    → is_at (owner_order owner) other ≡ false → is_left other one ≡ false
not_owner owner other one client file apart = grind (arith, nat_tests, client, file, apart)

pub owner_left : (owner other : Owner) (one : Open) → owner.client.0 ≡ one.client → owner.file.0 ≡ one.file
    → is_at (owner_order owner) other ≡ true → is_left other (record one { connected = false }) ≡ true
owner_left owner other one client file at = grind (arith, nat_tests, client, file, at)

pub owner_back : (other : Owner) (one : Open) → is_left other (record one { connected = true }) ≡ false
owner_back other one = grind (arith, nat_tests)

pub owner_alike : (owner other : Owner) (connected : Bool) (one : Open) → owner.client.0 ≡ one.client → owner.file.0 ≡ one.file
    → is_at (owner_order owner) other ≡ false → is_left other (record one { connected = connected }) ≡ is_left other one
owner_alike owner other connected one client file apart = grind (arith, nat_tests, client, file, apart)

-- ---- among those of its key

pub at_key : (own other : Key) (one : Open) → key_of_open one ≡ Some own → has_key other one ≡ is_at (key_order own) other
at_key own other one is = has_key_own one own other is ∙ sym (order_eq-back own other)

pub not_key : (own other : Key) (one : Open) → key_of_open one ≡ Some own → is_at (key_order own) other ≡ false
    → has_key other one ≡ false
not_key own other one is apart = at_key own other one is ∙ apart

pub no_key : (other : Key) (one : Open) → key_of_open one ≡ None → has_key other one ≡ false
no_key other one none = grind arith
