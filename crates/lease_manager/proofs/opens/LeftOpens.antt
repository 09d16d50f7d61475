-- FileIds of opens, rising, and what is asked of the opens that wait for their clients.
use Rattle.lease_laws.proofs.Words.{◌<◌, ◌==◌, ◌∙◌, ◌∷◌, ◌≡◌, Among, AreInOrder, Bool, Decides-eqb, FileId, Key, Less}
use Rattle.lease_laws.proofs.Words.{List, None, Open, Option, Some, ℕ, [], ap, ap₂, arith, drop, false, filter, find}
use Rattle.lease_laws.proofs.Words.{get_or, has_key, inl, inr, is_key, is_left_open, length, list_any}
use Rattle.lease_laws.proofs.Words.{nat_cmp, nat_tests, option_map, refl, subst, sym, true, true≢false, without}
use Rattle.std.specs.BTreeSet.{insert_key}
use Rattle.std.specs.List.{slice_get}
use Rattle.std.specs.Set.{remove_key}
use Rattle.std.specs.declared.cmp.Ordering.{Ordering}
use Rattle.std.specs.declared.cmp.Ordering.TheVariants.{Equal, Greater}
use Rattle.lease_laws.proofs.server.Lists.{either, none_has, not_true}
use Rattle.lease_manager.proofs.opens.Filing.{test_at, at_id, none_behind}
use Rattle.lease_manager.specs.Filed.{has_id, file_id_order}
use Rattle.lease_manager.specs.LeftOpens.{found_has, has_key_in, ids_of, numbers}
use Rattle.lease_manager.specs.Looks.{is_elsewhere, is_left_by}

-- ---- lists of numbers

pub at_head : (x : FileId) (xs : List FileId) (one : Open) (opens : List Open)
    → numbers (x ∷ xs) ≡ ids_of (one ∷ opens) → x.0 ≡ one.file_id
at_head x xs one opens same = ap (λ l. get_or l 0 0) same

pub behind_head : (x : FileId) (xs : List FileId) (one : Open) (opens : List Open)
    → numbers (x ∷ xs) ≡ ids_of (one ∷ opens) → numbers xs ≡ ids_of opens
behind_head x xs one opens same = ap (λ l. drop 1 l) same

pub removed_id : (n : ℕ) (ids : List FileId) (opens : List Open) → numbers ids ≡ ids_of opens → AreInOrder opens
    → numbers (remove_key (test_at n) ids) ≡ ids_of (without (has_id n) opens)
removed_id n [] [] same order = refl
removed_id n [] (one ∷ opens) same order = absurd (cc same)
removed_id n (x ∷ ids) [] same order = absurd (cc same)
removed_id n (x ∷ ids) (one ∷ opens) same order =
    let first = at_head x ids one opens same in
    let later = behind_head x ids one opens same in
    either (has_id n one)
    (λ its.
    let at : test_at n x ≡ true = at_id n x.0 ∙ (ap (λ m. m == n) first ∙ its) in
    let is = (Decides-eqb one.file_id n).0 its in
    rw (at, its) (later ∙ ap ids_of (sym (none_behind n opens (λ other a. subst (λ m. m < other.file_id) is (order.0 other a))))))
    (λ its.
    let at : test_at n x ≡ false = at_id n x.0 ∙ (ap (λ m. m == n) first ∙ its) in
    rw (at, its) (ap₂ (λ m l. m ∷ l) first (removed_id n ids opens later order.1)))

pub ordered : {P : Type 0} (o : Ordering) → (o ≡ Less → P) → (o ≡ Equal → P) → (o ≡ Greater → P) → P
ordered o less equal more = grind arith

pub inserted_id : (fid : FileId) (ids : List FileId)
    → numbers (insert_key file_id_order ids fid) ≡ insert_key nat_cmp (numbers ids) fid.0
inserted_id fid [] = refl
inserted_id fid (x ∷ ids) = let later = inserted_id fid ids in grind arith

less_is : (n m : ℕ) → n < m → nat_cmp n m ≡ Less
less_is n m less = grind (arith, nat_tests, less)

pub equal_is : (n : ℕ) → nat_cmp n n ≡ Equal
equal_is n = grind (arith, nat_tests)

pub inserted_first : (n : ℕ) (opens : List Open) → ((other : Open) → Among other opens → n < other.file_id)
    → insert_key nat_cmp (ids_of opens) n ≡ n ∷ ids_of opens
inserted_first n [] above = refl
inserted_first n (one ∷ opens) above = rw (less_is n one.file_id (above one (inl refl))) refl

-- ---- what is asked

found_first : (test : Open → Bool) (opens : List Open) → find test opens ≡ slice_get (filter test opens) 0
found_first test [] = refl
found_first test (one ∷ opens) = either (test one) (λ t. rw t refl) (λ t. rw t (found_first test opens))

pub first_waiting : (ids : List FileId) (test : Open → Bool) (opens : List Open) → numbers ids ≡ ids_of (filter test opens)
    → option_map (λ file_id. file_id.0) (slice_get ids 0) ≡ option_map (λ one. one.file_id) (find test opens)
first_waiting ids test opens same = first_mapped ids ∙ (ap (λ l. slice_get l 0) same ∙ (first_open (filter test opens)
    ∙ ap (option_map (λ one. one.file_id)) (sym (found_first test opens))))
  where
    first_mapped : (xs : List FileId) → option_map (λ file_id. file_id.0) (slice_get xs 0) ≡ slice_get (numbers xs) 0
    first_mapped [] = refl
    first_mapped (x ∷ xs) = refl

    first_open : (xs : List Open) → slice_get (ids_of xs) 0 ≡ option_map (λ one. one.file_id) (slice_get xs 0)
    first_open [] = refl
    first_open (x ∷ xs) = refl

pub found_itself : (opens : List Open) (one : Open) → AreInOrder opens → Among one opens → find (has_id one.file_id) opens ≡ Some one
found_itself [] one order among = absurd among
found_itself (x ∷ opens) one order (inl same) = grind arith
found_itself (x ∷ opens) one order (inr among) =
    let its : has_id one.file_id x ≡ false = below x.file_id one.file_id (order.0 one among) in
    rw its (found_itself opens one order.1 among)
  where
    below : (n m : ℕ) → n < m → (n == m) ≡ false
    below n m less = grind (arith, nat_tests, less)

-- of rising FileIds those whose opens pass a test
pub picked_by : (test : Option Open → Bool) (opens : List Open) → AreInOrder opens → (ids : List FileId) (some : List Open)
    → numbers ids ≡ ids_of some → ((one : Open) → Among one some → Among one opens)
    → numbers (filter (λ (fid : FileId). test (find (has_id fid.0) opens)) ids) ≡ ids_of (filter (λ one. test (Some one)) some)
picked_by test opens order [] [] same there = refl
picked_by test opens order [] (one ∷ some) same there = absurd (cc same)
picked_by test opens order (x ∷ ids) [] same there = absurd (cc same)
picked_by test opens order (x ∷ ids) (one ∷ some) same there =
    let first = at_head x ids one some same in
    let found : find (has_id x.0) opens ≡ Some one =
    ap (λ n. find (has_id n) opens) first ∙ found_itself opens one order (there one (inl refl)) in
    let later = picked_by test opens order ids some (behind_head x ids one some same) (λ other a. there other (inr a)) in
    either (test (Some one))
    (λ has. rw (found, has) (ap₂ (λ m l. m ∷ l) first later))
    (λ has. rw (found, has) later)

pub picked_of_key : (key : Key) (opens : List Open) → AreInOrder opens → (ids : List FileId) (some : List Open)
    → numbers ids ≡ ids_of some → ((one : Open) → Among one some → Among one opens)
    → numbers (filter (has_key_in opens key) ids) ≡ ids_of (filter (has_key key) some)
picked_of_key key opens order ids some = picked_by (found_has key) opens order ids some

pub left_of_key : (key : Key) (file : ℕ) (opens : List Open) → list_any (is_elsewhere key file) opens ≡ false
    → filter (has_key key) (filter (is_left_by key.client file) opens) ≡ filter (is_left_open key) opens
left_of_key key file [] home = refl
left_of_key key file (x ∷ opens) home =
    let here : is_elsewhere key file x ≡ false = none_has (is_elsewhere key file) x (x ∷ opens) home (inl refl) in
    let later = left_of_key key file opens (rw here at home) in
    either (is_left_by key.client file x)
    (λ left. either (has_key key x)
    (λ has.
    let both : is_left_open key x ≡ true = grind (arith, nat_tests, has, left) in
    rw (left, both, has) (ap (λ l. x ∷ l) later))
    (λ has. rw (left, has) later))
    (λ left.
    let away : is_left_open key x ≡ false = not_true (is_left_open key x) (λ is. apart key x file here left is) in
    rw (left, away) later)
  where
    of_key : (key : Key) (client : ℕ) (own : Option (List ℕ)) → is_key key client own ≡ true → (client == key.client) ≡ true
    of_key key client own has = grind arith

    of_client : (key : Key) (x : Open) → has_key key x ≡ true → (x.client == key.client) ≡ true
    of_client key x has = of_key key x.client x.lease_key has

    apart : (key : Key) (x : Open) (file : ℕ) → is_elsewhere key file x ≡ false → is_left_by key.client file x ≡ false
        → is_left_open key x ≡ true → ⊥
    apart key x file here left is = grind arith

pub none_of_key : (key : Key) (opens : List Open) → list_any (has_key key) opens ≡ false → filter (is_left_open key) opens ≡ []
none_of_key key [] none = refl
none_of_key key (x ∷ opens) none =
    let here : has_key key x ≡ false = none_has (has_key key) x (x ∷ opens) none (inl refl) in
    rw here (none_of_key key opens (rw here at none))

pub none_first : (ids : List FileId) (test : Open → Bool) (opens : List Open) → (0 < length ids → false ≡ true)
    → numbers ids ≡ ids_of (filter test opens) → None ≡ option_map (λ one. one.file_id) (find test opens)
none_first [] test opens none same = first_waiting [] test opens same
none_first (x ∷ ids) test opens none same = absurd (true≢false (sym (none (omega arith))))
