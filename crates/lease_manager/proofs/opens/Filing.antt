-- Opens in a map by their FileIds, as the list of the opens.
use Rattle.lease_laws.proofs.Words.{◌++◌, ◌<◌, ◌==◌, ◌∙◌, ◌∷◌, ◌≡◌, Among, AreInOrder, Bool, Decides-eqb, FileId, IfSome, Less}
use Rattle.lease_laws.proofs.Words.{List, None, Open, Option, Some, ℕ, [], ap, arith, false, find, if◌then◌else◌, inl, inr, is_at}
use Rattle.lease_laws.proofs.Words.{is_eq, map, nat_cmp, nat_tests, refl, subst, sym, true, values_of, without}
use Rattle.std.specs.BTreeMap.{insert_entry}
use Rattle.std.specs.List.{AllByRecursion}
use Rattle.std.specs.List.Sorted.{IsStrictlySortedBy}
use Rattle.std.specs.Map.{lookup, remove_entry, set_value, keys_of}
use Rattle.std.specs.declared.cmp.Ordering.TheVariants.{Greater}
use Rattle.lease_laws.proofs.server.Lists.{either, find_has}
use Rattle.lease_manager.specs.Filed.{has_id, file_id_order, AreFiled}
use Rattle.lease_manager.specs.Summaries.{IsOneMore}

abbrev pub test_at : ℕ → FileId → Bool
test_at n = is_at (file_id_order (record { 0 = n }))

pub at_id : (n m : ℕ) → is_eq (nat_cmp n m) ≡ (m == n)
at_id n m = grind (arith, nat_tests)

here : (n : ℕ) (id : FileId) (one : Open) → one.file_id ≡ id.0 → test_at n id ≡ has_id n one
here n id one filed = at_id n id.0 ∙ ap (λ m. m == n) (sym filed)

pub find_filed : (n : ℕ) (entries : List (FileId × Open)) → AreFiled entries
    → lookup (test_at n) entries ≡ find (has_id n) (values_of entries)
find_filed n [] filed = refl
find_filed n (e ∷ entries) filed = let later = find_filed n entries filed.1 in grind arith

pub filed_removed : (n : ℕ) (entries : List (FileId × Open)) → AreFiled entries → AreFiled (remove_entry (test_at n) entries)
filed_removed n [] filed = tt
filed_removed n (e ∷ entries) filed = let later = filed_removed n entries filed.1 in grind arith

pub some_same : {x y : Open} → Some x ≡ Some y → x ≡ y
some_same e = cc e

pub one_removed : (n : ℕ) (entries : List (FileId × Open)) (one : Open) → AreFiled entries → lookup (test_at n) entries ≡ Some one
    → IsOneMore one (values_of (remove_entry (test_at n) entries)) (values_of entries)
one_removed n [] one filed found = absurd (cc found)
one_removed n (e ∷ entries) one filed found = either (test_at n e.0)
    (λ at.
    let same : e.1 ≡ one = some_same (rw at at found) in
    record {
      before = [];
      behind = values_of entries;
      is_less = rw at refl;
      is_more = rw same refl;
    })
    (λ at.
    let later = one_removed n entries one filed.1 (rw at at found) in
    record {
      before = e.1 ∷ later.before;
      behind = later.behind;
      is_less = rw at (ap (λ x. e.1 ∷ x) later.is_less);
      is_more = ap (λ x. e.1 ∷ x) later.is_more;
    })

-- ---- order

pub none_behind : (n : ℕ) (opens : List Open) → ((other : Open) → Among other opens → n < other.file_id)
    → without (has_id n) opens ≡ opens
none_behind n [] above = refl
none_behind n (one ∷ opens) above =
    let apart : has_id n one ≡ false = not_same n one.file_id (above one (inl refl)) in
    rw (apart, none_behind n opens (λ other a. above other (inr a))) refl
  where
    not_same : (n m : ℕ) → n < m → (m == n) ≡ false
    not_same n m less = grind (arith, nat_tests, less)

pub left_removed : (n : ℕ) (entries : List (FileId × Open)) → AreFiled entries → AreInOrder (values_of entries)
    → values_of (remove_entry (test_at n) entries) ≡ without (has_id n) (values_of entries)
left_removed n [] filed order = refl
left_removed n (e ∷ entries) filed order = either (test_at n e.0)
    (λ at.
    let is : has_id n e.1 ≡ true = sym (here n e.0 e.1 filed.0) ∙ at in
    let same = (Decides-eqb e.1.file_id n).0 is in
    rw (at, is) (sym (none_behind n (values_of entries) (λ other a. subst (λ m. m < other.file_id) same (order.0 other a)))))
    (λ at.
    let is : has_id n e.1 ≡ false = sym (here n e.0 e.1 filed.0) ∙ at in
    rw (at, is) (ap (λ x. e.1 ∷ x) (left_removed n entries filed.1 order.1)))

above_all : (n : ℕ) (entries : List (FileId × Open)) → AreFiled entries
    → AllByRecursion (λ y. file_id_order (record { 0 = n }) y ≡ Less) (keys_of entries)
    → (other : Open) → Among other (values_of entries) → n < other.file_id
above_all n [] filed less other among = absurd among
above_all n ((id, one) ∷ entries) filed less other (inl same) = grind arith
above_all n (e ∷ entries) filed less other (inr among) = above_all n entries filed.1 less.1 other among

pub in_order : (entries : List (FileId × Open)) → AreFiled entries → IsStrictlySortedBy file_id_order (keys_of entries)
    → AreInOrder (values_of entries)
unfolding IsStrictlySortedBy
in_order [] filed sorted = tt
in_order ((id, one) ∷ entries) filed sorted = (
  λ other a. subst (λ m. m < other.file_id) (sym filed.0) (above_all id.0 entries filed.1 sorted.0 other a),
  in_order entries filed.1 sorted.1,
)

-- ---- one more, the last

pub greater : (n m : ℕ) → m < n → nat_cmp n m ≡ Greater
greater n m less = grind (arith, nat_tests, less)

pub inserted_last : (n : ℕ) (one : Open) (entries : List (FileId × Open)) → AreFiled entries
    → ((other : Open) → Among other (values_of entries) → other.file_id < n)
    → insert_entry file_id_order entries (record { 0 = n }) one ≡ entries ++ (record { 0 = n }, one) ∷ []
inserted_last n one [] filed below = refl
inserted_last n one ((id, other) ∷ entries) filed below = rw (
  greater n id.0 (subst (λ m. m < n) filed.0 (below other (inl refl))),
  inserted_last n one entries filed.1 (λ other a. below other (inr a)),
) refl

pub filed_last : (n : ℕ) (one : Open) (entries : List (FileId × Open)) → AreFiled entries → one.file_id ≡ n
    → AreFiled (entries ++ (record { 0 = n }, one) ∷ [])
filed_last n one [] filed is = (is, tt)
filed_last n one (e ∷ entries) filed is = (filed.0, filed_last n one entries filed.1 is)

pub values_last : (n : ℕ) (one : Open) (entries : List (FileId × Open))
    → values_of (entries ++ (record { 0 = n }, one) ∷ []) ≡ values_of entries ++ one ∷ []
values_last n one [] = refl
values_last n one (e ∷ entries) = rw (values_last n one entries) refl

-- ---- one changed in its place

-- the open of a FileId is another one
abbrev changed_at : ℕ → (Open → Open) → Open → Open
changed_at n change one = if has_id n one then change one else one

pub none_changed : (n : ℕ) (change : Open → Open) (opens : List Open)
    → ((other : Open) → Among other opens → n < other.file_id) → map (changed_at n change) opens ≡ opens
none_changed n change [] above = refl
none_changed n change (one ∷ opens) above =
    let apart : has_id n one ≡ false = not_same n one.file_id (above one (inl refl)) in
    rw (apart, none_changed n change opens (λ other a. above other (inr a))) refl
  where
    not_same : (n m : ℕ) → n < m → (m == n) ≡ false
    not_same n m less = grind (arith, nat_tests, less)

pub filed_set : (n : ℕ) (change : Open → Open) (entries : List (FileId × Open)) (one : Open)
    → ((o : Open) → (change o).file_id ≡ o.file_id) → AreFiled entries
    → lookup (test_at n) entries ≡ Some one → AreFiled (set_value (test_at n) entries (change one))
filed_set n change [] one same filed found = tt
filed_set n change (e ∷ entries) one same filed found = either (test_at n e.0)
    (λ at.
    let is : e.1 ≡ one = some_same (rw at at found) in
    rw at (same one ∙ (ap (λ (o : Open). o.file_id) (sym is) ∙ filed.0), filed.1))
    (λ at. rw at (filed.0, filed_set n change entries one same filed.1 (rw at at found)))

pub values_set : (n : ℕ) (change : Open → Open) (entries : List (FileId × Open)) (one : Open)
    → AreFiled entries → AreInOrder (values_of entries) → lookup (test_at n) entries ≡ Some one
    → values_of (set_value (test_at n) entries (change one)) ≡ map (changed_at n change) (values_of entries)
values_set n change [] one filed order found = refl
values_set n change (e ∷ entries) one filed order found = either (test_at n e.0)
    (λ at.
    let its : has_id n e.1 ≡ true = sym (here n e.0 e.1 filed.0) ∙ at in
    let same = (Decides-eqb e.1.file_id n).0 its in
    let is : e.1 ≡ one = some_same (rw at at found) in
    rw (
      at,
      its,
      none_changed n change (values_of entries) (λ other a. subst (λ m. m < other.file_id) same (order.0 other a)),
      is,
    ) refl)
    (λ at.
    let its : has_id n e.1 ≡ false = sym (here n e.0 e.1 filed.0) ∙ at in
    rw (at, its) (ap (λ x. e.1 ∷ x) (values_set n change entries one filed.1 order.1 (rw at at found))))

pub values_unset : (n : ℕ) (change : Open → Open) (entries : List (FileId × Open))
    → AreFiled entries → lookup (test_at n) entries ≡ None → values_of entries ≡ map (changed_at n change) (values_of entries)
values_unset n change [] filed found = refl
values_unset n change (e ∷ entries) filed found = either (test_at n e.0)
    (λ at. absurd (cc (rw at at found)))
    (λ at.
    let its : has_id n e.1 ≡ false = sym (here n e.0 e.1 filed.0) ∙ at in
    rw its (ap (λ x. e.1 ∷ x) (values_unset n change entries filed.1 (rw at at found))))

pub one_less : (n : ℕ) (entries : List (FileId × Open)) (found : Option Open) → AreFiled entries
    → found ≡ lookup (test_at n) entries
    → IfSome found (λ one. IsOneMore one (values_of (remove_entry (test_at n) entries)) (values_of entries))
one_less n entries None filed is = tt
one_less n entries (Some one) filed is = one_removed n entries one filed (sym is)

set_so : (n : ℕ) (change : Open → Open) (old new : List (FileId × Open)) (one written : Open)
    → written ≡ change one → new ≡ set_value (test_at n) old written → new ≡ set_value (test_at n) old (change one)
set_so n change old new one written is now = now ∙ ap (λ o. set_value (test_at n) old o) is

pub filed_written : (n : ℕ) (change : Open → Open) (old new : List (FileId × Open)) (one written : Open)
    → ((o : Open) → (change o).file_id ≡ o.file_id) → AreFiled old
    → lookup (test_at n) old ≡ Some one → written ≡ change one → new ≡ set_value (test_at n) old written
    → IsStrictlySortedBy file_id_order (keys_of new) → AreFiled new × AreInOrder (values_of new)
filed_written n change old new one written same filed found is now sorted =
    let f : AreFiled new = rw (set_so n change old new one written is now) (filed_set n change old one same filed found) in
    (f, in_order new f sorted)

pub values_written : (n : ℕ) (change : Open → Open) (old new : List (FileId × Open)) (one written : Open)
    → AreFiled old → AreInOrder (values_of old)
    → lookup (test_at n) old ≡ Some one → written ≡ change one → new ≡ set_value (test_at n) old written
    → values_of new ≡ map (λ o. if has_id n o then change o else o) (values_of old)
values_written n change old new one written filed order found is now =
    ap values_of (set_so n change old new one written is now) ∙ values_set n change old one filed order found

-- what holds at an open's own FileId holds at that by which it was found
pub by_its_id : (P : ℕ → Type 0) (n : ℕ) (opens : List Open) (one : Open) → find (has_id n) opens ≡ Some one
    → (find (has_id one.file_id) opens ≡ Some one → P one.file_id) → P n
by_its_id P n opens one found holds =
    let same : one.file_id ≡ n = (Decides-eqb one.file_id n).0 (find_has (has_id n) one opens found).1 in
    subst P same (holds (subst (λ m. find (has_id m) opens ≡ Some one) (sym same) found))

-- the map with one open more, the last
pub filed_more : (n : ℕ) (one : Open) (old new : List (FileId × Open)) → one.file_id ≡ n → AreFiled old
    → ((other : Open) → Among other (values_of old) → other.file_id < one.file_id)
    → new ≡ insert_entry file_id_order old (record { 0 = n }) one → IsStrictlySortedBy file_id_order (keys_of new)
    → AreFiled new × AreInOrder (values_of new) × (values_of new ≡ values_of old ++ one ∷ [])
filed_more n one old new is filed last put sorted =
    let at_end = put ∙ inserted_last n one old filed (λ other a. subst (λ m. other.file_id < m) is (last other a)) in
    let now : AreFiled new = rw at_end (filed_last n one old filed is) in
    (now, in_order new now sorted, ap values_of at_end ∙ values_last n one old)
