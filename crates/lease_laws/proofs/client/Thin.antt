-- Lists of unanswered writes: with some of them gone, or one more, they keep their own numbers.
use Rattle.lease_laws.proofs.Words.{◌&&◌, ◌++◌, ◌+◌, ◌<◌, ◌==◌, ◌||◌, ◌∙◌, ◌∷◌, ◌≡◌, ◌≢◌, ◌≤◌, ◌⊎◌, Bool, HaveOwnNumbers, List}
use Rattle.lease_laws.proofs.Words.{Pending, ℕ, ⊎_elim, [], are_rising, arith, eq-eqb, eqb-true, false, filter, has_number, inl}
use Rattle.lease_laws.proofs.Words.{inr, is_numbered, list_any-append, nat_le, nat_lt, put, refl, sent_without, subst, sym, true}
use Rattle.lease_laws.proofs.server.Lists.{if_cases, either, clash, and_parts, and_both, or_true, not_true}

-- ---- words on tests and tables

-- where none of two tests is true, both are false
or_false : (a b : Bool) → (a || b) ≡ false → (a ≡ false) × (b ≡ false)
or_false a b e = grind arith

-- and the other way round
neither : (a b : Bool) → a ≡ false → b ≡ false → (a || b) ≡ false
neither a b e f = rw (e, f) refl

-- numbers that test as different are
apart_test : (a b : ℕ) → (a == b) ≡ false → a ≢ b
apart_test a b e same = clash (a == b) (eq-eqb a b same) e

-- and different ones test so
test_apart : (a b : ℕ) → a ≢ b → (a == b) ≡ false
test_apart a b ne = not_true (a == b) (λ e. absurd (ne (eqb-true a b e)))

-- what holds of each place of a table holds with a value put in for which it holds at its place
pub put_at : {X : Type 0} (P : ℕ → X → Type 0) (table : ℕ → X) (place : ℕ) (x : X) → P place x
    → ((n : ℕ) → P n (table n)) → (n : ℕ) → P n (put table place x n)
unfolding put
put_at P table place x here old n = grind arith

-- at its place stands the value that was put in
pub put_same : {X : Type 0} (table : ℕ → X) (place : ℕ) (x : X) → put table place x place ≡ x
unfolding put
put_same table place x = rw (eq-eqb place place refl) refl

-- elsewhere stands what stood there
pub put_other : {X : Type 0} (table : ℕ → X) (place : ℕ) (x : X) (n : ℕ) → n ≢ place → put table place x n ≡ table n
unfolding put
put_other table place x n ne = rw (test_apart n place ne) refl

-- ---- rising numbers

-- numbers above a bound are above a lower one
low_down : (low lower last : ℕ) (xs : List Pending) → lower ≤ low → are_rising low last xs ≡ true
    → are_rising lower last xs ≡ true
low_down low lower last [] le e = refl
low_down low lower last (x ∷ xs) le e =
    let parts = and_parts (nat_lt low x.number && nat_le x.number last) (are_rising x.number last xs) e in
    and_both (nat_lt lower x.number && nat_le x.number last) (are_rising x.number last xs)
    (lower_first low lower x.number (nat_le x.number last) le parts.0) parts.1
  where
    lower_first : (a b c : ℕ) (d : Bool) → b ≤ a → (nat_lt a c && d) ≡ true → (nat_lt b c && d) ≡ true
    lower_first a b c d le e = grind arith

-- numbers up to a last one are up to the next
pub last_up : (low last : ℕ) (xs : List Pending) → are_rising low last xs ≡ true → are_rising low (last + 1) xs ≡ true
last_up low last [] e = refl
last_up low last (x ∷ xs) e =
    let parts = and_parts (nat_lt low x.number && nat_le x.number last) (are_rising x.number last xs) e in
    and_both (nat_lt low x.number && nat_le x.number (last + 1)) (are_rising x.number (last + 1) xs)
    (higher_last low x.number last parts.0) (last_up x.number last xs parts.1)
  where
    higher_last : (a b c : ℕ) → (nat_lt a b && nat_le b c) ≡ true → (nat_lt a b && nat_le b (c + 1)) ≡ true
    higher_last a b c e = grind arith

-- one more, with the next number
one_more : (low last : ℕ) (xs : List Pending) (write : Pending) → low ≤ last → write.number ≡ last + 1
    → are_rising low last xs ≡ true → are_rising low (last + 1) (xs ++ write ∷ []) ≡ true
one_more low last [] write le is e = only low last write.number le is
  where
    only : (a b c : ℕ) → a ≤ b → c ≡ b + 1 → (nat_lt a c && nat_le c (b + 1) && true) ≡ true
    only a b c le e = grind arith
one_more low last (x ∷ xs) write le is e =
    let parts = and_parts (nat_lt low x.number && nat_le x.number last) (are_rising x.number last xs) e in
    and_both (nat_lt low x.number && nat_le x.number (last + 1)) (are_rising x.number (last + 1) (xs ++ write ∷ []))
    (higher_last low x.number last parts.0) (one_more x.number last xs write (at_most low x.number last parts.0) is parts.1)
  where
    higher_last : (a b c : ℕ) → (nat_lt a b && nat_le b c) ≡ true → (nat_lt a b && nat_le b (c + 1)) ≡ true
    higher_last a b c e = grind arith

    at_most : (a b c : ℕ) → (nat_lt a b && nat_le b c) ≡ true → b ≤ c
    at_most a b c e = grind arith

-- no number is past the last
pub beyond : (low last number : ℕ) (xs : List Pending) → last < number → are_rising low last xs ≡ true
    → has_number number xs ≡ false
beyond low last number [] lt e = refl
beyond low last number (x ∷ xs) lt e =
    let parts = and_parts (nat_lt low x.number && nat_le x.number last) (are_rising x.number last xs) e in
    neither (x.number == number) (has_number number xs)
    (another low x.number last number lt parts.0) (beyond x.number last number xs lt parts.1)
  where
    another : (a b c d : ℕ) → c < d → (nat_lt a b && nat_le b c) ≡ true → (b == d) ≡ false
    another a b c d lt e = grind arith

-- a number of the list with one more is of the list or of that one
number_of : (number : ℕ) (xs : List Pending) (write : Pending) → has_number number (xs ++ write ∷ []) ≡ true
    → (has_number number xs ≡ true) ⊎ (write.number ≡ number)
number_of number xs write e = ⊎_elim (λ before. inl before)
    (λ last. ⊎_elim (λ same. inr (eqb-true write.number number same)) (λ never. clash false never refl)
    (or_true (write.number == number) false last)) (or_true (has_number number xs) (has_number number (write ∷ []))
    (sym (list_any-append (is_numbered number) xs (write ∷ [])) ∙ e))

-- a number that neither the list nor the new write has
number_none : (number : ℕ) (xs : List Pending) (write : Pending) → has_number number xs ≡ false
    → write.number ≢ number → has_number number (xs ++ write ∷ []) ≡ false
number_none number xs write none ne = list_any-append (is_numbered number) xs (write ∷ [])
    ∙ neither (has_number number xs) (has_number number (write ∷ [])) none
    (neither (write.number == number) false (test_apart write.number number ne) refl)

-- ---- fewer writes

-- writes some of which are gone, in their order
pub record IsThinner (new : List Pending) (old : List Pending) : Type 0 where
  pub rising : (low last : ℕ) → are_rising low last old ≡ true → are_rising low last new ≡ true
  pub none : (number : ℕ) → has_number number old ≡ false → has_number number new ≡ false

-- none is gone
pub thin_same : (xs : List Pending) → IsThinner xs xs
thin_same xs = record { rising = λ low last e. e; none = λ number e. e }

pub thin_equal : (new old : List Pending) → new ≡ old → IsThinner new old
thin_equal new old e = subst (λ (l : List Pending). IsThinner l old) (sym e) (thin_same old)

-- all are gone
pub thin_none : (xs : List Pending) → IsThinner [] xs
thin_none xs = record { rising = λ low last e. refl; none = λ number e. refl }

-- some are gone, and then some more
pub thin_then : (new middle old : List Pending) → IsThinner new middle → IsThinner middle old → IsThinner new old
thin_then new middle old n o = grind arith

-- some behind the first are gone
thin_cons : (x : Pending) (new old : List Pending) → IsThinner new old → IsThinner (x ∷ new) (x ∷ old)
thin_cons x new old t = grind arith

-- the first is gone
thin_skip : (x : Pending) (new old : List Pending) → IsThinner new old → IsThinner new (x ∷ old)
thin_skip x new old t = record {
  rising = λ low last e.
      let parts = and_parts (nat_lt low x.number && nat_le x.number last) (are_rising x.number last old) e in
      low_down x.number low last new (below low x.number (nat_le x.number last) parts.0) (t.rising x.number last parts.1);
  none = λ number e. t.none number (or_false (x.number == number) (has_number number old) e).1;
}
  where
    below : (a b : ℕ) (c : Bool) → (nat_lt a b && c) ≡ true → a ≤ b
    below a b c e = grind arith

-- some of those behind are gone
pub thin_after : (xs new old : List Pending) → IsThinner new old → IsThinner (xs ++ new) (xs ++ old)
thin_after [] new old t = t
thin_after (x ∷ xs) new old t = thin_cons x (xs ++ new) (xs ++ old) (thin_after xs new old t)

-- without those that stand behind
pub thin_front : (xs ys : List Pending) → IsThinner xs (xs ++ ys)
thin_front [] ys = thin_none ys
thin_front (x ∷ xs) ys = thin_cons x xs (xs ++ ys) (thin_front xs ys)

-- without those that stand before
pub thin_behind : (xs ys : List Pending) → IsThinner ys (xs ++ ys)
thin_behind [] ys = thin_same ys
thin_behind (x ∷ xs) ys = thin_skip x ys (xs ++ ys) (thin_behind xs ys)

-- without the first write of a number
pub thin_without : (number : ℕ) (xs ys : List Pending) → IsThinner (sent_without number xs ++ ys) (xs ++ ys)
unfolding sent_without
thin_without number [] ys = thin_same ys
thin_without number (x ∷ xs) ys =
    if_cases (λ (l : List Pending). IsThinner (l ++ ys) (x ∷ xs ++ ys)) (x.number == number) xs (x ∷ sent_without number xs)
    (λ e. thin_skip x (xs ++ ys) (xs ++ ys) (thin_same (xs ++ ys)))
    (λ e. thin_cons x (sent_without number xs ++ ys) (xs ++ ys) (thin_without number xs ys))

-- those that fail a test are gone
pub thin_filter : (test : Pending → Bool) (xs : List Pending) → IsThinner (filter test xs) xs
thin_filter test [] = thin_same []
thin_filter test (x ∷ xs) = if_cases (λ (l : List Pending). IsThinner l (x ∷ xs)) (test x) (x ∷ filter test xs) (filter test xs)
    (λ e. thin_cons x (filter test xs) xs (thin_filter test xs))
    (λ e. thin_skip x (filter test xs) xs (thin_filter test xs))

-- ---- the writes of all files

-- where writes are gone, those that are left have their own numbers
pub thin_table : (last : ℕ) (old new : ℕ → List Pending) → ((file : ℕ) → IsThinner (new file) (old file))
    → HaveOwnNumbers last old → HaveOwnNumbers last new
thin_table last old new thin own = grind arith

-- where one file has one more write, with the next number, all have their own numbers
pub grown_table : (last place : ℕ) (write : Pending) (old new : ℕ → List Pending) → write.number ≡ last + 1
    → new place ≡ old place ++ write ∷ [] → ((file : ℕ) → file ≢ place → new file ≡ old file)
    → HaveOwnNumbers last old → HaveOwnNumbers (last + 1) new
grown_table last place write old new is here there own = record {
  rising = λ file. either (file == place)
      (λ e. subst (λ (n : ℕ). are_rising 0 (last + 1) (new n) ≡ true) (sym (eqb-true file place e))
      (subst (λ (l : List Pending). are_rising 0 (last + 1) l ≡ true) (sym here)
      (one_more 0 last (old place) write (omega arith) is (own.rising place))))
      (λ e. subst (λ (l : List Pending). are_rising 0 (last + 1) l ≡ true) (sym (there file (apart_test file place e)))
      (last_up 0 last (old file) (own.rising file)));
  apart = λ file other number ne h. either (file == place)
      (λ e. let same : file ≡ place = eqb-true file place e in
      let others : other ≢ place = λ o. ne (same ∙ sym o) in
      subst (λ (l : List Pending). has_number number l ≡ false) (sym (there other others)) (new_and_other other number others
      (subst (λ (l : List Pending). has_number number l ≡ true) here
      (subst (λ (n : ℕ). has_number number (new n) ≡ true) same h))))
      (λ e. let elsewhere : file ≢ place = apart_test file place e in
      let was : has_number number (old file) ≡ true =
      subst (λ (l : List Pending). has_number number l ≡ true) (there file elsewhere) h in
      either (other == place)
      (λ o. let same : other ≡ place = eqb-true other place o in
      subst (λ (n : ℕ). has_number number (new n) ≡ false) (sym same)
      (subst (λ (l : List Pending). has_number number l ≡ false) (sym here)
      (number_none number (old place) write (own.apart file place number elsewhere was) (not_new file number was))))
      (λ o. subst (λ (l : List Pending). has_number number l ≡ false) (sym (there other (apart_test other place o)))
      (own.apart file other number ne was)));
}
  where
    none_past : (file number : ℕ) → write.number ≡ number → has_number number (old file) ≡ false
    none_past file number e = beyond 0 last number (old file) (omega (arith, e, is)) (own.rising file)

    not_new : (file number : ℕ) → has_number number (old file) ≡ true → write.number ≢ number
    not_new file number was e = clash (has_number number (old file)) was (none_past file number e)

    new_and_other : (other number : ℕ) → other ≢ place → has_number number (old place ++ write ∷ []) ≡ true
        → has_number number (old other) ≡ false
    new_and_other other number ne h = ⊎_elim
        (λ before. own.apart place other number (λ e. ne (sym e)) before)
        (λ e. none_past other number e) (number_of number (old place) write h)
