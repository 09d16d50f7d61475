-- Which writes are left once some are settled, by their numbers.
use Rattle.lease_laws.proofs.Words.{◌&&◌, ◌++◌, ◌<◌, ◌==◌, ◌||◌, ◌∙◌, ◌∷◌, ◌≡◌, ◌≤◌, Among, Bool, List, Note, Pending}
use Rattle.lease_laws.proofs.Words.{Settlement, ℕ, [], ⊎_elim, ap, ap₂, are_rising, arith, eq-eqb, eqb-true, false, filter}
use Rattle.lease_laws.proofs.Words.{has_number, inl, inr, nat_le, nat_lt, not, refl, sent_without, settled_as, sym, true}
use Rattle.lease_laws.proofs.Words.{true≢false, without}
use Rattle.lease_laws.proofs.server.Lists.{and_parts, clash, either, not_true, or_true, true_or}

-- ---- words

pub same_bool : (a b : Bool) → (a ≡ true → b ≡ true) → (b ≡ true → a ≡ true) → a ≡ b
same_bool true true f g = refl
same_bool true false f g = absurd (true≢false (sym (f refl)))
same_bool false true f g = absurd (true≢false (sym (g refl)))
same_bool false false f g = refl

eq_swap : (a b : ℕ) → (a == b) ≡ (b == a)
eq_swap a b = same_bool (a == b) (b == a) (λ e. eq-eqb b a (sym (eqb-true a b e))) (λ e. eq-eqb a b (sym (eqb-true b a e)))

pub or_later : (a b : Bool) → b ≡ true → (a || b) ≡ true
or_later true b e = refl
or_later false b e = e

pub neither : (a b : Bool) → (a || b) ≡ false → (a ≡ false) × (b ≡ false)
neither true b e = absurd (true≢false e)
neither false b e = (refl, e)

pub filter_alike : {X : Type 0} (p q : X → Bool) (xs : List X) → ((x : X) → Among x xs → p x ≡ q x) → filter p xs ≡ filter q xs
filter_alike p q [] same = refl
filter_alike p q (x ∷ xs) same = let rest = filter_alike p q xs (λ y a. same y (inr a)) in
    either (q x) (λ e. rw (same x (inl refl), e) (ap (λ l. x ∷ l) rest)) (λ e. rw (same x (inl refl), e) rest)

pub filter_all : {X : Type 0} (xs : List X) → filter (λ x. true) xs ≡ xs
filter_all [] = refl
filter_all (x ∷ xs) = ap (λ l. x ∷ l) (filter_all xs)

pub filter_same : {X : Type 0} (p : X → Bool) (xs : List X) → ((x : X) → Among x xs → p x ≡ true) → filter p xs ≡ xs
filter_same p xs all = filter_alike p (λ x. true) xs all ∙ filter_all xs

pub filter_none : {X : Type 0} (p : X → Bool) (xs : List X) → ((x : X) → Among x xs → p x ≡ false) → filter p xs ≡ []
filter_none p [] none = refl
filter_none p (x ∷ xs) none = rw (none x (inl refl)) (filter_none p xs (λ y a. none y (inr a)))

pub filter_append : {X : Type 0} (p : X → Bool) (xs ys : List X) → filter p (xs ++ ys) ≡ filter p xs ++ filter p ys
filter_append p [] ys = refl
filter_append p (x ∷ xs) ys = either (p x) (λ e. rw (e) (ap (λ l. x ∷ l) (filter_append p xs ys)))
    (λ e. rw (e) (filter_append p xs ys))

pub filter_again : {X : Type 0} (p q : X → Bool) (xs : List X) → filter p (filter q xs) ≡ filter (λ x. q x && p x) xs
filter_again p q [] = refl
filter_again p q (x ∷ xs) = either (q x)
    (λ e. either (p x) (λ f. rw (e, f) (ap (λ l. x ∷ l) (filter_again p q xs))) (λ f. rw (e, f) (filter_again p q xs)))
    (λ e. rw (e) (filter_again p q xs))

-- ---- numbers

-- a write's number is there
pub number_there : (write : Pending) (pending : List Pending) → Among write pending → has_number write.number pending ≡ true
number_there write [] a = absurd a
number_there write (x ∷ pending) a = ⊎_elim
    (λ same. true_or (x.number == write.number) (has_number write.number pending)
    (eq-eqb x.number write.number (ap (λ (w : Pending). w.number) (sym same))))
    (λ later. or_later (x.number == write.number) _ (number_there write pending later)) a

pub number_append : (number : ℕ) (pending more : List Pending)
    → has_number number (pending ++ more) ≡ (has_number number pending || has_number number more)
number_append number [] more = refl
number_append number (x ∷ pending) more = ap (λ b. x.number == number || b) (number_append number pending more)
    ∙ three (x.number == number) (has_number number pending) (has_number number more)
  where
    three : (a b c : Bool) → (a || (b || c)) ≡ ((a || b) || c)
    three true b c = refl
    three false b c = refl

rising_above : (number low last : ℕ) (pending : List Pending) → number ≤ low → are_rising low last pending ≡ true
    → has_number number pending ≡ false
rising_above number low last [] h e = refl
rising_above number low last (x ∷ pending) h e =
    let p = and_parts (nat_lt low x.number && nat_le x.number last) (are_rising x.number last pending) e in
    let up = (and_parts (nat_lt low x.number) (nat_le x.number last) p.0).0 in
    rw (not_true (x.number == number) (λ same. omega (arith, h, is_above low x.number up, eqb-true x.number number same)))
    (rising_above number x.number last pending (omega (arith, h, is_above low x.number up)) p.1)
  where
    is_above : (a b : ℕ) → nat_lt a b ≡ true → a < b
    is_above a b e = grind arith

-- what follows the first, where numbers rise
pub rising_rest : (x : Pending) (low last : ℕ) (pending : List Pending) → are_rising low last (x ∷ pending) ≡ true
    → (has_number x.number pending ≡ false) × (are_rising x.number last pending ≡ true)
rising_rest x low last pending e =
    let p = and_parts (nat_lt low x.number && nat_le x.number last) (are_rising x.number last pending) e in
    (rising_above x.number x.number last pending (omega arith) p.1, p.1)

-- no write before has the number of one behind
pub parts_apart : (write : Pending) (low last : ℕ) (keep gone : List Pending) → are_rising low last (keep ++ gone) ≡ true
    → Among write keep → has_number write.number gone ≡ false
parts_apart write low last [] gone e a = absurd a
parts_apart write low last (x ∷ keep) gone e a = let r = rising_rest x low last (keep ++ gone) e in
    ⊎_elim
    (λ same. (neither (has_number write.number keep) (has_number write.number gone) (sym (number_append write.number keep gone)
    ∙ ap (λ (w : Pending). has_number w.number (keep ++ gone)) same ∙ r.0)).1)
    (λ later. parts_apart write x.number last keep gone r.1 later) a

-- ---- what notes settle

abbrev pub settles_in : List Note → ℕ → Bool
settles_in [] number = false
settles_in (Note.Settled settled outcome ∷ notes) number = number == settled || settles_in notes number
settles_in (note ∷ notes) number = settles_in notes number

pub settles_append : (notes more : List Note) (number : ℕ)
    → settles_in (notes ++ more) number ≡ (settles_in notes number || settles_in more number)
settles_append [] more number = refl
settles_append (Note.Settled settled outcome ∷ notes) more number =
    ap (λ b. number == settled || b) (settles_append notes more number)
    ∙ three (number == settled) (settles_in notes number) (settles_in more number)
  where
    three : (a b c : Bool) → (a || (b || c)) ≡ ((a || b) || c)
    three true b c = refl
    three false b c = refl
settles_append (Note.Wrote file n patch buffered ∷ notes) more number = settles_append notes more number
settles_append (note ∷ notes) more number = settles_append notes more number

pub settles_these : (outcome : Settlement) (pending : List Pending) (number : ℕ)
    → settles_in (settled_as outcome pending) number ≡ has_number number pending
settles_these outcome [] number = refl
settles_these outcome (write ∷ pending) number =
    ap₂ (λ a b. a || b) (eq_swap number write.number) (settles_these outcome pending number)

-- the writes that are left
abbrev pub left_of : List Note → List Pending → List Pending
left_of notes pending = filter (λ write. not (settles_in notes write.number)) pending

-- ---- the ways in which entries settle

pub left_all : (pending : List Pending) → left_of [] pending ≡ pending
left_all pending = filter_all pending

pub left_front : (outcome : Settlement) (last : ℕ) (keep gone : List Pending) → are_rising 0 last (keep ++ gone) ≡ true
    → left_of (settled_as outcome gone) (keep ++ gone) ≡ keep
left_front outcome last keep gone e = filter_append (λ w. not (settles_in (settled_as outcome gone) w.number)) keep gone
    ∙ ap₂ (λ a b. a ++ b) (filter_same (λ w. not (settles_in (settled_as outcome gone) w.number)) keep
    (λ w a. ap not (settles_these outcome gone w.number ∙ parts_apart w 0 last keep gone e a)))
    (filter_none (λ w. not (settles_in (settled_as outcome gone) w.number)) gone
    (λ w a. ap not (settles_these outcome gone w.number ∙ number_there w gone a))) ∙ append_nothing keep
  where
    append_nothing : {X : Type 0} (xs : List X) → xs ++ [] ≡ xs
    append_nothing [] = refl
    append_nothing (x ∷ xs) = ap (λ l. x ∷ l) (append_nothing xs)

-- the one of a number
without_one : (number low last : ℕ) (sent more : List Pending) → are_rising low last (sent ++ more) ≡ true
    → has_number number sent ≡ true
    → filter (λ w. not (w.number == number || has_number w.number more)) sent ≡ sent_without number sent
unfolding sent_without
without_one number low last [] more e has = absurd (true≢false (sym has))
without_one number low last (x ∷ sent) more e has =
    let r = rising_rest x low last (sent ++ more) e in
    let none = neither (has_number x.number sent) (has_number x.number more) (sym (number_append x.number sent more) ∙ r.0) in
    either (x.number == number)
    (λ same. rw (same) (filter_same (λ w. not (w.number == number || has_number w.number more)) sent
    (λ w a. ap not (both (w.number == number) (has_number w.number more)
    (not_true (w.number == number) (λ s. clash (has_number x.number sent)
    (ap (λ n. has_number n sent) (eqb-true x.number number same ∙ sym (eqb-true w.number number s))
    ∙ number_there w sent a) none.0)) (parts_apart w x.number last sent more r.1 a)))))
    (λ other. rw (other, none.1) (ap (λ l. x ∷ l) (without_one number x.number last sent more r.1
    (later (x.number == number) _ has other))))
  where
    both : (a b : Bool) → a ≡ false → b ≡ false → (a || b) ≡ false
    both a b e f = rw (e, f) refl

    later : (a b : Bool) → (a || b) ≡ true → a ≡ false → b ≡ true
    later true b e f = absurd (true≢false f)
    later false b e f = e

-- the rest hasn't it
number_behind : (number low last : ℕ) (sent more : List Pending) → are_rising low last (sent ++ more) ≡ true
    → has_number number sent ≡ true → has_number number more ≡ false
number_behind number low last [] more e has = absurd (true≢false (sym has))
number_behind number low last (x ∷ sent) more e has = let r = rising_rest x low last (sent ++ more) e in ⊎_elim
    (λ here. (neither (has_number number sent) (has_number number more) (sym (number_append number sent more)
    ∙ ap (λ n. has_number n (sent ++ more)) (sym (eqb-true x.number number here)) ∙ r.0)).1)
    (λ later. number_behind number x.number last sent more r.1 later) (or_true (x.number == number) (has_number number sent) has)

pub left_one : (outcome : Settlement) (number last : ℕ) (sent unsent : List Pending)
    → are_rising 0 last (sent ++ unsent) ≡ true → has_number number sent ≡ true
    → left_of (Note.Settled number outcome ∷ []) (sent ++ unsent) ≡ sent_without number sent ++ unsent
left_one outcome number last sent unsent e has = filter_append (λ w. not (w.number == number || false)) sent unsent
    ∙ ap₂ (λ a b. a ++ b)
    (filter_alike (λ w. not (w.number == number || false)) (λ w. not (w.number == number || has_number w.number unsent)) sent
    (λ w a. ap (λ b. not (w.number == number || b)) (sym (parts_apart w 0 last sent unsent e a)))
    ∙ without_one number 0 last sent unsent e has) (filter_same (λ w. not (w.number == number || false)) unsent
    (λ w a. ap not (none (w.number == number) (not_true (w.number == number)
    (λ same. clash (has_number number unsent)
    (ap (λ n. has_number n unsent) (sym (eqb-true w.number number same)) ∙ number_there w unsent a)
    (number_behind number 0 last sent unsent e has))))))
  where
    none : (a : Bool) → a ≡ false → (a || false) ≡ false
    none a e = rw (e) refl

pub left_one_front : (outcome : Settlement) (number last : ℕ) (sent unsent : List Pending)
    → are_rising 0 last (sent ++ unsent) ≡ true → has_number number sent ≡ true
    → left_of (Note.Settled number outcome ∷ settled_as outcome unsent) (sent ++ unsent) ≡ sent_without number sent
left_one_front outcome number last sent unsent e has =
    filter_alike (λ w. not (w.number == number || settles_in (settled_as outcome unsent) w.number))
    (λ w. not (w.number == number || has_number w.number unsent)) (sent ++ unsent)
    (λ w a. ap (λ b. not (w.number == number || b)) (settles_these outcome unsent w.number))
    ∙ filter_append (λ w. not (w.number == number || has_number w.number unsent)) sent unsent
    ∙ ap₂ (λ a b. a ++ b) (without_one number 0 last sent unsent e has)
    (filter_none (λ w. not (w.number == number || has_number w.number unsent)) unsent
    (λ w a. ap not (or_later (w.number == number) (has_number w.number unsent) (number_there w unsent a))))
    ∙ append_nothing (sent_without number sent)
  where
    append_nothing : {X : Type 0} (xs : List X) → xs ++ [] ≡ xs
    append_nothing [] = refl
    append_nothing (x ∷ xs) = ap (λ l. x ∷ l) (append_nothing xs)

-- those that weren't buffered
kept_buffered : (write : Pending) (low last : ℕ) (pending : List Pending) → are_rising low last pending ≡ true
    → Among write pending → has_number write.number (without (λ w. w.buffered) pending) ≡ not write.buffered
kept_buffered write low last [] e a = absurd a
kept_buffered write low last (x ∷ pending) e a = let r = rising_rest x low last pending e in ⊎_elim
    (λ same. ap (λ (w : Pending). has_number w.number (without (λ y. y.buffered) (x ∷ pending))) same
    ∙ first r.0 ∙ ap (λ (w : Pending). not w.buffered) (sym same))
    (λ later. next (apart r.0 later) ∙ kept_buffered write x.number last pending r.1 later) a
  where
    fewer : (n : ℕ) (ws : List Pending) → has_number n ws ≡ false → has_number n (without (λ y. y.buffered) ws) ≡ false
    fewer n [] e = refl
    fewer n (w ∷ ws) e = let p = neither (w.number == n) (has_number n ws) e in
        either w.buffered (λ b. rw (b) (fewer n ws p.1)) (λ b. rw (b, p.0) (fewer n ws p.1))

    first : has_number x.number pending ≡ false → has_number x.number (without (λ y. y.buffered) (x ∷ pending)) ≡ not x.buffered
    first none = either x.buffered (λ b. rw (b) (fewer x.number pending none))
        (λ b. rw (b, eq-eqb x.number x.number refl) refl)

    apart : has_number x.number pending ≡ false → Among write pending → (x.number == write.number) ≡ false
    apart none later = not_true (x.number == write.number) (λ same. clash (has_number x.number pending)
        (ap (λ n. has_number n pending) (eqb-true x.number write.number same) ∙ number_there write pending later) none)

    next : (x.number == write.number) ≡ false → has_number write.number (without (λ y. y.buffered) (x ∷ pending))
        ≡ has_number write.number (without (λ y. y.buffered) pending)
    next other = either x.buffered (λ b. rw (b) refl) (λ b. rw (b, other) refl)

pub left_buffered : (outcome : Settlement) (last : ℕ) (pending : List Pending) → are_rising 0 last pending ≡ true
    → left_of (settled_as outcome (without (λ w. w.buffered) pending)) pending ≡ filter (λ w. w.buffered) pending
left_buffered outcome last pending e =
    filter_alike (λ w. not (settles_in (settled_as outcome (without (λ y. y.buffered) pending)) w.number))
    (λ w. w.buffered) pending
    (λ w a. ap not (settles_these outcome (without (λ y. y.buffered) pending) w.number
    ∙ kept_buffered w 0 last pending e a) ∙ twice w.buffered)
  where
    twice : (b : Bool) → not (not b) ≡ b
    twice true = refl
    twice false = refl
