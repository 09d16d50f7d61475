-- Lists by numbers, where a number past the end has a value of its own.
use Rattle.lease_laws.proofs.Words.{◌++◌, ◌+◌, ◌<◌, ◌==◌, ◌∷◌, ◌≡◌, ◌≤◌, List, Some, ℕ, [], arith, cond, drop, get_or}
use Rattle.lease_laws.proofs.Words.{if◌then◌else◌, length, nat_tests, refl, slice_set, subst, suc, unwrap_or, zero}
use Rattle.std.specs.List.{slice_get}
use Rattle.std.specs.Ordering.{is_eq, nat_cmp}

-- what was read from its place is what is in it
pub value_there : {X : Type 0} (other : X) (xs : List X) (n : ℕ) (x : X) → n < length xs → x ≡ get_or xs n x
    → x ≡ unwrap_or (slice_get xs n) other
value_there other [] n x inside is = absurd (omega arith)
value_there other (one ∷ xs) zero x inside is = is
value_there other (one ∷ xs) (suc n) x inside is = value_there other xs n x (omega arith) is

-- one more such value changes nothing
pub one_more : {X : Type 0} (other : X) (xs : List X) (n : ℕ)
    → unwrap_or (slice_get (xs ++ other ∷ []) n) other ≡ unwrap_or (slice_get xs n) other
one_more other [] zero = refl
one_more other [] (suc n) = refl
one_more other (one ∷ xs) zero = refl
one_more other (one ∷ xs) (suc n) = one_more other xs n

-- the same of the numbers one higher
pub suc_same : {X : Type 0} (n k : ℕ) (x y z : X) → z ≡ (if n == k then x else y) → z ≡ (if suc n == suc k then x else y)
suc_same n k x y z e = grind arith

-- a value that is put into a place stands there, and the others stay
pub value_put : {X : Type 0} (other : X) (xs : List X) (k : ℕ) (x : X) (n : ℕ) → k < length xs
    → unwrap_or (slice_get (slice_set xs k x) n) other ≡ (if n == k then x else unwrap_or (slice_get xs n) other)
value_put other [] k x n inside = absurd (omega arith)
value_put other (one ∷ xs) zero x zero inside = refl
value_put other (one ∷ xs) zero x (suc n) inside = grind arith
value_put other (one ∷ xs) (suc k) x zero inside = grind arith
value_put other (one ∷ xs) (suc k) x (suc n) inside =
    suc_same n k x (unwrap_or (slice_get xs n) other) _ (value_put other xs k x n (omega arith))

-- the same where nothing stands past the end
pub get-put : {X : Type 0} (xs : List X) (k : ℕ) (x : X) (n : ℕ) → k < length xs
    → slice_get (slice_set xs k x) n ≡ (if n == k then Some x else slice_get xs n)
get-put [] k x n inside = absurd (omega arith)
get-put (y ∷ xs) zero x zero inside = refl
get-put (y ∷ xs) zero x (suc n) inside = grind arith
get-put (y ∷ xs) (suc k) x zero inside = grind arith
get-put (y ∷ xs) (suc k) x (suc n) inside = suc_same n k (Some x) (slice_get xs n) _ (get-put xs k x n (omega arith))

-- one more value comes last
pub get-push : {X : Type 0} (xs : List X) (x : X) (n : ℕ)
    → slice_get (xs ++ x ∷ []) n ≡ (if n == length xs then Some x else slice_get xs n)
get-push [] x zero = refl
get-push [] x (suc n) = grind arith
get-push (y ∷ xs) x zero = grind arith
get-push (y ∷ xs) x (suc n) = suc_same n (length xs) (Some x) (slice_get xs n) _ (get-push xs x n)

-- past the end is what other numbers have
pub past_the_end : {X : Type 0} (other : X) (xs : List X) (n : ℕ) → length xs ≤ n → unwrap_or (slice_get xs n) other ≡ other
past_the_end other [] zero past = refl
past_the_end other [] (suc n) past = refl
past_the_end other (one ∷ xs) zero past = absurd (omega arith)
past_the_end other (one ∷ xs) (suc n) past = past_the_end other xs n (omega arith)

-- what a map or a set has after one value was put at a key
pub value_at : {X : Type 0} (n k : ℕ) (x y : X) → cond (is_eq (nat_cmp k n)) x y ≡ (if n == k then x else y)
value_at n k x y = grind (arith, nat_tests)

-- from a number on there is the value at it, and those after it
drop_next : {X : Type 0} (xs : List X) (n : ℕ) (d : X) → n < length xs → drop n xs ≡ get_or xs n d ∷ drop (suc n) xs
drop_next [] n d lt = absurd (omega arith)
drop_next (x ∷ xs) zero d lt = refl
drop_next (x ∷ xs) (suc n) d lt = drop_next xs n d (omega arith)

pub drop_rest : {X : Type 0} (xs : List X) (n : ℕ) (d : X) → n < length xs → drop n xs ≡ get_or xs n d ∷ drop (n + 1) xs
drop_rest xs n d lt =
    let e : suc n ≡ n + 1 = omega arith in
    subst (λ (m : ℕ). drop n xs ≡ get_or xs n d ∷ drop m xs) e (drop_next xs n d lt)
