-- Elements of lists by their places.
use Rattle.std.proofs.Common.{◌≡◌, ◌+◌, ◌<◌, ◌≤◌, ◌⊎◌, inl, inr, ℕ, zero, suc, List, ◌∷◌, [], ◌++◌, Some, refl, sym, ap, ◌∙◌}
use Rattle.std.proofs.Common.{arith, subst, slice_get, take, length}
use Rattle.std.proofs.lemmas.Bool.{cases_eq}
use Rattle.std.proofs.lemmas.Option.{same_Some, slice_get_within}

-- what holds below a place and there holds below the next one
pub each-more : {X : Type 0} (P : X → Type 0) (xs : List X) (n : ℕ) (x : X) → slice_get xs n ≡ Some x
    → ((i : ℕ) (y : X) → i < n → slice_get xs i ≡ Some y → P y) → P x
    → (i : ℕ) (y : X) → i < n + 1 → slice_get xs i ≡ Some y → P y
each-more P xs n x at below here i y less is = elim (cases_eq i n) as (λ _. P y) [
  | inl same ↦ subst P (same_Some x y (sym at ∙ sym (ap (slice_get xs) same) ∙ is)) here
  | inr other ↦ below i y (omega (arith, less, other)) is
]

-- what holds below the length holds everywhere
pub each-all : {X : Type 0} (P : X → Type 0) (xs : List X) (n : ℕ) → length xs ≤ n
    → ((i : ℕ) (y : X) → i < n → slice_get xs i ≡ Some y → P y) → (i : ℕ) (y : X) → slice_get xs i ≡ Some y → P y
each-all P xs n all below i y is =
    let inside = slice_get_within xs i y is in below i y (omega (arith, inside, all)) is

pub push-old : {X : Type 0} (xs : List X) (x : X) (i : ℕ) (y : X) → slice_get xs i ≡ Some y → slice_get (xs ++ x ∷ []) i ≡ Some y
push-old [] x i y is = cc
push-old (z ∷ xs) x zero y is = is
push-old (z ∷ xs) x (suc i) y is = push-old xs x i y is

pub push-new : {X : Type 0} (xs : List X) (x : X) → slice_get (xs ++ x ∷ []) (length xs) ≡ Some x
push-new [] x = refl
push-new (z ∷ xs) x = push-new xs x

pub push-cases : {X : Type 0} (xs : List X) (x : X) (i : ℕ) (y : X) → slice_get (xs ++ x ∷ []) i ≡ Some y
    → (slice_get xs i ≡ Some y) ⊎ ((i ≡ length xs) × (x ≡ y))
push-cases [] x zero y is = inr (refl, same_Some x y is)
push-cases [] x (suc i) y is = cc
push-cases (z ∷ xs) x zero y is = inl is
push-cases (z ∷ xs) x (suc i) y is = elim (push-cases xs x i y is)
    as (λ _. (slice_get (z ∷ xs) (suc i) ≡ Some y) ⊎ ((suc i ≡ length (z ∷ xs)) × (x ≡ y))) [
      | inl before ↦ inl before
      | inr here ↦ let one = here.0 in inr (omega (arith, one), here.1)
    ]

pub taken-at : {X : Type 0} (xs : List X) (n i : ℕ) (y : X) → slice_get (take n xs) i ≡ Some y → (i < n)
    × (slice_get xs i ≡ Some y)
taken-at [] zero i y is = cc
taken-at [] (suc n) i y is = cc
taken-at (x ∷ xs) zero i y is = cc
taken-at (x ∷ xs) (suc n) zero y is = (omega arith, is)
taken-at (x ∷ xs) (suc n) (suc i) y is =
    let rest = taken-at xs n i y is in let less = rest.0 in (omega (arith, less), rest.1)

pub element-at : {X : Type 0} (xs : List X) (i : ℕ) → i < length xs → (x : X) × (slice_get xs i ≡ Some x)
element-at [] i inside = absurd (omega (arith, inside))
element-at (x ∷ xs) zero inside = (x, refl)
element-at (x ∷ xs) (suc i) inside = element-at xs i (omega (arith, inside))
