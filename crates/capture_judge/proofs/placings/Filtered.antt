-- What a filter keeps, by places.
use Rattle.std.proofs.Common.{◌≡◌, ◌<◌, ◌≤◌, inl, inr, ℕ, zero, suc, List, ◌∷◌, [], Some, refl, sym, ap, ◌∙◌, arith, subst}
use Rattle.std.proofs.Common.{slice_get, length, Bool, true}
use Rattle.std.specs.List.{filter}
use Rattle.std.proofs.lemmas.Bool.{cases_Bool}
use Rattle.std.proofs.lemmas.Option.{same_Some}

pub record Kept {X : Type 0} (test : X → Bool) (xs : List X) (x : X) : Type 0 where
  pub place : ℕ
  pub at : slice_get xs place ≡ Some x
  pub passes : test x ≡ true

kept-later : {X : Type 0} (test : X → Bool) (y : X) (xs : List X) (x : X) → Kept test xs x → Kept test (y ∷ xs) x
kept-later test y xs x one = record { place = suc one.place; at = one.at; passes = one.passes }

kept-cons : {X : Type 0} (test : X → Bool) (y : X) (xs : List X) → test y ≡ true
    → ((n : ℕ) (x : X) → slice_get (filter test xs) n ≡ Some x → Kept test xs x)
    → (n : ℕ) (x : X) → slice_get (y ∷ filter test xs) n ≡ Some x → Kept test (y ∷ xs) x
kept-cons test y xs passes rest zero x at = record {
  place = zero;
  at = at;
  passes = sym (ap test (same_Some y x at)) ∙ passes;
}
kept-cons test y xs passes rest (suc n) x at = kept-later test y xs x (rest n x at)

pub kept_of : {X : Type 0} (test : X → Bool) (xs : List X) (n : ℕ) (x : X) → slice_get (filter test xs) n ≡ Some x
    → Kept test xs x
kept_of test [] n x at = cc
kept_of test (y ∷ xs) n x at = elim (cases_Bool (test y)) as (λ _. Kept test (y ∷ xs) x) [
  | inl passes ↦ kept-cons test y xs passes (kept_of test xs) n x (rw passes at at)
  | inr fails ↦ kept-later test y xs x (kept_of test xs n x (rw fails at at))
]

pub stays : {X : Type 0} (test : X → Bool) (xs : List X) (n : ℕ) (x : X) → slice_get xs n ≡ Some x → test x ≡ true
    → (m : ℕ) × (slice_get (filter test xs) m ≡ Some x)
stays test [] n x at passes = cc
stays test (y ∷ xs) zero x at passes =
    let here : test y ≡ true = ap test (same_Some y x at) ∙ passes in (zero, rw here at)
stays test (y ∷ xs) (suc n) x at passes =
    let rest = stays test xs n x at passes
    in elim (cases_Bool (test y)) as (λ _. (m : ℕ) × (slice_get (filter test (y ∷ xs)) m ≡ Some x)) [
      | inl here ↦ (suc rest.0, rw here rest.1)
      | inr fails ↦ (rest.0, rw fails rest.1)
    ]

-- any two of a list, in their order
abbrev pub Pairs : {X : Type 0} → (X → X → Type 0) → List X → Type 0
Pairs {X} R xs = (m n : ℕ) (x y : X) → m < n → slice_get xs m ≡ Some x → slice_get xs n ≡ Some y → R x y

pairs-cons : {X : Type 0} (R : X → X → Type 0) (z : X) (xs : List X) → ((n : ℕ) (y : X) → slice_get xs n ≡ Some y → R z y)
    → Pairs R xs → Pairs R (z ∷ xs)
pairs-cons R z xs head tail zero zero x y less at also = absurd (omega (arith, less))
pairs-cons {X} R z xs head tail zero (suc n) x y less at also =
    subst (λ (w : X). R w y) (same_Some z x at) (head n y also)
pairs-cons R z xs head tail (suc m) zero x y less at also = absurd (omega (arith, less))
pairs-cons R z xs head tail (suc m) (suc n) x y less at also = tail m n x y (omega (arith, less)) at also

pub pairs-filter : {X : Type 0} (R : X → X → Type 0) (test : X → Bool) (xs : List X) → Pairs R xs → Pairs R (filter test xs)
pairs-filter R test [] pairs = λ m n x y less at also. cc
pairs-filter R test (z ∷ xs) pairs =
    let rest = pairs-filter R test xs (λ m n x y less at also. pairs (suc m) (suc n) x y (omega (arith, less)) at also)
    in elim (cases_Bool (test z)) as (λ _. Pairs R (filter test (z ∷ xs))) [
      | inl passes ↦ rw passes (pairs-cons R z (filter test xs) (λ n y at.
          let one = kept_of test xs n y at in pairs zero (suc one.place) z y (omega arith) refl one.at) rest)
      | inr fails ↦ rw fails rest
    ]

pub length-kept : {X : Type 0} (test : X → Bool) (xs : List X) → length (filter test xs) ≤ length xs
length-kept test [] = omega arith
length-kept test (x ∷ xs) =
    let rest = length-kept test xs
    in elim (cases_Bool (test x)) as (λ _. length (filter test (x ∷ xs)) ≤ suc (length xs)) [
      | inl passes ↦ rw passes (omega (arith, rest))
      | inr fails ↦ rw fails (omega (arith, rest))
    ]
