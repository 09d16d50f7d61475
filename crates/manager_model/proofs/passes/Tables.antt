-- A table with another value at one place.
use Rattle.lease_laws.proofs.Words.{◌==◌, ◌≡◌, Decides-eqb, false, put, refl, ℕ}

pub put_here : {X : Type 0} (table : ℕ → X) (place : ℕ) (new : X) → put table place new place ≡ new
unfolding put
put_here table place new = rw ((Decides-eqb place place).1 refl) refl

pub put_apart : {X : Type 0} (table : ℕ → X) (place other : ℕ) (new : X) → (other == place) ≡ false
    → put table place new other ≡ table other
unfolding put
put_apart table place other new apart = rw (apart) refl
