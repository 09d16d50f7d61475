-- A write that is taken out by its number.
use Rattle.lease_laws.proofs.Words.{◌∙◌, ◌∷◌, ◌≡◌, Bool, List, None, Option, Pending, Some, ℕ, [], arith, cond, false, find}
use Rattle.lease_laws.proofs.Words.{get_or, is_numbered, nat_tests, option_map, refl, sent_without, subst, suc, sym}
use Rattle.std.specs.List.{position, remove}

abbrev place_in : ℕ → List Pending → Option ℕ
place_in number [] = None
place_in number (write ∷ writes) = cond (is_numbered number write) (Some 0) (option_map (λ n. suc n) (place_in number writes))

place_is : (number : ℕ) (writes : List Pending) → position (is_numbered number) writes ≡ place_in number writes
place_is number [] = refl
place_is number (write ∷ writes) = let e = place_is number writes in grind (arith, nat_tests, e)

-- what is found at the place, and what the list is without it
abbrev IsTaken : ℕ → List Pending → Pending → Option ℕ → Type 0
IsTaken number writes other None = (find (is_numbered number) writes ≡ None) × (sent_without number writes ≡ writes)
IsTaken number writes other (Some place) = (find (is_numbered number) writes ≡ Some (get_or writes place other))
    × (sent_without number writes ≡ remove writes place)

step : (number : ℕ) (write : Pending) (writes : List Pending) (other : Pending) (here : Bool) (place : Option ℕ)
    → is_numbered number write ≡ here → IsTaken number writes other place
    → IsTaken number (write ∷ writes) other (cond here (Some 0) (option_map (λ n. suc n) place))
unfolding sent_without
step number write writes other here place e taken = grind arith

taken_out : (number : ℕ) (writes : List Pending) (other : Pending) → IsTaken number writes other (place_in number writes)
unfolding sent_without
taken_out number [] other = (refl, refl)
taken_out number (write ∷ writes) other = step number write writes other (is_numbered number write) (place_in number writes) refl
    (taken_out number writes other)

abbrev pub nobody : Pending
nobody = record { number = 0; patch = record { offset = 0; bytes = [] }; buffered = false }

pub none_numbered : (number : ℕ) (writes : List Pending) → position (is_numbered number) writes ≡ None
    → (find (is_numbered number) writes ≡ None) × (sent_without number writes ≡ writes)
none_numbered number writes none =
    subst (IsTaken number writes nobody) (sym (place_is number writes) ∙ none) (taken_out number writes nobody)

pub one_numbered : (number : ℕ) (writes : List Pending) (place : ℕ) (other : Pending)
    → position (is_numbered number) writes ≡ Some place → (find (is_numbered number) writes ≡ Some (get_or writes place other))
    × (sent_without number writes ≡ remove writes place)
one_numbered number writes place other some =
    subst (IsTaken number writes other) (sym (place_is number writes) ∙ some) (taken_out number writes other)
