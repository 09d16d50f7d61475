-- Numbers that are made FileIds or tags are the same numbers again.
use Rattle.lease_laws.proofs.Words.{List, ℕ, ◌≡◌, ◌∷◌, [], ap, map, refl}
use Rattle.lease_manager.specs.LeftOpens.{numbers}
use Rattle.lease_manager.specs.Parting.{tag_numbers}

pub numbers_again : (given : List ℕ) → numbers (map (λ n. record { 0 = n }) given) ≡ given
numbers_again [] = refl
numbers_again (n ∷ rest) = ap (λ more. n ∷ more) (numbers_again rest)

pub tag_numbers_again : (given : List ℕ) → tag_numbers (map (λ n. record { 0 = n }) given) ≡ given
tag_numbers_again [] = refl
tag_numbers_again (n ∷ rest) = ap (λ more. n ∷ more) (tag_numbers_again rest)
