-- Words on lists.
use Rattle.std.specs.Prelude.{ℕ, suc, zero, Bool, true, false, List, [], ◌∷◌, ◌++◌, ◌||◌, not, filter, if◌then◌else◌}

abbrev pub is_empty : {X : Type 0} → List X → Bool
is_empty [] = true
is_empty (x ∷ xs) = false

-- without the elements that pass the test
abbrev pub without : {X : Type 0} → (X → Bool) → List X → List X
without test xs = filter (λ x. not (test x)) xs

-- Without the elements that are marked, place by place. A shorter list of marks marks no more.
abbrev pub unmarked : {X : Type 0} → List Bool → List X → List X
unmarked [] xs = xs
unmarked (mark ∷ marks) [] = []
unmarked (mark ∷ marks) (x ∷ xs) = if mark then unmarked marks xs else x ∷ unmarked marks xs

-- one of them is marked
abbrev pub has_marked : {X : Type 0} → List Bool → List X → Bool
has_marked [] xs = false
has_marked (mark ∷ marks) [] = false
has_marked (mark ∷ marks) (x ∷ xs) = mark || has_marked marks xs

-- the numbers from 1 to n, rising
abbrev pub numbers_to : ℕ → List ℕ
numbers_to zero = []
numbers_to (suc n) = numbers_to n ++ suc n ∷ []
