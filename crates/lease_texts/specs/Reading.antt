-- Texts that are read line by line.
use Rattle.std.specs.Prelude.{ℕ, ◌+◌, ◌==◌, Bool, true, List, [], ◌∷◌, Option, Some, None, Result, Ok, Err}

-- an empty line, or a remark, counts for nothing but its number
abbrev pub is_passed_over : List ℕ → Bool
is_passed_over [] = true
is_passed_over (first ∷ rest) = first == 35

-- a line was refused, or the text goes on
abbrev pub or_refuse : {S : Type 0} → ℕ → Option S → (S → Result S ℕ) → Result S ℕ
or_refuse number None more = Err number
or_refuse number (Some state) more = more state

-- what the lines from one of a number on add up to, or the number of the first that is refused
unfoldable pub reads_on : {S : Type 0} → (S → List ℕ → Option S) → ℕ → S → List (List ℕ) → Result S ℕ
reads_on add number state [] = Ok state
reads_on add number state (line ∷ lines) = or_refuse number (add state line) (λ state. reads_on add (number + 1) state lines)
