-- What a call takes from the words of a line.
use Rattle.std.specs.Prelude.{◌≡◌, List, ℕ, Option, Some, None, Result, MatchResult}
use Rattle.lease_texts.specs.Kinds.{Taking, Words}
use Rattle.lease_texts.specs.declared.fault.LineFault.{LineFault, TheVariants.Refused}

-- A call answers with what the words say, and leaves the others; it refuses words that say nothing. For want of
-- memory it may fail at any words.
abbrev pub Takes : {A : Type 0} → Taking A → Words → Words → Result A LineFault → Type 0
Takes take old new answer =
    MatchResult answer (λ value. take old ≡ Some (value, new)) (λ fault. fault ≡ Refused → take old ≡ None)

-- the same of all the words of a line
abbrev pub Reads : {A : Type 0} → (List ℕ → Option A) → List ℕ → Result A LineFault → Type 0
Reads read line answer = MatchResult answer (λ value. read line ≡ Some value) (λ fault. fault ≡ Refused → read line ≡ None)
