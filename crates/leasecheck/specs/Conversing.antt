-- Machines that answer what a reader gives, line by line.
use Rattle.std.specs.Prelude.{◌≡◌, ◌⊎◌, ◌+◌, ◌^◌, ◌≤◌, ℕ, List, length, Option, Some, None, Result, MatchResult, IfSome}
use Rattle.std.specs.Io.BufRead.{take_through, drop_through}
use Rattle.std.specs.Io.KnownBytes.{Appends}
use Rattle.lease_lines.specs.ClientTables.{Answered}
use Rattle.lease_lines.specs.Machines.{Machines, reasons, transcript}
use Rattle.lease_texts.specs.Pieces.{lines_of}
use Rattle.leasecheck.specs.FileFaults.{FailsReading}
use Rattle.leasecheck.specs.Refusals.{Begins}
use Rattle.leasecheck.specs.declared.failure.Failure.{Failure}
use Rattle.leasecheck.specs.declared.failure.Failure.TheVariants.{Memory, Lines, Output}

-- All that the machines answer to these lines was written, and to the other stream why lines are refused; or a beginning of each
-- where something failed.
abbrev pub Answers : {T : Type 0} → Machines → List (List ℕ) → Option (List ℕ) → Option (List ℕ) → Option (List ℕ)
    → Option (List ℕ) → Result T Failure → Type 0
Answers machines lines old new faults told answer =
    MatchResult answer
    (λ _. Appends old new (transcript machines 1 lines) × Appends faults told (reasons machines 1 lines))
    (λ _. Begins old new (transcript machines 1 lines) × Begins faults told (reasons machines 1 lines))

-- The lines are those of the reader's text, where that is known.
abbrev pub Converses : {T : Type 0} → Machines → Option (List ℕ) → Option (List ℕ) → Option (List ℕ) → Option (List ℕ)
    → Option (List ℕ) → Result T Failure → Type 0
Converses machines None old new faults told answer = (lines : List (List ℕ)) × Answers machines lines old new faults told answer
Converses machines (Some text) old new faults told answer = Answers machines (lines_of text) old new faults told answer

-- what keeps a line from being answered: there was no memory, or a write failed
abbrev pub EndsAnswering : Failure → Type 0
EndsAnswering failure = (failure ≡ Memory) ⊎ (failure ≡ Output)

-- there are more lines than numbers of 64 bits, where it is known which there are
abbrev pub HasTooMany : Option (List ℕ) → Type 0
HasTooMany known = IfSome known (λ text. 2 ^ 64 ≤ length (lines_of text) + 2)

-- what ends machines before their input does
abbrev pub EndsSpeaking : Option (List ℕ) → Failure → Type 0
EndsSpeaking known failure = EndsAnswering failure ⊎ FailsReading failure ⊎ ((failure ≡ Lines) × HasTooMany known)

-- a reader gave a line with its line feed, or nothing at its end
abbrev pub GivesLine : Option (List ℕ) → Option (List ℕ) → List ℕ → Type 0
GivesLine old new bytes = IfSome old (λ text. (bytes ≡ take_through 10 text) × (new ≡ Some (drop_through 10 text)))

-- the machines are those after a line, and its answer was written, and why it is refused
abbrev pub HasSpoken : Answered Machines → Machines → Option (List ℕ) → Option (List ℕ) → Option (List ℕ) → Option (List ℕ)
    → Type 0
HasSpoken told machines old new faults after =
    (machines ≡ told.state) × Appends old new told.text × Appends faults after told.reason

-- a beginning of them was written
abbrev pub HasBegun : Answered Machines → Option (List ℕ) → Option (List ℕ) → Option (List ℕ) → Option (List ℕ) → Type 0
HasBegun told old new faults after = Begins old new told.text × Begins faults after told.reason
