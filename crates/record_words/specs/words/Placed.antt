-- The lines of a record in which its facts stand.
use Rattle.std.specs.Prelude.{◌≡◌, ℕ, ◌+◌, ◌-◌, List, [], ◌∷◌, if◌then◌else◌, Ok, Err, slice_get, unwrap_or}
use Rattle.lease_texts.specs.Pieces.{lines_of}
use Rattle.lease_texts.specs.Reading.{is_passed_over}
use Rattle.lease_texts.specs.Records.{record_in}
use Rattle.lease_texts.specs.declared.fault.TextFault.{TextFault}
use Rattle.lease_texts.specs.declared.fault.TextFault.TheVariants as fault
use Rattle.record_words.specs.declared.words.placed.Placed.{Placed}

-- the numbers of the lines that tell facts, counted on from one
unfoldable pub fact_lines : ℕ → List (List ℕ) → List ℕ
fact_lines number [] = []
fact_lines number (line ∷ lines) =
    if is_passed_over line then fact_lines (number + 1) lines else number ∷ fact_lines (number + 1) lines

-- the number of the line of the fact at a place
abbrev pub line_number : List ℕ → ℕ → ℕ
line_number lines place = unwrap_or (slice_get lines (place - 1)) 0

-- These are the facts of a text, and the lines in which they stand.
pub record IsPlaced (text : List ℕ) (placed : Placed) : Type 0 where
  pub facts : record_in text ≡ Ok placed.facts.items
  pub lines : placed.lines.items ≡ fact_lines 1 (lines_of text)

abbrev pub RefusesRecord : List ℕ → TextFault → Type 0
RefusesRecord text (fault.Line number) = record_in text ≡ Err number
RefusesRecord text fault.Memory = ⊥
