-- The bytes that a reader gives. Of one whose bytes are known they are those; of another one, as of a file of the system, no
-- contract says what they are, and what holds of them holds of some bytes.
use Rattle.std.specs.Prelude.{◌≡◌, ℕ, List, Option, IfSome}

abbrev pub MayHave : Option (List ℕ) → List ℕ → Type 0
MayHave known bytes = IfSome known (λ all. bytes ≡ all)

-- It is so of bytes that the reader may have.
abbrev pub OfBytes : Option (List ℕ) → (List ℕ → Type 0) → Type 0
OfBytes known IsSo = (bytes : List ℕ) × MayHave known bytes × IsSo bytes
