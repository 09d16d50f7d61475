-- Texts cut at each byte that separates their pieces.
use Rattle.std.specs.Prelude.{ℕ, ◌&&◌, ◌==◌, Bool, nat_lt, true, List, [], ◌∷◌, Option, Some, None, if◌then◌else◌}

-- the byte stands before the first piece
unfoldable pub longer : ℕ → List (List ℕ) → List (List ℕ)
longer byte [] = (byte ∷ []) ∷ []
longer byte (piece ∷ pieces) = (byte ∷ piece) ∷ pieces

-- the pieces of a text; those of an empty one, and after a separator at the end, are given
unfoldable pub pieces : ℕ → List (List ℕ) → List ℕ → List (List ℕ)
pieces separator last [] = last
pieces separator last (byte ∷ bytes) =
    if byte == separator then [] ∷ pieces separator last bytes else longer byte (pieces separator last bytes)

-- the fields of a line, between its spaces: one of no bytes where the line is empty
abbrev pub fields_of : List ℕ → List (List ℕ)
fields_of line = pieces 32 ([] ∷ []) line

-- the lines of a text, each ended by a line feed, which the last may lack
abbrev pub lines_of : List ℕ → List (List ℕ)
lines_of text = pieces 10 [] text

-- the pieces of what follows a separator, where there was one
abbrev pub pieces_behind : ℕ → List (List ℕ) → Option (List ℕ) → List (List ℕ)
pieces_behind separator last None = []
pieces_behind separator last (Some rest) = pieces separator last rest

-- each byte is above this one
abbrev pub all_above : ℕ → List ℕ → Bool
all_above low [] = true
all_above low (byte ∷ bytes) = nat_lt low byte && all_above low bytes
