-- Create contexts as they are laid out in a CREATE request or response (MS-SMB2 2.2.13.2, 2.2.14.2):
-- a relation between a whole text and the contexts that it holds.
use Rattle.std.specs.Prelude.{◌≡◌, ℕ, zero, suc, ◌+◌, ◌≤◌, ◌%◌, List, [], ◌∷◌, length}
use Rattle.std.specs.List.{concat}
use Rattle.lease_wire.specs.Field.{number_at, bytes_at}

-- a context: where it begins in the text, its name and its data
pub record ContextView : Type 0 where
  pub place : ℕ
  pub name : List ℕ
  pub body : List ℕ

-- the fields of a context's header; offsets count from the context's own start
unfoldable pub next_of : List ℕ → ℕ
next_of piece = number_at 0 4 piece

unfoldable pub name_offset_of : List ℕ → ℕ
name_offset_of piece = number_at 4 2 piece

unfoldable pub name_length_of : List ℕ → ℕ
name_length_of piece = number_at 6 2 piece

unfoldable pub data_offset_of : List ℕ → ℕ
data_offset_of piece = number_at 10 2 piece

unfoldable pub data_length_of : List ℕ → ℕ
data_length_of piece = number_at 12 4 piece

-- the part of the piece from an offset, so many bytes long: it begins after the header and ends
-- within the piece
pub record IsPart (piece : List ℕ) (offset count : ℕ) (part : List ℕ) : Type 0 where
  pub behind_the_header : 16 ≤ offset
  pub within : offset + count ≤ length piece
  pub bytes : part ≡ bytes_at offset count piece

-- the data: a part, or nothing where their length is 0, whatever their offset says
abbrev pub IsData : List ℕ → ℕ → ℕ → List ℕ → Type 0
IsData piece offset zero part = part ≡ []
IsData piece offset (suc count) part = IsPart piece offset (suc count) part

-- the piece of a text that begins at a place is this context; bytes in neither part are free
pub record IsContext (start : ℕ) (piece : List ℕ) (context : ContextView) : Type 0 where
  pub place : context.place ≡ start
  pub header : 16 ≤ length piece
  pub name : IsPart piece (name_offset_of piece) (name_length_of piece) context.name
  pub body : IsData piece (data_offset_of piece) (data_length_of piece) context.body

-- Next of a piece that another one follows is the piece's length, a multiple of 8
pub record LeadsOn (piece : List ℕ) : Type 0 where
  pub next : next_of piece ≡ length piece
  pub aligned : length piece % 8 ≡ 0

-- these pieces, from a place of the text on, are these contexts, and each of them leads on
abbrev pub AreLinked : ℕ → List (List ℕ) → List ContextView → Type 0
AreLinked place [] [] = Unit {0}
AreLinked place [] (context ∷ contexts) = ⊥
AreLinked place (piece ∷ pieces) [] = ⊥
AreLinked place (piece ∷ pieces) (context ∷ contexts) =
    IsContext place piece context × LeadsOn piece × AreLinked (place + length piece) pieces contexts

-- the same of pieces up to the text's end, where Next of the last one is 0
abbrev pub AreLaidOut : ℕ → List (List ℕ) → List ContextView → Type 0
AreLaidOut place [] contexts = ⊥
AreLaidOut place (piece ∷ pieces) [] = ⊥
AreLaidOut place (piece ∷ []) (context ∷ contexts) =
    IsContext place piece context × (next_of piece ≡ 0) × (contexts ≡ [])
AreLaidOut place (piece ∷ next ∷ pieces) (context ∷ contexts) =
    IsContext place piece context × LeadsOn piece × AreLaidOut (place + length piece) (next ∷ pieces) contexts

-- the text holds these contexts: none where it is empty, else it can be cut into their pieces
abbrev pub HoldsContexts : List ℕ → List ContextView → Type 0
HoldsContexts [] contexts = contexts ≡ []
HoldsContexts (byte ∷ bytes) contexts =
    (pieces : List (List ℕ)) × (concat pieces ≡ byte ∷ bytes) × AreLaidOut 0 pieces contexts
