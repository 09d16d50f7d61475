-- Bytes as they are quoted to a reader.
use Rattle.std.specs.Prelude.{ℕ, ◌++◌, ◌==◌, nat_le, nat_lt, Bool, not, ◌&&◌, ◌||◌, if◌then◌else◌, List, [], ◌∷◌, length, take}
use Rattle.std.specs.Prelude.{codes}
use Rattle.{std.specs.List.flat_map, hex.specs.Hex.encode_lower}

-- a printable byte of ASCII, other than a quotation mark or a backslash
abbrev pub is_plain : ℕ → Bool
is_plain byte = nat_le 32 byte && nat_lt byte 127 && not (byte == 34 || byte == 92)

-- another one is written as \xHH
unfoldable pub escaped : ℕ → List ℕ
escaped byte = if is_plain byte then byte ∷ [] else 92 ∷ 120 ∷ encode_lower (byte ∷ [])

-- what stands after the quotation marks where more than 40 bytes are quoted
abbrev pub quoted_end : List ℕ → List ℕ
quoted_end bytes = if nat_lt 40 (length bytes) then codes "..." else []

-- the first 40 bytes between quotation marks
unfoldable pub quoted : List ℕ → List ℕ
quoted bytes = 34 ∷ [] ++ flat_map escaped (take 40 bytes) ++ 34 ∷ [] ++ quoted_end bytes
