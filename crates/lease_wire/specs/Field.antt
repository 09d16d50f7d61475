-- Fields of a message: numbers and bytes at a place, counted in bytes from 0. All numbers of SMB2
-- stand with their lowest byte first (MS-SMB2 2.2).
use Rattle.std.specs.Prelude.{ℕ, List, take, drop}
use Rattle.byteorder.specs.Endian.{little_number}

-- the number in the count bytes at a place
abbrev pub number_at : ℕ → ℕ → List ℕ → ℕ
number_at place count bytes = little_number count (drop place bytes)

-- the count bytes at a place
abbrev pub bytes_at : ℕ → ℕ → List ℕ → List ℕ
bytes_at place count bytes = take count (drop place bytes)
