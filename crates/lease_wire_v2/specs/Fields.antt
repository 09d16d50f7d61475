-- Lists of bytes, and fields that are left free.
use Rattle.std.specs.Prelude.{ℕ, ◌<◌, ◌++◌, List, slice_index}
use Rattle.byteorder.specs.Endian.{little_bytes}

-- each number is one of a byte; past the list's end `slice_index` has 0
abbrev pub AreBytes : List ℕ → Type 0
AreBytes bytes = (place : ℕ) → slice_index bytes place < 256

-- sixteen bytes of 0
abbrev pub sixteen_zeros : List ℕ
sixteen_zeros = little_bytes 8 0 ++ little_bytes 8 0
