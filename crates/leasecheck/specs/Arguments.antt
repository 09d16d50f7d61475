-- The bytes that an argument of `ack` and `show` gives.
use Rattle.std.specs.Prelude.{◌≡◌, ℕ, ◌==◌, ◌||◌, Bool, if◌then◌else◌, List, ◌∷◌, codes, take, drop, bytes_eq, Result, Ok}
use Rattle.std.specs.Prelude.{Option, Some, None}
use Rattle.hex.specs.Hex.{decode_of}
use Rattle.hex.specs.declared.error.FromHexError.{FromHexError}
use Rattle.leasecheck.specs.Paths.{file_named}

-- a colon or a space
abbrev pub is_separator : ℕ → Bool
is_separator code = code == 58 || code == 32

-- The digits of a text: what stands between two bytes, of which each is two digits, is left out where it is one separator.
unfoldable pub digits_in : List ℕ → List ℕ
digits_in (high ∷ low ∷ between ∷ next ∷ rest) =
    if is_separator between
    then high ∷ low ∷ digits_in (next ∷ rest)
    else high ∷ low ∷ digits_in (between ∷ next ∷ rest)
digits_in text = text

-- a leading "0x" is left out
abbrev pub without_prefix : List ℕ → List ℕ
without_prefix text = if bytes_eq (take 2 text) (codes "0x") then drop 2 text else text

-- the bytes that its digits write, or why they write none
unfoldable pub argument_bytes : List ℕ → Result (List ℕ) FromHexError
argument_bytes text = decode_of (digits_in (without_prefix text))

-- Those of the file that it names, or else those that its digits write.
abbrev pub GivesBy : Option (List ℕ) → List ℕ → List ℕ → List ℕ → Type 0
GivesBy None argument file bytes = argument_bytes argument ≡ Ok bytes
GivesBy (Some path) argument file bytes = bytes ≡ file

abbrev pub Gives : List ℕ → List ℕ → List ℕ → Type 0
Gives argument file bytes = GivesBy (file_named argument) argument file bytes
