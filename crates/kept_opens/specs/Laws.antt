-- What holds of the bytes, whatever opens are kept.
use Rattle.std.specs.Prelude.{◌≡◌, ℕ, ◌<◌, ◌^◌, List, map}
use Rattle.lease_manager.specs.declared.values.kept.KeptOpen.{KeptOpen}
use Rattle.kept_opens.specs.Entry.{entry_of}
use Rattle.kept_opens.specs.Kept.{kept_bytes, AllBorne, IsKept}

-- what two lists say is the same where their bytes are
abbrev pub SaysTheSame : Type 0
SaysTheSame = (last other_last : ℕ) (kept other : List KeptOpen) → last < 2 ^ 64 → other_last < 2 ^ 64 → AllBorne kept
    → AllBorne other → kept_bytes last kept ≡ kept_bytes other_last other
    → (last ≡ other_last) × (map entry_of kept ≡ map entry_of other)

-- no bytes hold two lists of opens
abbrev pub IsUnique : Type 0
IsUnique = (bytes : List ℕ) (last other_last : ℕ) (kept other : List KeptOpen) → IsKept bytes last kept
    → IsKept bytes other_last other → (last ≡ other_last) × (kept ≡ other)
