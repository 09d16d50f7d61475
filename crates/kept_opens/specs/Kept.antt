-- The bytes in which a file server keeps its durable opens over a restart of its own (own).
use Rattle.std.specs.Prelude.{◌≡◌, ◌≢◌, ℕ, ◌<◌, ◌^◌, ◌+◌, ◌-◌, ◌*◌, List, ◌++◌, length, take, drop, map, codes, All}
use Rattle.std.specs.List.{flat_map}
use Rattle.byteorder.specs.Endian.{little_bytes}
use Rattle.sha2.specs.Sha256.{sha256}
use Rattle.lease_manager.specs.declared.values.kept.KeptOpen.{KeptOpen}
use Rattle.lease_wire.specs.Field.{number_at}
use Rattle.kept_opens.specs.Entry.{entry_of, entry_bytes, HasKey, IsBorne, IsNamed}

abbrev pub magic : List ℕ
magic = codes "SMBKEPT1"

-- the opens, one after the other
abbrev pub entries_bytes : List KeptOpen → List ℕ
entries_bytes kept = flat_map (λ one. entry_bytes (entry_of one)) kept

-- all that the digest is of: the magic, the FileId that was given last, how many opens there are, and the opens
unfoldable pub kept_text : ℕ → List KeptOpen → List ℕ
kept_text last kept = magic ++ (little_bytes 8 last ++ (little_bytes 8 (length kept) ++ entries_bytes kept))

-- the text, and its SHA-256
abbrev pub kept_bytes : ℕ → List KeptOpen → List ℕ
kept_bytes last kept = kept_text last kept ++ sha256 (kept_text last kept)

abbrev pub AllHaveKeys : List KeptOpen → Type 0
AllHaveKeys kept = All (λ one. HasKey (entry_of one)) kept

abbrev pub AllBorne : List KeptOpen → Type 0
AllBorne kept = All (λ one. IsBorne (entry_of one)) kept

abbrev pub AllNamed : List KeptOpen → Type 0
AllNamed kept = All (λ one. IsNamed one) kept

-- the bytes hold this FileId and these opens, which a program can have
pub record IsKept (bytes : List ℕ) (last : ℕ) (kept : List KeptOpen) : Type 0 where
  pub fits : last < 2 ^ 64
  pub borne : AllBorne kept
  pub named : AllNamed kept
  pub laid : kept_bytes last kept ≡ bytes

-- they hold some opens
abbrev pub HoldsKept : List ℕ → Type 0
HoldsKept bytes = (last : ℕ) × (kept : List KeptOpen) × IsKept bytes last kept

-- whatever the bytes hold says the same
abbrev pub SaysOnly : List ℕ → ℕ → List KeptOpen → Type 0
SaysOnly bytes last kept = (other_last : ℕ) (other : List KeptOpen) → IsKept bytes other_last other
    → (other_last ≡ last) × (map entry_of other ≡ map entry_of kept)

-- they hold none, of whatever numbers
abbrev pub HoldsNone : List ℕ → Type 0
HoldsNone bytes = (last : ℕ) (kept : List KeptOpen) → AllHaveKeys kept → kept_bytes last kept ≢ bytes

-- ---- the parts of the bytes

-- the length is that of as many opens as the bytes name
abbrev pub HasSize : List ℕ → Type 0
HasSize bytes = length bytes ≡ 56 + 48 * number_at 16 8 bytes

-- so long, with the magic at the front and the digest at the end
pub record IsSealed (bytes : List ℕ) : Type 0 where
  pub size : HasSize bytes
  pub begins : take 8 bytes ≡ magic
  pub digest : drop (length bytes - 32) bytes ≡ sha256 (take (length bytes - 32) bytes)

-- some opens, which a program can have, have these bytes
abbrev pub HoldsEntries : List ℕ → Type 0
HoldsEntries bytes = (kept : List KeptOpen) × AllBorne kept × AllNamed kept × (entries_bytes kept ≡ bytes)

-- none have
abbrev pub HoldsNoEntries : List ℕ → Type 0
HoldsNoEntries bytes = (kept : List KeptOpen) → AllHaveKeys kept → entries_bytes kept ≢ bytes
