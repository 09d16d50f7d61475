-- Lease records and file summaries, and when they agree with a list of opens.
use Rattle.std.specs.Prelude.{◌≡◌, ℕ, Bool, true, false, not, ◌&&◌, ◌==◌, is_some, Option, Some, None, List, ◌∷◌, ◌++◌, ⊤, ◌||◌}
use Rattle.std.specs.Prelude.{if◌then◌else◌}
use Rattle.std.specs.List.{list_any}
use Rattle.std.specs.BTreeMap.{get}
use Rattle.std.specs.BTreeSet.{contains}
use Rattle.std.specs.declared.cmp.Ordering.{Ordering}
use Rattle.std.specs.Ordering.{nat_cmp, on}
use Rattle.lease_manager.specs.declared.values.number.FileNo.{FileNo}
use Rattle.lease_model.specs.server.State.{Server, Open, Lease, no_lease, has_key}
use Rattle.lease_model.specs.values.Keys.{Key, key_eq}
use Rattle.lease_manager.specs.Hindering.{breaks_handle, is_harmless, marks_of}
use Rattle.lease_manager.specs.KeyOrder.{key_order}
use Rattle.lease_manager.specs.Leases.{lease_of}
use Rattle.lease_manager.specs.Looks.{is_elsewhere}
use Rattle.lease_manager.specs.Tallies.{tally_of, count, tally_raised, tally_lowered, raised, lowered}
use Rattle.lease_manager.specs.declared.tables.file_summary.FileSummary.{FileSummary}
use Rattle.lease_manager.specs.declared.tables.lease_marks.LeaseMarks.{LeaseMarks}
use Rattle.lease_manager.specs.declared.tables.summaries.LeaseRecord.{LeaseRecord}
use Rattle.lease_manager.specs.declared.tables.summaries.Summaries.{Summaries}
use Rattle.lease_manager.specs.declared.tables.tally.Tally.{Tally}

-- ---- what is asked of opens

abbrev pub is_on : ℕ → Open → Bool
is_on file one = one.file == file

abbrev pub has_key_on : ℕ → Key → Open → Bool
has_key_on file key one = is_on file one && has_key key one

-- it has no key, and counts as a key of its own (profile)
abbrev pub is_keyless_on : ℕ → Open → Bool
is_keyless_on file one = is_on file one && not (is_some one.lease_key)

-- the one list has an open more than the other, somewhere
pub record IsOneMore (one : Open) (less : List Open) (more : List Open) : Type 0 where
  pub before : List Open
  pub behind : List Open
  pub is_less : less ≡ before ++ behind
  pub is_more : more ≡ before ++ one ∷ behind

-- ---- what the maps have

abbrev pub file_order : FileNo → FileNo → Ordering
file_order = on (λ file. file.0) nat_cmp

abbrev pub record_at : Summaries → Key → Option LeaseRecord
record_at summaries key = get key_order summaries.leases key

abbrev pub summary_at : Summaries → FileNo → Option FileSummary
summary_at summaries file = get file_order summaries.files file

abbrev pub lease_or_none : Option LeaseRecord → Lease
lease_or_none None = no_lease
lease_or_none (Some known) = lease_of known.lease

abbrev pub tally_in : Option LeaseRecord → Tally
tally_in None = record { opens = 0; reads = 0; writes = 0; refuses_reads = 0; refuses_writes = 0 }
tally_in (Some known) = known.tally

-- the lease of a key; a key without a record has none
abbrev pub lease_in : Summaries → Key → Lease
lease_in summaries key = lease_or_none (record_at summaries key)

-- the records before and after a change at one key
pub record IsKeyChanged (key : Key) (before : Key → Option LeaseRecord) (after : Key → Option LeaseRecord)
    (known : Option LeaseRecord) : Type 0 where
  pub there : after key ≡ known
  pub apart : (other : Key) → key_eq other key ≡ false → after other ≡ before other

-- ---- agreement with a list of opens

-- A lease record: its counts are of the opens that have the key, of which there are some, all of them on its file.
pub record IsRecord (key : Key) (opens : List Open) (known : LeaseRecord) : Type 0 where
  pub tally : known.tally ≡ tally_of (has_key key) opens
  pub is_used : list_any (has_key key) opens ≡ true
  pub one_file : list_any (is_elsewhere key known.file.0) opens ≡ false

-- a key that no open has has no record
abbrev pub RecordFits : Key → List Open → Option LeaseRecord → Type 0
RecordFits key opens None = list_any (has_key key) opens ≡ false
RecordFits key opens (Some known) = IsRecord key opens known

-- What a file summary says of the opens on its file: their counts, the keys that they have, how many have none, of
-- which of the keys the lease holds W, of which it holds H, of which it holds H and is breaking, and of which it hinders
-- no write.
pub record SumsUp (file : ℕ) (opens : List Open) (leases : Key → Lease) (summary : FileSummary) : Type 0 where
  pub tally : summary.tally ≡ tally_of (is_on file) opens
  pub keys : (key : Key) → contains key_order summary.keys key ≡ list_any (has_key_on file key) opens
  pub keyless : summary.keyless ≡ count (is_keyless_on file) opens
  pub writers : (key : Key) → contains key_order summary.writers key
      ≡ (list_any (has_key_on file key) opens && (leases key).state.write)
  pub handlers : (key : Key) → contains key_order summary.handlers key
      ≡ (list_any (has_key_on file key) opens && (leases key).state.handle)
  pub breaking : (key : Key) → contains key_order summary.breaking key
      ≡ (list_any (has_key_on file key) opens && breaks_handle (leases key))
  pub harmless : (key : Key) → contains key_order summary.harmless key
      ≡ (list_any (has_key_on file key) opens && is_harmless (leases key))

-- what a summary becomes with an open more, of whose lease this is marked
pub record Gains (one : Open) (marks : LeaseMarks) (old : FileSummary) (new : FileSummary) : Type 0 where
  pub tally : new.tally ≡ tally_raised one old.tally
  pub keys : (key : Key) → contains key_order new.keys key ≡ (has_key key one || contains key_order old.keys key)
  pub keyless : new.keyless ≡ raised (not (is_some one.lease_key)) old.keyless
  pub writers : (key : Key) → contains key_order new.writers key
      ≡ (if has_key key one then marks.writes else contains key_order old.writers key)
  pub handlers : (key : Key) → contains key_order new.handlers key
      ≡ (if has_key key one then marks.handles else contains key_order old.handlers key)
  pub breaking : (key : Key) → contains key_order new.breaking key
      ≡ (if has_key key one then marks.breaks else contains key_order old.breaking key)
  pub harmless : (key : Key) → contains key_order new.harmless key
      ≡ (if has_key key one then marks.harmless else contains key_order old.harmless key)

-- what it becomes with an open less, the last of its key or not
pub record Loses (one : Open) (last : Bool) (old : FileSummary) (new : FileSummary) : Type 0 where
  pub tally : new.tally ≡ tally_lowered one old.tally
  pub keys : (key : Key) → contains key_order new.keys key
      ≡ (contains key_order old.keys key && not (has_key key one && last))
  pub keyless : new.keyless ≡ lowered (not (is_some one.lease_key)) old.keyless
  pub writers : (key : Key) → contains key_order new.writers key
      ≡ (contains key_order old.writers key && not (has_key key one && last))
  pub handlers : (key : Key) → contains key_order new.handlers key
      ≡ (contains key_order old.handlers key && not (has_key key one && last))
  pub breaking : (key : Key) → contains key_order new.breaking key
      ≡ (contains key_order old.breaking key && not (has_key key one && last))
  pub harmless : (key : Key) → contains key_order new.harmless key
      ≡ (contains key_order old.harmless key && not (has_key key one && last))

-- what it becomes where this is marked of the lease of a key
pub record IsMarked (key : Key) (marks : LeaseMarks) (old : FileSummary) (new : FileSummary) : Type 0 where
  pub tally : new.tally ≡ old.tally
  pub keys : new.keys ≡ old.keys
  pub keyless : new.keyless ≡ old.keyless
  pub writers : (other : Key) → contains key_order new.writers other
      ≡ (if key_eq other key then marks.writes else contains key_order old.writers other)
  pub handlers : (other : Key) → contains key_order new.handlers other
      ≡ (if key_eq other key then marks.handles else contains key_order old.handlers other)
  pub breaking : (other : Key) → contains key_order new.breaking other
      ≡ (if key_eq other key then marks.breaks else contains key_order old.breaking other)
  pub harmless : (other : Key) → contains key_order new.harmless other
      ≡ (if key_eq other key then marks.harmless else contains key_order old.harmless other)

-- the same, where there are some
pub record IsSummary (file : ℕ) (opens : List Open) (leases : Key → Lease) (summary : FileSummary) : Type 0 where
  pub is_used : list_any (is_on file) opens ≡ true
  pub sums_up : SumsUp file opens leases summary

-- a file without an open has no summary
abbrev pub SummaryFits : ℕ → List Open → (Key → Lease) → Option FileSummary → Type 0
SummaryFits file opens leases None = list_any (is_on file) opens ≡ false
SummaryFits file opens leases (Some summary) = IsSummary file opens leases summary

-- Records and summaries agree with the list of opens.
pub record Agrees (summaries : Summaries) (opens : List Open) : Type 0 where
  pub records : (key : Key) → RecordFits key opens (record_at summaries key)
  pub files : (file : FileNo) → SummaryFits file.0 opens (lease_in summaries) (summary_at summaries file)

-- the leases after an open has come: those of other keys as before, and the open's key at home on its file
pub record AreAfter (one : Open) (marks : LeaseMarks) (less : List Open) (leases later : Key → Lease) : Type 0 where
  pub same : (key : Key) → has_key key one ≡ false → later key ≡ leases key
  pub own : (key : Key) → has_key key one ≡ true → marks_of (later key) ≡ marks
  pub home : (key : Key) → has_key key one ≡ true → list_any (is_elsewhere key one.file) less ≡ false

-- the leases after an open has gone: those of keys that still have one as before
abbrev pub AreLeft : List Open → (Key → Lease) → (Key → Lease) → Type 0
AreLeft less leases later = (key : Key) → list_any (has_key key) less ≡ true → later key ≡ leases key

-- the key's lease is another one
abbrev pub IsPut : Key → LeaseMarks → (Key → Lease) → (Key → Lease) → Type 0
IsPut key marks leases later =
    ((other : Key) → key_eq other key ≡ false → later other ≡ leases other)
    × ((other : Key) → key_eq other key ≡ true → marks_of (later other) ≡ marks)

-- no open of the key is on another file
abbrev pub IsAtHome : Option Key → ℕ → List Open → Type 0
IsAtHome None file opens = ⊤
IsAtHome (Some key) file opens = list_any (is_elsewhere key file) opens ≡ false

-- the opens of the key are on this file; where there is none, no open has the key
abbrev pub IsHome : Key → List Open → Option ℕ → Type 0
IsHome key opens None = list_any (has_key key) opens ≡ false
IsHome key opens (Some file) = list_any (is_elsewhere key file) opens ≡ false

-- Records and summaries stand for the opens and leases of a server.
pub record StandFor (summaries : Summaries) (server : Server) : Type 0 where
  pub agree : Agrees summaries server.opens
  pub leases : (key : Key) → server.leases key ≡ lease_in summaries key
