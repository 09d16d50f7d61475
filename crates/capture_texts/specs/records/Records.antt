-- The record of what is found in a capture.
use Rattle.std.specs.Prelude.{◌≡◌, ◌==◌, ◌+◌, ◌-◌, ℕ, zero, suc, Bool, true, false, not, if◌then◌else◌, List, [], ◌∷◌, ◌++◌}
use Rattle.std.specs.Prelude.{map, length, slice_get}
use Rattle.std.specs.List.{AllZip, flat_map, list_all, list_any}
use Rattle.std.specs.String.{string_bytes}
use Rattle.std.specs.List.Sorted.{IsPermutation, IsSortedByKey, IsStableByKey}
use Rattle.std.specs.Ordering.{nat_cmp}
use Rattle.lease_state.specs.State.{State, nothing_cached}
use Rattle.lease_model.specs.records.Facts as model
use Rattle.lease_facts.specs.Facts.{fact_of}
use Rattle.capture_judge.specs.declared.values.Level.{Level}
use Rattle.capture_judge.specs.declared.values.Level.TheVariants.{Nothing, Something, Writes}
use Rattle.capture_texts.specs.Texts.{counts_text, epoch_text, file_text, lease_text, lost_text}
use Rattle.capture_texts.specs.declared.finding.ClientFinding.{ClientFinding}
use Rattle.capture_texts.specs.declared.finding.EpochFinding.{EpochFinding}
use Rattle.capture_texts.specs.declared.finding.FileFinding.{FileFinding}
use Rattle.capture_texts.specs.declared.finding.LeaseFinding.{LeaseFinding}
use Rattle.capture_texts.specs.declared.finding.Report.{Report}
use Rattle.capture_texts.specs.records.Casts.{clients_of, recorded, IsAt}
use Rattle.capture_texts.specs.records.Changes.{shown, changes_of}
use Rattle.capture_texts.specs.records.Remarks.{belief_of, change_words, client_words, file_words, left_words, name_in, wanted}
use Rattle.capture_texts.specs.declared.records.change.Change.{Change}
use Rattle.capture_texts.specs.declared.records.record.RecordLine.{RecordLine}
use Rattle.capture_texts.specs.declared.records.record.RecordLine.TheVariants as line

-- what a line tells: a fact, or a remark by its bytes
pub data Told : Type 0 where
  Fact : model.Fact → Told
  Remark : List ℕ → Told

abbrev pub told_of : RecordLine → Told
told_of (line.Fact fact) = Told.Fact (fact_of fact)
told_of (line.Remark text) = Told.Remark (string_bytes text)

abbrev pub tells : List RecordLine → List Told
tells lines = map told_of lines

-- the facts among lines
abbrev pub facts_in : List RecordLine → List model.Fact
facts_in [] = []
facts_in (line.Fact fact ∷ lines) = fact_of fact ∷ facts_in lines
facts_in (line.Remark text ∷ lines) = facts_in lines

-- a remark has no line feed in it, which would end it
abbrev pub is_feed : ℕ → Bool
is_feed byte = byte == 10

abbrev pub is_one_line : RecordLine → Bool
is_one_line (line.Fact fact) = true
is_one_line (line.Remark text) = not (list_any is_feed (string_bytes text))

abbrev pub are_lines : List RecordLine → Bool
are_lines lines = list_all is_one_line lines

-- what a client caches, as far as the first rule goes by it
abbrev pub believed : Level → State
believed Nothing = nothing_cached
believed Something = record { read = true; write = false; handle = false }
believed Writes = record { read = true; write = true; handle = false }

-- files and clients are there, numbered from 1, and nothing is known of what is in the files
abbrev pub starts : ℕ → List model.Fact
starts zero = []
starts (suc count) = starts count ++ model.Fact.Start (suc count) [] ∷ []

abbrev pub joins : ℕ → List model.Fact
joins zero = []
joins (suc count) = joins count ++ model.Fact.Joined (suc count) ∷ []

abbrev pub belief : Change → model.Fact
belief change = model.Fact.Believes change.client.0 change.file.0 (believed change.level)

abbrev pub beliefs : List Change → List model.Fact
beliefs changes = map belief changes

abbrev pub position_of : Change → ℕ
position_of change = change.position

-- The changes in the order of their positions, in which those of one position stay as they were.
pub record AreOrdered (changes ordered : List Change) : Type 0 where
  pub same : IsPermutation changes ordered
  pub rise : IsSortedByKey position_of nat_cmp ordered
  pub stay : IsStableByKey position_of nat_cmp changes ordered

-- ---- with the remarks

-- a remark, unless there is a line feed in it
abbrev pub remarked : List ℕ → List Told
remarked text = if list_any is_feed text then [] else Told.Remark text ∷ []

-- each file after a remark, by the places of their findings, of which so many come before
abbrev pub starts_told : List FileFinding → ℕ → List ℕ → List Told
starts_told files count [] = []
starts_told files count (place ∷ places) =
    (remarked (file_words (count + 1) (slice_get files place)) ++ Told.Fact (model.Fact.Start (count + 1) []) ∷ [])
    ++ starts_told files (count + 1) places

abbrev pub joins_told : List FileFinding → ℕ → List ℕ → List Told
joins_told files count [] = []
joins_told files count (client ∷ clients) =
    (remarked (client_words (count + 1) (name_in client files)) ++ Told.Fact (model.Fact.Joined (count + 1)) ∷ [])
    ++ joins_told files (count + 1) clients

abbrev pub left_told : ℕ → List Told
left_told zero = []
left_told (suc count) = remarked (left_words (suc count))

abbrev pub belief_told : List FileFinding → Change → List Told
belief_told files change = remarked (change_words (belief_of files change)) ++ Told.Fact (belief change) ∷ []

abbrev pub beliefs_told : List FileFinding → List Change → List Told
beliefs_told files changes = flat_map (belief_told files) changes

-- ---- what is found, as remarks

abbrev pub lease_remark : LeaseFinding → List Told
lease_remark finding = remarked (lease_text finding)

abbrev pub file_remarks : FileFinding → List Told
file_remarks file = remarked (file_text file) ++ flat_map lease_remark file.leases.items

abbrev pub lost_remark : ClientFinding → List Told
lost_remark finding = remarked (lost_text finding)

abbrev pub epoch_remark : EpochFinding → List Told
epoch_remark finding = remarked (epoch_text finding)

abbrev pub notes_told : Report → List Told
notes_told report = flat_map file_remarks report.files.items
    ++ (flat_map lost_remark report.clients.items
    ++ (flat_map epoch_remark report.epochs.items ++ remarked (counts_text report.counts)))

-- ---- the whole

-- These are the facts of the record of what is found of these files, and this is what its lines tell, with the remarks.
pub record IsRecord (files : List FileFinding) (facts : List model.Fact) (lines : List Told) : Type 0 where
  pub places : List ℕ
  pub changes : List Change
  pub ordered : List Change
  pub of : AllZip (IsAt files) places (recorded files)
  pub are : map shown changes ≡ changes_of (clients_of (recorded files)) places (recorded files)
  pub in-order : AreOrdered changes ordered
  pub told : facts ≡ starts (length (recorded files)) ++ joins (length (clients_of (recorded files))) ++ beliefs ordered
  pub remarks : lines ≡ starts_told files 0 places ++ (joins_told files 0 (clients_of (recorded files))
      ++ (left_told (wanted files - length places) ++ beliefs_told files ordered))
