-- What a verdict says.
use Rattle.std.specs.Prelude.{◌≡◌, ◌≢◌, ◌⊎◌, ℕ, List, [], ◌∷◌, map}
use Rattle.capture_judge.specs.Placing.{IsPlacement, IsClean}
use Rattle.capture_judge.specs.Verdicts.{IsUnsafe}
use Rattle.capture_judge.specs.Worked.{shown}
use Rattle.capture_judge.specs.declared.values.Chain.{Chain}
use Rattle.capture_judge.specs.declared.values.Change.{Change}
use Rattle.capture_judge.specs.declared.values.Step.{Step}
use Rattle.capture_walk.specs.Chains.{chains_on, files_in}
use Rattle.capture_walk.specs.Events.{events}
use Rattle.capture_walk.specs.Tables.{tables_on}
use Rattle.capture_walk.specs.declared.event.Event.{Event}
use Rattle.capture_walk.specs.declared.note.Seen.{Seen}
use Rattle.capture_texts.specs.Captures.{Shows}
use Rattle.capture_texts.specs.Reports.{IsReport, verdict_of}
use Rattle.capture_texts.specs.declared.finding.CaptureVerdict.TheVariants as verdict
use Rattle.capture_texts.specs.declared.finding.Report.{Report}
use Rattle.capture_texts.specs.declared.line.Line.{Line}
use Rattle.capture_texts.specs.declared.line.Side.{Side}

abbrev pub IsAmong : ℕ → List ℕ → Type 0
IsAmong file [] = ⊥
IsAmong file (one ∷ others) = (one ≡ file) ⊎ IsAmong file others

-- what events show of a file, as chains by the numbers of their clients
abbrev pub Showing : Type 0
Showing = ℕ → List Event → List (ℕ × List Change)

-- Leases are granted on the file, and these are its chains of a kind, in what the lines show.
pub record HasChains (kind : Showing) (at : Side) (past : List Line) (file : ℕ) (chains : List Chain) : Type 0 where
  pub seen : List Seen
  pub unread : ℕ
  pub shows : Shows at past seen unread
  pub among : IsAmong file (files_in (events seen))
  pub are : map shown chains ≡ kind file (events seen)

-- A capture is said to be unsafe only where a file is: the changes of what its clients cache, or of what the server holds for
-- them, can be placed within their bounds, and wherever they are, two clients clash.
abbrev pub UnsafeIsOfAFile : Type 0
UnsafeIsOfAFile = (at : Side) (past : List Line) (report : Report) → IsReport at past report
    → verdict_of report.files.items ≡ verdict.Unsafe
    → (file : ℕ) × (chains : List Chain) × (position : ℕ)
    × (HasChains chains_on at past file chains ⊎ HasChains tables_on at past file chains) × IsUnsafe chains position

-- It is said to be safe only where a file has changes that are placed without a clash, of both kinds.
abbrev pub SafeIsOfAFile : Type 0
SafeIsOfAFile = (at : Side) (past : List Line) (report : Report) → IsReport at past report
    → verdict_of report.files.items ≡ verdict.Safe
    → (file : ℕ) × (chains tables : List Chain) × HasChains chains_on at past file chains × HasChains tables_on at past file tables
    × (chains ≢ []) × ((steps : List Step) × IsPlacement chains steps × IsClean chains steps)
    × ((steps : List Step) × IsPlacement tables steps × IsClean tables steps)
