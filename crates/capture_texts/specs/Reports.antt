-- What is said of a capture: of each file what is decided of it, and of the whole a verdict. Lines, and messages that are seen,
-- have the newest one first.
use Rattle.std.specs.Prelude.{◌≡◌, ◌≢◌, ◌-◌, ◌/◌, ℕ, nat_lt, Bool, true, false, not, ◌&&◌, if◌then◌else◌, ◌==◌, ⊤, List, [], ◌∷◌, length}
use Rattle.std.specs.Prelude.{map, filter, reverse, Option, Some, None, slice_get}
use Rattle.std.specs.List.{list_any, AllZip}
use Rattle.std.specs.Option.{option_map}
use Rattle.capture_judge.specs.Beginnings.{IsCrowded}
use Rattle.capture_judge.specs.Levels.{AreLevels}
use Rattle.capture_judge.specs.Placing.{IsPlacement, IsClean, IsCleanBefore}
use Rattle.capture_judge.specs.Verdicts.{IsUnsafe}
use Rattle.capture_judge.specs.Worked.{shown}
use Rattle.capture_judge.specs.declared.values.Chain.{Chain}
use Rattle.capture_judge.specs.declared.values.Level.{Level}
use Rattle.capture_judge.specs.declared.values.Step.{Step}
use Rattle.capture_walk.specs.Chains.{chains_on, files_in}
use Rattle.capture_walk.specs.Tables.{tables_on}
use Rattle.capture_walk.specs.Events.{events}
use Rattle.capture_walk.specs.Clients.{guid_of}
use Rattle.capture_walk.specs.Files.{place_of_life, Place}
use Rattle.capture_walk.specs.Opens.{lives}
use Rattle.capture_walk.specs.Told.{leases_told}
use Rattle.capture_walk.specs.declared.event.Acknowledged.{Acknowledged}
use Rattle.capture_walk.specs.declared.event.Break.{Break}
use Rattle.capture_walk.specs.declared.event.Event.{Event}
use Rattle.capture_walk.specs.declared.event.Event.TheVariants as event
use Rattle.capture_walk.specs.declared.event.Loss.{Loss}
use Rattle.capture_walk.specs.declared.event.Misnumbered.{Misnumbered}
use Rattle.capture_walk.specs.declared.note.Seen.{Seen}
use Rattle.capture_walk.specs.declared.told.LeaseTold.{LeaseTold}
use Rattle.capture_texts.specs.Captures.{Shows, moments, has_frame}
use Rattle.capture_texts.specs.Connections.{client_in, ends_of}
use Rattle.capture_texts.specs.Servers.{servers, address_of}
use Rattle.capture_texts.specs.declared.finding.Belief.{Belief}
use Rattle.capture_texts.specs.declared.finding.BreakFinding.{BreakFinding}
use Rattle.capture_texts.specs.declared.finding.CaptureVerdict.{CaptureVerdict}
use Rattle.capture_texts.specs.declared.finding.CaptureVerdict.TheVariants as verdict
use Rattle.capture_texts.specs.declared.finding.ClientFinding.{ClientFinding}
use Rattle.capture_texts.specs.declared.finding.ClientName.{ClientName}
use Rattle.capture_texts.specs.declared.finding.EpochFinding.{EpochFinding}
use Rattle.capture_texts.specs.declared.finding.FileFinding.{FileFinding}
use Rattle.capture_texts.specs.declared.finding.FilePlace.{FilePlace}
use Rattle.capture_texts.specs.declared.finding.Judged.{Judged}
use Rattle.capture_texts.specs.declared.finding.Judged.TheVariants as judged
use Rattle.capture_texts.specs.declared.finding.LeaseFinding.{LeaseFinding}
use Rattle.capture_texts.specs.declared.finding.Report.{Report}
use Rattle.capture_texts.specs.declared.line.Line.{Line}
use Rattle.capture_texts.specs.declared.line.Moment.{Moment}
use Rattle.capture_texts.specs.declared.line.Side.{Side}

-- ---- what is decided of a file, by its chains

abbrev pub is_unsafe : Judged → Bool
is_unsafe (judged.Unsafe clash) = true
is_unsafe (judged.Granted clash) = true
is_unsafe _ = false

-- up to which position clients clash, if they do
abbrev pub until : Judged → Option ℕ
until (judged.Unsafe clash) = Some clash.position
until (judged.Granted clash) = Some clash.position
until _ = None

abbrev pub is_safe : Judged → Bool
is_safe judged.Safe = true
is_safe _ = false

-- the moment of the line that has a position: the first line has 1 and 2
abbrev pub moment_at : ℕ → List Moment → Option Moment
moment_at position known = slice_get known ((position - 1) / 2)

-- the moment of a position, if it isn't that before all lines
abbrev pub moment_since : ℕ → List Moment → Option Moment
moment_since position known = if position == 0 then None else moment_at position known

-- The belief is where the step is, and of the client of its chain.
pub record IsBelief (known : List Moment) (chains : List Chain) (step : Step) (belief : Belief) : Type 0 where
  pub client-is : (chain : Chain) → slice_get chains step.chain ≡ Some chain → belief.client ≡ chain.client
  pub position-is : belief.position ≡ step.position
  pub moment-is : belief.moment ≡ moment_since step.position known

abbrev pub level_believed : Belief → Level
level_believed belief = belief.level

-- One for each step, in their order, with what its client caches after it.
pub record AreBeliefs (known : List Moment) (chains : List Chain) (steps : List Step) (beliefs : List Belief) : Type 0 where
  pub each : AllZip (IsBelief known chains) steps beliefs
  pub levels : AreLevels chains (reverse steps) (reverse (map level_believed beliefs))

-- These steps place the changes of a file, and lead to the beliefs.
pub record IsStory (known : List Moment) (chains : List Chain) (beliefs : List Belief) (steps : List Step) : Type 0 where
  pub placed : IsPlacement chains (reverse steps)
  pub told : AreBeliefs known chains steps beliefs

abbrev pub IsJudged : List Moment → List Chain → List Belief → Judged → Type 0
IsJudged known chains beliefs judged.NoClient = (chains ≡ []) × (beliefs ≡ [])
IsJudged known chains beliefs judged.Safe =
    (chains ≢ []) × (steps : List Step) × IsStory known chains beliefs steps × IsClean chains (reverse steps)
IsJudged known chains beliefs (judged.Unsafe clash) =
    IsUnsafe chains clash.position × (clash.moment ≡ moment_at clash.position known)
    × (steps : List Step) × IsStory known chains beliefs steps × IsCleanBefore chains clash.position (reverse steps)
IsJudged known chains beliefs (judged.Granted clash) = ⊥
IsJudged known chains beliefs judged.Contradictory =
    ((steps : List Step) → IsPlacement chains steps → ⊥) × (beliefs ≡ [])
IsJudged known chains beliefs judged.TooMany = IsCrowded chains × (beliefs ≡ [])

-- ---- and by those of the server's own table

-- Where what its clients cached clashes, it is unsafe; where only what the server held for them does, by what that granted. It is
-- safe only by both.
abbrev pub with_held : Judged → Judged → Judged
with_held believed (judged.Unsafe clash) = judged.Granted clash
with_held believed held = if is_safe believed then held else believed

abbrev pub joined : Judged → Judged → Judged
joined believed held = if is_unsafe believed then believed else with_held believed held

abbrev pub beliefs_told : Judged → Judged → List Belief → List Belief → List Belief
beliefs_told believed held cached granted = if is_unsafe held && not (is_unsafe believed) then granted else cached

-- The file with these chains and these of the server's table is judged so.
pub record IsJudgedBy (known : List Moment) (chains tables : List Chain) (beliefs : List Belief) (decided : Judged) : Type 0 where
  pub believed : Judged
  pub held : Judged
  pub cached : List Belief
  pub granted : List Belief
  pub by-clients : IsJudged known chains cached believed
  pub by-server : IsJudged known tables granted held
  pub decided-is : decided ≡ joined believed held
  pub told : beliefs ≡ beliefs_told believed held cached granted

-- ---- what the server had said of leases

-- nothing is told of leases where none clash
abbrev pub told_until : ℕ → List Event → Option ℕ → List LeaseTold
told_until file events None = []
told_until file events (Some position) = leases_told file position events

abbrev pub moment_given : Option Acknowledged → List Moment → Option Moment
moment_given None known = None
moment_given (Some given) known = moment_at given.last known

pub record IsBreakFound (known : List Moment) (one : Break) (given : Option Acknowledged) (finding : BreakFinding) : Type 0 where
  pub state_is : finding.state ≡ one.state
  pub moment_is : finding.moment ≡ moment_at one.sent.position known
  pub wanted_is : finding.wants_acknowledgment ≡ one.acknowledged
  pub acknowledged_is : finding.acknowledged ≡ moment_given given known

abbrev pub IsBreakOf : List Moment → Option Break → Option Acknowledged → Option BreakFinding → Type 0
IsBreakOf known None given None = ⊤
IsBreakOf known None given (Some finding) = ⊥
IsBreakOf known (Some one) given None = ⊥
IsBreakOf known (Some one) given (Some finding) = IsBreakFound known one given finding

-- This is what was said of a lease.
pub record IsLeaseFound (past : List Line) (seen : List Seen) (told : LeaseTold) (finding : LeaseFinding) : Type 0 where
  pub client_is : finding.client.number ≡ told.grant.lease.client
  pub guid_is : finding.guid ≡ guid_of told.grant.lease.client seen
  pub key_is : finding.key ≡ told.grant.lease.key
  pub state_is : finding.state ≡ told.grant.state
  pub granted_is : finding.granted ≡ moment_at told.grant.sent.position (moments past)
  pub connection_is : finding.connection ≡ client_in (ends_of told.grant.sent.connection past)
  pub broken_is : IsBreakOf (moments past) told.broken told.acknowledged finding.broken

abbrev pub AreLeasesFound : List Line → List Seen → List LeaseTold → List LeaseFinding → Type 0
AreLeasesFound past seen told findings = AllZip (IsLeaseFound past seen) told findings

-- ---- files

abbrev pub place_named : List (List ℕ) → Place → FilePlace
place_named addresses place = record {
  server = address_of place.server addresses;
  path = place.path;
  name = place.name;
}

abbrev pub number_named : ClientName → ℕ
number_named name = name.number

abbrev pub chain_client : Chain → ℕ
chain_client chain = chain.client

-- What is found of a file, by what is seen.
pub record IsFound (past : List Line) (seen : List Seen) (file : ℕ) (finding : FileFinding) : Type 0 where
  pub file_is : finding.file ≡ file
  pub place_is : finding.place ≡ option_map (place_named (servers past)) (place_of_life file (lives seen))
  pub chains : List Chain
  pub tables : List Chain
  pub shows : map shown chains ≡ chains_on file (events seen)
  pub holds : map shown tables ≡ tables_on file (events seen)
  pub judged_is : IsJudgedBy (moments past) chains tables finding.beliefs.items finding.judged
  pub clients_are : map number_named finding.clients.items ≡ map chain_client chains
  pub leases_are : AreLeasesFound past seen (told_until file (events seen) (until finding.judged)) finding.leases.items

-- one for each file, in their order
abbrev pub AreFound : List Line → List Seen → List ℕ → List FileFinding → Type 0
AreFound past seen files findings = AllZip (IsFound past seen) files findings

-- ---- clients that aren't judged

abbrev pub is_of : ℕ → Loss → Bool
is_of client loss = loss.client == client

-- of the losses of one client that from which on least is known: the first of those with the lowest position
abbrev pub greater : Loss → Loss → Loss
greater loss one = if nat_lt loss.since one.since then loss else one

abbrev pub with_loss : Loss → List Loss → List Loss
with_loss loss [] = loss ∷ []
with_loss loss (one ∷ others) = if is_of loss.client one then greater loss one ∷ others else one ∷ with_loss loss others

abbrev pub losses_behind : List Loss → List Event → List Loss
losses_behind found [] = found
losses_behind found (event.Lost loss ∷ later) = losses_behind (with_loss loss found) later
losses_behind found (_ ∷ later) = losses_behind found later

abbrev pub losses : List Event → List Loss
losses events = losses_behind [] events

pub record IsClientFound (known : List Moment) (loss : Loss) (finding : ClientFinding) : Type 0 where
  pub client_is : finding.client.number ≡ loss.client
  pub since_is : finding.since ≡ moment_since loss.since known
  pub reason_is : finding.reason ≡ loss.reason

abbrev pub AreClientsFound : List Line → List Loss → List ClientFinding → Type 0
AreClientsFound past losses findings = AllZip (IsClientFound (moments past)) losses findings

-- ---- epochs that don't follow on

abbrev pub epochs : List Event → List Misnumbered
epochs [] = []
epochs (event.Misnumbered one ∷ later) = one ∷ epochs later
epochs (_ ∷ later) = epochs later

pub record IsEpochFound (known : List Moment) (one : Misnumbered) (finding : EpochFinding) : Type 0 where
  pub client_is : finding.client.number ≡ one.lease.client
  pub moment_is : finding.moment ≡ moment_at one.position known
  pub before_is : finding.before ≡ one.before
  pub epoch_is : finding.epoch ≡ one.epoch

abbrev pub AreEpochsFound : List Line → List Misnumbered → List EpochFinding → Type 0
AreEpochsFound past found findings = AllZip (IsEpochFound (moments past)) found findings

-- ---- the whole

-- the verdict on a capture, by what is found of its files
abbrev pub verdict_of : List FileFinding → CaptureVerdict
verdict_of files =
    if list_any (λ one. is_unsafe one.judged) files then verdict.Unsafe
    else if list_any (λ one. is_safe one.judged) files then verdict.Safe
    else verdict.NothingJudged

-- The report is that of a capture with these lines, made at this side.
pub record IsReport (at : Side) (past : List Line) (report : Report) : Type 0 where
  pub seen : List Seen
  pub unread : ℕ
  pub shows : Shows at past seen unread
  pub files : AreFound past seen (files_in (events seen)) report.files.items
  pub clients : AreClientsFound past (losses (events seen)) report.clients.items
  pub epochs : AreEpochsFound past (epochs (events seen)) report.epochs.items
  pub frames : report.counts.frames ≡ length (filter has_frame past)
  pub unread_is : report.counts.unread ≡ unread
