-- Why a verdict is what it is: the facts that a rule speaks of, by their places.
use Rattle.std.specs.Prelude.{◌≡◌, ℕ, ◌+◌, ◌≤◌, Bool, true, false, List, ◌∷◌, ◌++◌, length, reverse, Option, Some, None, bytes_eq}
use Rattle.lease_state.specs.Content.{end_of}
use Rattle.lease_state.specs.declared.patch.Patch.{Patch}
use Rattle.lease_model.specs.client.Commands.{Settlement}
use Rattle.lease_model.specs.records.Facts.{Fact}
use Rattle.lease_model.specs.records.Past.{is_started, is_good, has_joined, has_strayed, is_accepted, last_sending, sendings}
use Rattle.lease_model.specs.records.Past.{takings}
use Rattle.lease_model.specs.values.Patches.{is_within_limit}
use Rattle.lease_facts.specs.declared.verdict.Verdict.{Verdict}
use Rattle.lease_facts.specs.declared.verdict.Verdict.TheVariants as verdict
use Rattle.lease_facts.specs.declared.verdict.Rule.{Rule}
use Rattle.lease_facts.specs.declared.verdict.Rule.TheVariants as rule
use Rattle.lease_reasons.specs.Beliefs.{AreRivals}
use Rattle.lease_reasons.specs.Marks.{fits}
use Rattle.lease_reasons.specs.Places.{last_place, first_place}
use Rattle.lease_reasons.specs.Reads.{IsExpected}
use Rattle.lease_reasons.specs.declared.marks.Mark.TheVariants as mark
use Rattle.lease_reasons.specs.declared.reason.Reason.{Reason}
use Rattle.lease_reasons.specs.declared.reason.Reason.TheVariants as reason

-- the file that a fact names, where that has to be started before
abbrev pub named_file : Fact → Option ℕ
named_file (Fact.Expired client file) = Some file
named_file (Fact.Opened file client) = Some file
named_file (Fact.Changed file client number patch) = Some file
named_file (Fact.Wrote client file number patch buffered) = Some file
named_file (Fact.Believes client file state) = Some file
named_file (Fact.CachedRead client file bytes) = Some file
named_file _ = None

-- the patch that a fact tells
abbrev pub told_patch : Fact → Option Patch
told_patch (Fact.Changed file client number patch) = Some patch
told_patch (Fact.Wrote client file number patch buffered) = Some patch
told_patch _ = None

-- The reason is one of this fact, whose past these facts are.
abbrev pub IsReason : Fact → List Fact → Reason → Type 0
IsReason fact past (reason.NotStarted file) = (named_file fact ≡ Some file.0) × (is_started file.0 past ≡ false)
IsReason fact past (reason.StartedAgain file before) =
    (bytes : List ℕ) × (fact ≡ Fact.Start file.0 bytes) × (last_place (fits (mark.Start file)) past ≡ Some before)
IsReason fact past (reason.PastLimit end) =
    (patch : Patch) × (told_patch fact ≡ Some patch) × (end ≡ end_of patch) × (is_within_limit patch ≡ false)
IsReason fact past (reason.NumberUsed client number before) =
    (file : ℕ) × (patch : Patch) × (buffered : Bool) × (fact ≡ Fact.Wrote client.0 file number patch buffered)
    × (last_place (fits (mark.Write client number)) past ≡ Some before)
IsReason fact past (reason.NotJoined client) = (fact ≡ Fact.Took client.0) × (has_joined client.0 past ≡ false)
IsReason fact past (reason.NothingToTake client joined sent) =
    (fact ≡ Fact.Took client.0) × (last_place (fits (mark.Joining client)) past ≡ Some joined)
    × (sent ≡ length (sendings client.0 past)) × (sent ≤ takings client.0 past)
IsReason fact past (reason.TwoCaches file writer other) = AreRivals (fact ∷ past) file.0 writer other
IsReason fact past (reason.NoMessage client file) =
    (bytes : List ℕ) × (fact ≡ Fact.CachedRead client.0 file.0 bytes) × (is_good client.0 past ≡ true)
    × (last_sending client.0 past ≡ None)
IsReason fact past (reason.StaleRead client file expected) =
    (bytes : List ℕ) × (fact ≡ Fact.CachedRead client.0 file.0 bytes) × (is_good client.0 past ≡ true)
    × IsExpected client file past expected × (bytes_eq bytes expected.bytes ≡ false)
IsReason fact past (reason.LateWrite client file number wrote touched) =
    (patch : Patch) × (fact ≡ Fact.Changed file.0 client.0 number patch) × (has_strayed client.0 past ≡ false)
    × (first_place (fits (mark.Buffering client file number)) 0 past ≡ Some wrote)
    × (first_place (fits (mark.Touch client file)) wrote past ≡ Some touched)
IsReason fact past (reason.FalseDone client number wrote changed) =
    (fact ≡ Fact.Settled client.0 number Settlement.Done) × (has_strayed client.0 past ≡ false)
    × (is_accepted client.0 number past ≡ false)
    × (last_place (fits (mark.Write client number)) past ≡ wrote)
    × (last_place (fits (mark.ChangeBy client number)) past ≡ changed)

-- the rule that is broken; none where the fact is malformed
abbrev pub rule_of : Reason → Option Rule
rule_of (reason.TwoCaches file writer other) = Some rule.OneWriteCache
rule_of (reason.NoMessage client file) = Some rule.FreshCachedReads
rule_of (reason.StaleRead client file expected) = Some rule.FreshCachedReads
rule_of (reason.LateWrite client file number wrote touched) = Some rule.NoLateWrite
rule_of (reason.FalseDone client number wrote changed) = Some rule.NoFalseDone
rule_of _ = None

-- There is a reason, of this rule or of none, and it is one of this fact, whose past these facts are.
abbrev pub Told : Fact → List Fact → Option Rule → Option Reason → Type 0
Told fact past broken told = (one : Reason) × (told ≡ Some one) × (rule_of one ≡ broken) × IsReason fact past one

-- The reason is one of the fact at this place.
pub record IsReasonAt (facts : List Fact) (place : ℕ) (broken : Option Rule) (told : Option Reason) : Type 0 where
  pub before : List Fact
  pub fact : Fact
  pub later : List Fact
  pub parts : facts ≡ before ++ fact ∷ later
  pub place_is : place ≡ length before + 1
  pub reason : Told fact (reverse before) broken told

-- A safe record has no reason; any other verdict has one, of its place and its rule.
abbrev pub Explains : List Fact → Verdict → Option Reason → Type 0
Explains facts verdict.Safe told = told ≡ None
Explains facts (verdict.Unsafe place broken) told = IsReasonAt facts place (Some broken) told
Explains facts (verdict.Malformed place) told = IsReasonAt facts place None told
