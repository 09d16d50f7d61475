-- The reasons that the calls of this crate find.
use Rattle.std.specs.Prelude.{◌≡◌, ◌⊎◌, ℕ, List, length, Option, Some, None, if◌then◌else◌, nat_lt}
use Rattle.lease_state.specs.Content.{end_of}
use Rattle.lease_state.specs.declared.number.ClientNo.{ClientNo}
use Rattle.lease_state.specs.declared.number.FileNo.{FileNo}
use Rattle.lease_state.specs.declared.patch.Patch.{Patch}
use Rattle.lease_facts.specs.declared.fact.Fact as code
use Rattle.lease_facts.specs.declared.fact.Fact.TheVariants as fact
use Rattle.lease_model.specs.records.Facts.{Fact}
use Rattle.lease_model.specs.records.Past.{last_sending}
use Rattle.lease_client.specs.declared.values.note.Settlement.{Settlement}
use Rattle.lease_client.specs.declared.values.note.Settlement.TheVariants as settlement
use Rattle.lease_model.specs.values.Patches.{is_within_limit}
use Rattle.lease_reasons.specs.Marks.{fits}
use Rattle.lease_reasons.specs.Messages.{mail_of}
use Rattle.lease_reasons.specs.Places.{last_place, first_place}
use Rattle.lease_reasons.specs.Reads.{IsExpected}
use Rattle.lease_reasons.specs.declared.reason.Expected.{Expected}
use Rattle.lease_reasons.specs.declared.marks.Mark.TheVariants as mark
use Rattle.lease_reasons.specs.declared.reason.Reason.{Reason}
use Rattle.lease_reasons.specs.declared.reason.Reason.TheVariants as reason

abbrev pub with_place : Option ℕ → (ℕ → Option Reason) → Option Reason
with_place None tell = None
with_place (Some place) tell = tell place

abbrev pub unless_place : Option ℕ → Reason → Option Reason
unless_place None told = Some told
unless_place (Some place) told = None

abbrev pub or_reason : Option Reason → Option Reason → Option Reason
or_reason None later = later
or_reason (Some one) later = Some one

-- ---- malformed facts

abbrev pub not_started : FileNo → List Fact → Option Reason
not_started file past = unless_place (last_place (fits (mark.Start file)) past) (reason.NotStarted file)

abbrev pub started_again : FileNo → List Fact → Option Reason
started_again file past = with_place (last_place (fits (mark.Start file)) past) (λ before. Some (reason.StartedAgain file before))

abbrev pub past_limit : Patch → Option Reason
past_limit patch = if is_within_limit patch then None else Some (reason.PastLimit (end_of patch))

abbrev pub number_used : ClientNo → ℕ → List Fact → Option Reason
number_used client number past =
    with_place (last_place (fits (mark.Write client number)) past) (λ before. Some (reason.NumberUsed client number before))

abbrev pub taken_none : ClientNo → List Fact → Option ℕ → Option Reason
taken_none client past None = Some (reason.NotJoined client)
taken_none client past (Some joined) =
    if nat_lt (mail_of client.0 past).taken (length (mail_of client.0 past).sent) then None
    else Some (reason.NothingToTake client joined (length (mail_of client.0 past).sent))

-- why a fact is malformed, if it is
abbrev pub malformed : code.Fact → List Fact → Option Reason
malformed (fact.Start file bytes) past = started_again file past
malformed (fact.Expired client file) past = not_started file past
malformed (fact.Took client) past = taken_none client past (last_place (fits (mark.Joining client)) past)
malformed (fact.Opened file client) past = not_started file past
malformed (fact.Changed file client number patch) past = or_reason (not_started file past) (past_limit patch)
malformed (fact.Wrote client file number patch buffered) past =
    or_reason (not_started file past) (or_reason (past_limit patch) (number_used client number past))
malformed (fact.Believes client file state) past = not_started file past
malformed (fact.CachedRead client file bytes) past = not_started file past
malformed _ past = None

-- ---- writes

abbrev pub late_write : ClientNo → FileNo → ℕ → List Fact → Option Reason
late_write client file number past =
    with_place (first_place (fits (mark.Buffering client file number)) 0 past) (λ wrote.
    with_place (first_place (fits (mark.Touch client file)) wrote past) (λ touched.
    Some (reason.LateWrite client file number wrote touched)))

abbrev pub false_done : ClientNo → ℕ → List Fact → Reason
false_done client number past = reason.FalseDone client number
    (last_place (fits (mark.Write client number)) past) (last_place (fits (mark.ChangeBy client number)) past)

-- the same of a fact that changes a file, and of one that tells a write as done
abbrev pub late : code.Fact → List Fact → Option Reason
late (fact.Changed file client number patch) past = late_write client file number past
late _ past = None

abbrev pub done_if : Settlement → ClientNo → ℕ → List Fact → Option Reason
done_if settlement.Done client number past = Some (false_done client number past)
done_if _ client number past = None

abbrev pub done : code.Fact → List Fact → Option Reason
done (fact.Settled client number outcome) past = done_if outcome client number past
done _ past = None

-- ---- cached reads

-- The reason is why a cached read of the file isn't fresh: the client took no message, or it should have given something else.
abbrev pub IsReadReason : ClientNo → FileNo → List Fact → Reason → Type 0
IsReadReason client file past told =
    ((told ≡ reason.NoMessage client file) × (last_sending client.0 past ≡ None))
    ⊎ ((expected : Expected) × (told ≡ reason.StaleRead client file expected) × IsExpected client file past expected)

abbrev pub TellsRead : code.Fact → List Fact → Option Reason → Type 0
TellsRead (fact.CachedRead client file bytes) past told = (one : Reason) × (told ≡ Some one) × IsReadReason client file past one
TellsRead _ past told = told ≡ None
