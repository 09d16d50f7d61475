-- The server's own table of leases: for each lease a chain of what the server holds for it, with the positions between which each
-- change of that happens. Where these chains have no clean placement, the server held leases that clash, whatever its clients
-- took. A request reaches the server after the client sent it, and the server sends the answer before the capture has that: so
-- what it does happens between the two, and the bounds are wide enough for answers on several connections that overtake one
-- another. How long a lease is sure to be there is as for what clients believe. Events are in the order of the capture.
use Rattle.std.specs.Prelude.{ℕ, ◌==◌, nat_le, true, false, ◌&&◌, if◌then◌else◌, List, [], ◌∷◌, ◌++◌, Option, Some, None}
use Rattle.std.specs.Prelude.{filter}
use Rattle.std.specs.List.{flat_map}
use Rattle.capture_judge.specs.declared.values.Level.{Level}
use Rattle.capture_judge.specs.declared.values.Level.TheVariants.{Nothing}
use Rattle.capture_judge.specs.declared.values.Change.{Change}
use Rattle.capture_walk.specs.Chains.{is_same, acknowledgment, last_shown, change, doubt, kept_until, is_known, lost_since, cut_off}
use Rattle.capture_walk.specs.Chains.{leases_on, chain_by}
use Rattle.capture_walk.specs.declared.event.Lease.{Lease}
use Rattle.capture_walk.specs.declared.event.Grant.{Grant}
use Rattle.capture_walk.specs.declared.event.Break.{Break}
use Rattle.capture_walk.specs.declared.event.Acknowledged.{Acknowledged}
use Rattle.capture_walk.specs.declared.event.Answered.{Answered}
use Rattle.capture_walk.specs.declared.event.Asked.{Asked}
use Rattle.capture_walk.specs.declared.event.End.{End}
use Rattle.capture_walk.specs.declared.event.Event.{Event}
use Rattle.capture_walk.specs.declared.event.Event.TheVariants as event

-- the answer to a request with a MessageId on a connection
abbrev pub answered_at : ℕ → ℕ → List Event → Option Answered
answered_at connection id [] = None
answered_at connection id (event.Answered one ∷ later) =
    if one.connection == connection && one.id == id then Some one else answered_at connection id later
answered_at connection id (_ ∷ later) = answered_at connection id later

-- ---- grants

-- A CREATE that is answered with a lease (MS-SMB2 3.3.5.9.8, 3.3.5.9.11): the server grants it once it has the request, and
-- before it sends the response. A response to a request that came before the lease was broken last may be from before that
-- break; what it says may have been taken back by then.
abbrev pub granted_by : Grant → ℕ → Option ℕ
granted_by one broken = if nat_le broken one.asked then Some one.sent.position else None

-- The lease is sure up to the last request that shows it. Where none does, the server may have lost it before it sent the
-- response: the client may have guessed the FileId and closed the open, or a break may have timed out that is still on its way.
abbrev pub held_by_grant : Grant → ℕ → Option Asked → List Change
held_by_grant one broken shown =
    change one.level one.asked (granted_by one broken) ∷ doubt true (kept_until one.asked shown)

-- ---- breaks

-- what a request changes that the server is known to have done by its answer; where the capture has none it may have done it, and
-- where the server refused it it did nothing
abbrev pub changed_by : Level → ℕ → Option Answered → List Change
changed_by level asked None = change level asked None ∷ []
changed_by level asked (Some one) = if one.done then change level asked (Some one.position) ∷ [] else []

-- While a break waits for its acknowledgment the lease stays as it is (3.3.4.7), and the acknowledgment that the server accepts
-- leaves what it says (3.3.5.22.2). One that isn't to be acknowledged has taken the lease away when it is sent, or has left
-- what it says. Where none is accepted that has to be, the lease isn't sure to be there any more, since the server may take all
-- of it away when its timer runs out (3.3.6.5): that stands with the grant.
abbrev pub held_by_break : Break → Option Acknowledged → Option Asked → List Event → List Change
held_by_break one (Some given) shown later =
    changed_by given.level given.last (answered_at given.connection given.id later) ++ doubt true (kept_until given.last shown)
held_by_break one None shown later =
    if one.acknowledged then []
    else change one.level 0 (Some one.sent.position) ∷ doubt true (kept_until 0 shown)

-- ---- ends

-- The last open under the lease is closed between the CLOSE and its answer (3.3.5.10). Where the server refuses that, it has
-- ended the open by itself, at some time before.
abbrev pub closed_by : ℕ → Option Answered → List Change
closed_by asked None = doubt true asked
closed_by asked (Some one) = if one.done then change Nothing asked (Some one.position) ∷ [] else doubt true 0

-- By the loss of a connection it may end from then on, and not before: a durable open may be kept (3.3.7.1). So may it by LOGOFF,
-- TREE_DISCONNECT and where the open is connected again.
abbrev pub ended_with : Option ℕ → End → List Event → List Change
ended_with None end later = doubt true end.first
ended_with (Some id) end later = closed_by end.last (answered_at end.connection id later)

-- ---- all changes

abbrev pub held_by : Lease → ℕ → Event → List Event → List Change
held_by lease broken (event.Granted one) later =
    if is_same one.lease lease then held_by_grant one broken (last_shown one.lease one.sent false None later) else []
held_by lease broken (event.Broken one) later =
    if is_same one.lease lease
    then held_by_break one (acknowledgment one.lease later) (last_shown one.lease one.sent false None later) later
    else []
held_by lease broken (event.Ended end) later = if is_same end.lease lease then ended_with end.closing end later else []
held_by lease broken _ later = []

-- where the lease was broken last
abbrev pub broken_at : Lease → ℕ → Event → ℕ
broken_at lease before (event.Broken one) = if is_same one.lease lease then one.sent.position else before
broken_at lease before _ = before

-- what the server holds for a lease, change by change, where it was broken last at a position
abbrev pub held : Lease → ℕ → List Event → List Change
held lease broken [] = []
held lease broken (one ∷ later) = held_by lease broken one later ++ held lease (broken_at lease broken one) later

-- up to where something of the lease's client may be missing, as for what clients believe
abbrev pub known_held : Lease → List Event → Option ℕ → List Change
known_held lease events since = cut_off since (held lease 0 (filter (is_known since) events))

abbrev pub table_of : List Event → Lease → List (ℕ × List Change)
table_of events lease = chain_by lease.client (known_held lease events (lost_since lease None events))

-- the chains of a file
abbrev pub tables_on : ℕ → List Event → List (ℕ × List Change)
tables_on file events = flat_map (table_of events) (leases_on file events)
