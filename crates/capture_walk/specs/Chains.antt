-- What events show of leases: chains of changes, by the events that come after each one. Events are in the order of the capture.
use Rattle.std.specs.Prelude.{ℕ, ◌==◌, nat_lt, nat_le, Bool, true, false, not, ◌&&◌, if◌then◌else◌, List, [], ◌∷◌, ◌++◌}
use Rattle.std.specs.Prelude.{Option, Some, None, unwrap_or, ◌||◌, bytes_eq, filter}
use Rattle.std.specs.Option.{is_some}
use Rattle.std.specs.List.{list_any, flat_map}
use Rattle.capture_judge.specs.declared.values.Level.{Level}
use Rattle.capture_judge.specs.declared.values.Level.TheVariants.{Nothing}
use Rattle.capture_judge.specs.declared.values.Change.{Change}
use Rattle.capture_walk.specs.Sides.{sooner}
use Rattle.capture_walk.specs.declared.event.Lease.{Lease}
use Rattle.capture_walk.specs.declared.event.Sent.{Sent}
use Rattle.capture_walk.specs.declared.event.Grant.{Grant}
use Rattle.capture_walk.specs.declared.event.Break.{Break}
use Rattle.capture_walk.specs.declared.event.Asked.{Asked}
use Rattle.capture_walk.specs.declared.event.Acknowledged.{Acknowledged}
use Rattle.capture_walk.specs.declared.event.Event.{Event}
use Rattle.capture_walk.specs.declared.event.Event.TheVariants as event

-- the lease is that of the same client under the same key on the same file
abbrev pub is_same : Lease → Lease → Bool
is_same one other = (one.client == other.client && one.file == other.file) && bytes_eq one.key.0 other.key.0

abbrev pub is_for : Lease → Option Lease → Bool
is_for lease None = false
is_for lease (Some other) = is_same other lease

-- ---- what comes after a message of the server

-- the position at which a message of the server is first shown to have been taken
abbrev pub taken : Sent → List Event → Option ℕ
taken sent [] = None
taken sent (event.Taken proof ∷ later) =
    if proof.connection == sent.connection && not (nat_lt proof.number sent.number) then Some proof.last else taken sent later
taken sent (_ ∷ later) = taken sent later

-- Whether the server did what a request with a MessageId on a connection asks, where it answers it before the next break of the
-- lease.
abbrev pub answer : Lease → ℕ → ℕ → List Event → Option Bool
answer lease connection id [] = None
answer lease connection id (event.Answered one ∷ later) =
    if one.connection == connection && one.id == id then Some one.done else answer lease connection id later
answer lease connection id (event.Broken broken ∷ later) =
    if is_same broken.lease lease then None else answer lease connection id later
answer lease connection id (_ ∷ later) = answer lease connection id later

abbrev pub is_accepted : Lease → Acknowledged → List Event → Bool
is_accepted lease given later =
    is_same given.lease lease && unwrap_or (answer lease given.connection given.id later) false

-- the acknowledgment of a break that the server accepts: the first one of its lease of which that is so, before the next break
abbrev pub acknowledgment : Lease → List Event → Option Acknowledged
acknowledgment lease [] = None
acknowledgment lease (event.Acknowledged given ∷ later) =
    if is_accepted lease given later then Some given else acknowledgment lease later
acknowledgment lease (event.Broken broken ∷ later) = if is_same broken.lease lease then None else acknowledgment lease later
acknowledgment lease (_ ∷ later) = acknowledgment lease later

-- ---- how long the server is seen to keep a lease

-- A connection may be given up without a word, and an open whose FileId its client guessed may be closed before the response
-- with it is seen. So a lease is sure only up to the last request that shows it: one by the FileId of one of its opens that the
-- server does, and after that, until the open is closed, any that it answers on the connection on which that was made. The last
-- doesn't hold where the server ended the open by itself, which only a later answer shows.

-- the request is about the lease, by an open that was made with the message of this number, or before it
abbrev pub is_use : Lease → ℕ → Asked → Bool
is_use lease number one = is_for lease one.lease && nat_le one.opened number

-- it is about the open that was made with that message
abbrev pub is_own : Lease → ℕ → Asked → Bool
is_own lease number one = is_for lease one.lease && one.opened == number

-- the server is found to have ended the open that was made with a message
abbrev pub is_gone : ℕ → Event → Bool
is_gone number (event.Gone one) = one.opened == number
is_gone number _ = false

-- The request shows the lease; `live` says whether the open that was made with the message is known to be there, unless it is
-- gone later.
abbrev pub shows : Lease → Sent → Bool → Asked → List Event → Bool
shows lease sent live one later =
    if is_use lease sent.number one then unwrap_or (answer lease one.connection one.id later) false
    else ((live && one.connection == sent.connection) && not (list_any (is_gone sent.number) later))
    && is_some (answer lease one.connection one.id later)

-- A break that has to be acknowledged, and isn't: the server gives up the lease when its timer runs out (3.3.6.5), from which on
-- nothing of the lease is sure. It may do so before the message leaves it, but not before it made what it sent on the same
-- connection before that.
abbrev pub is_cut : Break → Option Acknowledged → Bool
is_cut broken (Some given) = false
is_cut broken None = broken.acknowledged

abbrev pub cuts : Lease → Break → List Event → Bool
cuts lease broken later = is_same broken.lease lease && is_cut broken (acknowledgment lease later)

abbrev pub shown_before : Break → Option Asked → Option Asked
shown_before broken None = None
shown_before broken (Some one) = if one.connection == broken.sent.connection then Some one else None

-- the last request that shows a lease after a message of the server, before it ends or a break cuts it
abbrev pub last_shown : Lease → Sent → Bool → Option Asked → List Event → Option Asked
last_shown lease sent live found [] = found
last_shown lease sent live found (event.Asked one ∷ later) =
    if shows lease sent live one later
    then last_shown lease sent (live || is_own lease sent.number one) (Some one) later
    else last_shown lease sent live found later
last_shown lease sent live found (event.Closed one ∷ later) =
    last_shown lease sent (live && not (one.opened == sent.number)) found later
last_shown lease sent live found (event.Gone one ∷ later) =
    last_shown lease sent (live && not (one.opened == sent.number)) found later
last_shown lease sent live found (event.Ended end ∷ later) =
    if is_same end.lease lease then found else last_shown lease sent live found later
last_shown lease sent live found (event.Broken broken ∷ later) =
    if cuts lease broken later then shown_before broken found else last_shown lease sent live found later
last_shown lease sent live found (_ ∷ later) = last_shown lease sent live found later

-- ---- changes

abbrev pub change : Level → ℕ → Option ℕ → Change
change level first last = record { level = level; first = first; last = last }

-- the client may have lost its lease, without saying so
abbrev pub doubt : Bool → ℕ → List Change
doubt false position = []
doubt true position = change Nothing position None ∷ []

-- the last position of a change to a lease that was taken up to one position, and shown to be there at another
abbrev pub sure_by : Option ℕ → Option Asked → Option ℕ
sure_by None shown = None
sure_by (Some last) None = None
sure_by (Some last) (Some shown) = if nat_le last shown.position then Some last else None

-- After the last request that shows a lease to be there it may be lost.
abbrev pub doubt_after : Option Asked → List Change
doubt_after None = []
doubt_after (Some shown) = doubt true shown.position

abbrev pub changes_by_grant : Grant → Option ℕ → Option Asked → List Change
changes_by_grant grant last shown = change grant.level grant.sent.position (sure_by last shown) ∷ doubt_after shown

-- the position of the acknowledgment that the server accepted, or of a later request that shows the lease to be there
abbrev pub kept_until : ℕ → Option Asked → ℕ
kept_until last None = last
kept_until last (Some shown) = if nat_lt last shown.position then shown.position else last

-- What the client keeps after a break: what it acknowledges, before it does so; or else what the break leaves, from where that
-- is taken, unless the break cuts the lease.
abbrev pub changes_by_break : Break → Option Acknowledged → List Event → List Change
changes_by_break one (Some given) later =
    change given.level one.sent.position (Some given.last)
    ∷ doubt true (kept_until given.last (last_shown one.lease one.sent false None later))
changes_by_break one None later =
    if one.acknowledged then [] else change one.level one.sent.position (taken one.sent later) ∷ []

-- the changes that an event makes of what is cached under a lease
abbrev pub changes_by : Lease → Event → List Event → List Change
changes_by lease (event.Granted grant) later =
    if is_same grant.lease lease
    then changes_by_grant grant (taken grant.sent later) (last_shown grant.lease grant.sent false None later)
    else []
changes_by lease (event.Broken one) later =
    if is_same one.lease lease then changes_by_break one (acknowledgment one.lease later) later else []
changes_by lease (event.Ended end) later =
    if is_same end.lease lease then change Nothing end.first (Some end.last) ∷ [] else []
changes_by lease _ later = []

-- all of them, in their order
abbrev pub changes : Lease → List Event → List Change
changes lease [] = []
changes lease (one ∷ later) = changes_by lease one later ++ changes lease later

-- ---- what is missing

-- the event was seen up to a position
abbrev pub is_before : ℕ → Event → Bool
is_before since (event.Granted grant) = nat_le grant.sent.position since
is_before since (event.Broken broken) = nat_le broken.sent.position since
is_before since (event.Acknowledged given) = nat_le given.last since
is_before since (event.Asked one) = nat_le one.position since
is_before since (event.Answered one) = nat_le one.position since
is_before since (event.Closed one) = true
is_before since (event.Gone one) = true
is_before since (event.Ended end) = nat_le end.last since
is_before since (event.Taken proof) = nat_le proof.last since
is_before since _ = false

-- the event counts, by the position from which on something is missing, if there is one
abbrev pub is_known : Option ℕ → Event → Bool
is_known None one = true
is_known (Some since) one = is_before since one

-- the earliest of positions
abbrev pub earliest : Option ℕ → ℕ → ℕ
earliest None since = since
earliest (Some other) since = sooner since other

-- from which on something of a lease's client may be missing, or another file may have been made in the place of its file
abbrev pub lost_since : Lease → Option ℕ → List Event → Option ℕ
lost_since lease found [] = found
lost_since lease found (event.Lost loss ∷ later) =
    lost_since lease (if loss.client == lease.client then Some (earliest found loss.since) else found) later
lost_since lease found (event.Remade one ∷ later) =
    lost_since lease (if one.file == lease.file then Some (earliest found one.since) else found) later
lost_since lease found (_ ∷ later) = lost_since lease found later

-- From there on any lease may be lost.
abbrev pub cut_off : Option ℕ → List Change → List Change
cut_off None found = found
cut_off (Some since) [] = []
cut_off (Some since) (one ∷ others) = (one ∷ others) ++ doubt true since

-- Before it nothing is missing. What came later doesn't count, not even to show what was taken before.
abbrev pub known_changes : Lease → List Event → Option ℕ → List Change
known_changes lease events since = cut_off since (changes lease (filter (is_known since) events))

-- ---- chains

-- the leases on a file, in the order in which they are granted first
abbrev pub leases_behind : ℕ → List Lease → List Event → List Lease
leases_behind file found [] = found
leases_behind file found (event.Granted grant ∷ later) =
    if grant.lease.file == file && not (list_any (is_same grant.lease) found)
    then leases_behind file (found ++ grant.lease ∷ []) later
    else leases_behind file found later
leases_behind file found (_ ∷ later) = leases_behind file found later

abbrev pub leases_on : ℕ → List Event → List Lease
leases_on file events = leases_behind file [] events

-- the chain of a lease, by its client and its changes, where any are known
abbrev pub chain_by : ℕ → List Change → List (ℕ × List Change)
chain_by client [] = []
chain_by client (one ∷ others) = (client, one ∷ others) ∷ []

abbrev pub chain_of : List Event → Lease → List (ℕ × List Change)
chain_of events lease =
    chain_by lease.client (known_changes lease events (lost_since lease None events))

-- the chains of a file
abbrev pub chains_on : ℕ → List Event → List (ℕ × List Change)
chains_on file events = flat_map (chain_of events) (leases_on file events)

abbrev pub is_file : ℕ → ℕ → Bool
is_file wanted file = file == wanted

-- the files on which leases are granted, in the order in which they come
abbrev pub files_behind : List ℕ → List Event → List ℕ
files_behind found [] = found
files_behind found (event.Granted grant ∷ later) =
    if not (list_any (is_file grant.lease.file) found)
    then files_behind (found ++ grant.lease.file ∷ []) later
    else files_behind found later
files_behind found (_ ∷ later) = files_behind found later

abbrev pub files_in : List Event → List ℕ
files_in events = files_behind [] events
