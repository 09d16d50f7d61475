-- What messages show of leases, by the opens that there are.
use Rattle.std.specs.Prelude.{◌≡◌, ℕ, ◌==◌, ◌+◌, ◌-◌, ◌%◌, nat_lt, ◌&&◌, ◌||◌, Bool, true, false, not, if◌then◌else◌, List, []}
use Rattle.std.specs.Prelude.{◌∷◌, ◌++◌, Option, Some, None, bytes_eq, length}
use Rattle.std.specs.Option.{option_map}
use Rattle.std.specs.List.{list_any, flat_map}
use Rattle.capture_wire.specs.declared.field.Smb2FileId.{Smb2FileId}
use Rattle.capture_walk.specs.Notes.{answered, is_done}
use Rattle.capture_walk.specs.Clients.{KnowsClients, client_of}
use Rattle.capture_walk.specs.Sides.{KnowsSides, missing_since}
use Rattle.capture_walk.specs.Trees.{KnowsTrees}
use Rattle.capture_walk.specs.Creates.{KnowsCreates}
use Rattle.capture_walk.specs.Renames.{KnowsRenames}
use Rattle.capture_walk.specs.Opens.{opens, made, ends, is_named, is_under, remade, KnowsFiles}
use Rattle.capture_walk.specs.Chains.{is_same}
use Rattle.capture_walk.specs.declared.note.Note.{Note}
use Rattle.capture_walk.specs.declared.note.Note.TheVariants as note
use Rattle.capture_walk.specs.declared.note.BreakNote.{BreakNote}
use Rattle.capture_walk.specs.declared.note.KeyLevel.{KeyLevel}
use Rattle.capture_walk.specs.declared.note.LeaseGiven.{LeaseGiven}
use Rattle.capture_walk.specs.declared.note.Seen.{Seen}
use Rattle.capture_walk.specs.declared.event.Lease.{Lease}
use Rattle.capture_walk.specs.declared.event.Sent.{Sent}
use Rattle.capture_walk.specs.declared.event.Grant.{Grant}
use Rattle.capture_walk.specs.declared.event.Break.{Break}
use Rattle.capture_walk.specs.declared.event.Asked.{Asked}
use Rattle.capture_walk.specs.declared.event.Said.{Said}
use Rattle.capture_walk.specs.declared.event.Remade.{Remade}
use Rattle.capture_walk.specs.declared.event.Event.{Event}
use Rattle.capture_walk.specs.declared.event.Event.TheVariants as event
use Rattle.capture_walk.specs.declared.event.NotJudged.TheVariants as reason
use Rattle.capture_walk.specs.declared.opens.Open.{Open}
use Rattle.capture_walk.specs.LeaseMaps.{said_in, broken_in}
use Rattle.capture_walk.specs.declared.latest.Latest.{Latest}
use Rattle.capture_walk.specs.declared.walk.Walk.{Walk}
use Rattle.capture_judge.specs.declared.values.Level.{Level}
use Rattle.capture_judge.specs.declared.values.Level.TheVariants as level

-- ---- what is looked up in the opens

-- the last open of a client with a lease under a key
abbrev pub open_under : Option ℕ → List ℕ → List Open → Option Open
open_under None key held = None
open_under (Some client) key [] = None
open_under (Some client) key (one ∷ held) =
    if is_under client key one.lease then Some one else open_under (Some client) key held

-- the lease that a client holds under a key
abbrev pub lease_under : Option ℕ → List ℕ → List Open → Option Lease
lease_under None key held = None
lease_under (Some client) key [] = None
lease_under (Some client) key (one ∷ held) =
    if is_under client key one.lease then one.lease else lease_under (Some client) key held

-- the open that a session names by a FileId
abbrev pub open_named : ℕ → ℕ → Smb2FileId → List Open → Option Open
open_named server session file_id [] = None
open_named server session file_id (one ∷ held) =
    if is_named server session file_id one then Some one else open_named server session file_id held

-- ---- requests and their answers

abbrev pub lease_of : Option Open → Option Lease
lease_of None = None
lease_of (Some one) = one.lease

abbrev pub number_of : Option Open → ℕ
number_of None = 0
number_of (Some one) = one.number

-- a request with a MessageId, by the open that it is about, if it is about one
abbrev pub asked_of : Seen → ℕ → Option Open → Event
asked_of seen id one = event.Asked (record {
  lease = lease_of one;
  opened = number_of one;
  connection = seen.connection;
  id = id;
  position = seen.latest;
})

abbrev pub asked_by : Note → Seen → Option ℕ → List Open → List Event
asked_by (note.OnOpen name) seen client held =
    asked_of seen name.id (open_named seen.server name.session name.file_id held) ∷ []
asked_by (note.Close name) seen client held =
    asked_of seen name.id (open_named seen.server name.session name.file_id held) ∷ []
asked_by (note.Acknowledge given) seen client held = asked_of seen given.id (open_under client given.key.0 held) ∷ []
asked_by (note.CreateAsked asked) seen client held = asked_of seen asked.id None ∷ []
asked_by (note.TreeAsked asked) seen client held = asked_of seen asked.id None ∷ []
asked_by (note.RenameAsked id) seen client held = asked_of seen id None ∷ []
asked_by (note.Asked id) seen client held = asked_of seen id None ∷ []
asked_by _ seen client held = []

abbrev pub answer_by : Seen → Option ℕ → List Event
answer_by seen None = []
answer_by seen (Some id) = event.Answered (record {
  connection = seen.connection;
  id = id;
  done = is_done seen.note;
  position = seen.latest;
}) ∷ []

-- the last request with a MessageId on a connection
abbrev pub last_asked : ℕ → ℕ → Option Asked → List Event → Option Asked
last_asked connection id found [] = found
last_asked connection id found (event.Asked one ∷ later) =
    last_asked connection id (if one.connection == connection && one.id == id then Some one else found) later
last_asked connection id found (_ ∷ later) = last_asked connection id found later

-- the open that a request is about isn't there any more
abbrev pub gone : Option Asked → List Event
gone None = []
gone (Some one) = event.Gone (record { opened = one.opened }) ∷ []

-- ---- leases that end

abbrev pub is_of : Lease → Option Lease → Bool
is_of lease None = false
is_of lease (Some other) = is_same other lease

-- an open under the lease that is left
abbrev pub keeps : Option Open → Seen → Lease → Open → Bool
keeps made seen lease one = not (ends made seen one) && is_of lease one.lease

-- the MessageId of a CLOSE
abbrev pub closing : Note → Option ℕ
closing (note.Close name) = Some name.id
closing _ = None

-- the lease ends where no open under it is left
abbrev pub ended_lease : Option Open → Seen → List Open → Option Lease → List Event
ended_lease made seen held None = []
ended_lease made seen held (Some lease) =
    if list_any (keeps made seen lease) held then []
    else event.Ended (record {
      lease = lease;
      first = seen.earliest;
      last = seen.latest;
      connection = seen.connection;
      closing = closing seen.note;
    }) ∷ []

abbrev pub closed : ℕ → Option Lease → List Event
closed number None = []
closed number (Some lease) = event.Closed (record { opened = number }) ∷ []

abbrev pub ended_by : Option Open → Seen → List Open → Open → List Event
ended_by made seen held one =
    if ends made seen one then closed one.number one.lease ++ ended_lease made seen held one.lease else []

-- by the open that the message makes
abbrev pub ended : Option Open → Seen → List Open → List Event
ended made seen held = flat_map (ended_by made seen held) held

-- ---- what a message tells besides

abbrev pub sent_at : Seen → Sent
sent_at seen = record { connection = seen.connection; number = seen.number; position = seen.latest }

-- A request by a FileId shows that the response with it was taken.
abbrev pub proof_of : Seen → Option Open → List Event
proof_of seen None = []
proof_of seen (Some one) =
    event.Taken (record { connection = one.connection; number = one.number; last = seen.latest }) ∷ []

-- What isn't in order, or comes over a strange connection, may have been said at any time before: nothing of the client is sure.
abbrev pub dispute : Lease → Event
dispute lease = event.Lost (record { client = lease.client; since = 0; reason = reason.Disputed })

-- One key for two files is more than the rules of leases allow (3.3.5.9.8), so that a break of it can't be told to be of either.
abbrev pub is_elsewhere : Lease → Open → Bool
is_elsewhere lease one = is_under lease.client lease.key.0 one.lease && not (is_of lease one.lease)

abbrev pub disputed : Lease → List Open → List Event
disputed lease held = if list_any (is_elsewhere lease) held then dispute lease ∷ [] else []

-- ---- the order of what the server says of a lease

-- Only what the server says orders a chain, so that opens on several connections are no dispute in themselves: what a client
-- sends has bounds of its own, and the server answers it later.

abbrev pub said_by_grant : Grant → Said
said_by_grant one = record { sent = one.sent; level = one.level; epoch = one.epoch; breaks = false }

abbrev pub said_by_break : Break → Said
said_by_break one = record { sent = one.sent; level = one.level; epoch = one.epoch; breaks = true }

abbrev pub without_epoch : Said → Said
without_epoch said = record { sent = said.sent; level = said.level; epoch = None; breaks = said.breaks }

-- what it said last; a lease that is granted again after its end has epochs of its own
abbrev pub last_said : Lease → Option Said → List Event → Option Said
last_said lease found [] = found
last_said lease found (event.Granted one ∷ later) =
    last_said lease (if is_same one.lease lease then Some (said_by_grant one) else found) later
last_said lease found (event.Broken one ∷ later) =
    last_said lease (if is_same one.lease lease then Some (said_by_break one) else found) later
last_said lease found (event.Ended one ∷ later) =
    last_said lease (if is_same one.lease lease then option_map without_epoch found else found) later
last_said lease found (_ ∷ later) = last_said lease found later

-- how far an epoch is ahead of another one, where 0 follows on 65535
abbrev pub ahead : ℕ → ℕ → ℕ
ahead before now = (now + (65536 - before)) % 65536

-- newer, as clients take it (3.2.5.19.2)
abbrev pub is_newer : ℕ → ℕ → Bool
is_newer before now = nat_lt 0 (ahead before now) && nat_lt (ahead before now) 32768

abbrev pub is_same_level : Level → Level → Bool
is_same_level level.Nothing level.Nothing = true
is_same_level level.Something level.Something = true
is_same_level level.Writes level.Writes = true
is_same_level one other = false

-- What comes over one connection has its order, and what answers a request comes after what the capture has before that.
abbrev pub is_in_order : Said → Said → Option ℕ → Bool
is_in_order before now None = now.sent.connection == before.sent.connection
is_in_order before now (Some asked) =
    now.sent.connection == before.sent.connection || nat_lt before.sent.position asked

-- Else the epochs show the order. What has the same one and leaves the same changes nothing, wherever it belongs.
abbrev pub shows_order : Said → Said → ℕ → ℕ → Bool
shows_order before now old new = is_newer old new || (new == old && is_same_level before.level now.level)

-- A grant that changes nothing has the epoch that there is, and a break has a new one; the breaks of a chain may have one epoch.
abbrev pub follows_on : Said → Said → ℕ → ℕ → Bool
follows_on before now old new = shows_order before now old new || (new == old && (not now.breaks || before.breaks))

abbrev pub misnumbered : Lease → Said → Said → Option ℕ → Option ℕ → List Event
misnumbered lease before now (Some old) (Some new) =
    if follows_on before now old new then []
    else event.Misnumbered (record { lease = lease; before = old; epoch = new; position = now.sent.position }) ∷ []
misnumbered lease before now old new = []

abbrev pub has_order : Said → Said → Option ℕ → Option ℕ → Bool
has_order before now (Some old) (Some new) = shows_order before now old new
has_order before now old new = false

-- what is to be said of the order of a message, by the position of the request that it answers, if it does
abbrev pub ordered : Lease → Option Said → Said → Option ℕ → List Event
ordered lease None now asked = []
ordered lease (Some before) now asked =
    if is_in_order before now asked then misnumbered lease before now before.epoch now.epoch
    else if has_order before now before.epoch now.epoch then [] else dispute lease ∷ []

-- A break that was of no open that is known, over another connection, may be of the lease that the server grants, if the capture
-- has it after the request for that.
abbrev pub is_stray_of : Lease → ℕ → ℕ → Event → Bool
is_stray_of lease connection asked (event.Stray one) =
    is_under one.client one.key.0 (Some lease)
    && not (one.sent.connection == connection || nat_lt one.sent.position asked)
is_stray_of lease connection asked _ = false

abbrev pub strayed : Lease → ℕ → ℕ → List Event → List Event
strayed lease connection asked before =
    if list_any (is_stray_of lease connection asked) before then dispute lease ∷ [] else []

-- ---- grants and breaks

abbrev pub grant_of : Seen → LeaseGiven → Lease → ℕ → Grant
grant_of seen given lease asked = record {
  lease = lease;
  state = given.state;
  level = given.level;
  sent = sent_at seen;
  asked = asked;
  epoch = given.epoch;
}

abbrev pub granted_lease : Seen → LeaseGiven → Lease → ℕ → Option Said → List Event
granted_lease seen given lease asked said =
    if given.breaking then []
    else ordered lease said (said_by_grant (grant_of seen given lease asked)) (Some asked)
    ++ event.Granted (grant_of seen given lease asked) ∷ []

abbrev pub granted_open : Seen → LeaseGiven → ℕ → Option Lease → List Open → List Event → List Event
granted_open seen given asked None held before = []
granted_open seen given asked (Some lease) held before =
    disputed lease held ++ strayed lease seen.connection asked before
    ++ granted_lease seen given lease asked (last_said lease None before)

-- the lease of the open that a CREATE response makes
abbrev pub granted_of : Seen → Option LeaseGiven → Option Open → List Open → List Event → List Event
granted_of seen None one held before = []
granted_of seen (Some given) None held before = []
granted_of seen (Some given) (Some one) held before = granted_open seen given one.asked one.lease held before

-- where it isn't known whose a connection is, a break on it may be of any lease under its key
abbrev pub lost_under : List ℕ → Option Lease → List Event
lost_under key None = []
lost_under key (Some lease) =
    if bytes_eq lease.key.0 key
    then event.Lost (record { client = lease.client; since = 0; reason = reason.Stranger }) ∷ []
    else []

-- NewEpoch counts where the server gave the lease an epoch before.
abbrev pub new_epoch : Option Said → ℕ → Option ℕ
new_epoch None epoch = None
new_epoch (Some said) epoch = option_map (λ old. epoch) said.epoch

abbrev pub break_of : Seen → BreakNote → Lease → Option Said → Break
break_of seen one lease said = record {
  lease = lease;
  state = one.state;
  level = one.level;
  sent = sent_at seen;
  acknowledged = one.acknowledged;
  epoch = new_epoch said one.epoch;
}

abbrev pub broken_after : Lease → Option Said → Break → List Event
broken_after lease said one = ordered lease said (said_by_break one) None ++ event.Broken one ∷ []

abbrev pub stray : Seen → BreakNote → ℕ → Event
stray seen one client = event.Stray (record { client = client; key = one.key; sent = sent_at seen })

abbrev pub broken_of : Seen → BreakNote → ℕ → Option Lease → List Open → List Event → List Event
broken_of seen one client None held before = stray seen one client ∷ []
broken_of seen one client (Some lease) held before =
    disputed lease held
    ++ broken_after lease (last_said lease None before) (break_of seen one lease (last_said lease None before))

abbrev pub broken : Seen → BreakNote → Option ℕ → List Open → List Event → List Event
broken seen one None held before = flat_map (λ other. lost_under one.key.0 other.lease) held
broken seen one (Some client) held before =
    broken_of seen one client (lease_under (Some client) one.key.0 held) held before

-- at a capture made at the client, a message is taken where the capture has it
abbrev pub all_taken : Seen → Event
all_taken seen = event.Taken (record { connection = seen.connection; number = seen.number; last = seen.latest })

abbrev pub missing : ℕ → ℕ → Event
missing client since = event.Lost (record { client = client; since = since; reason = reason.Missing })

-- the client of an open's lease, where the open is at this server
abbrev pub lost_at : ℕ → ℕ → Open → Option Lease → List Event
lost_at server since one None = []
lost_at server since one (Some lease) = if one.server == server then missing lease.client since ∷ [] else []

-- Where it isn't known whose a connection is, what is missing may be of any lease at its server.
abbrev pub lost_of : Seen → Option ℕ → ℕ → List Open → List Event
lost_of seen None since held = flat_map (λ one. lost_at seen.server since one one.lease) held
lost_of seen (Some client) since held = missing client since ∷ []

-- the last break of a lease
abbrev pub last_break : Lease → Option Sent → List Event → Option Sent
last_break lease found [] = found
last_break lease found (event.Broken one ∷ later) =
    last_break lease (if is_same one.lease lease then Some one.sent else found) later
last_break lease found (_ ∷ later) = last_break lease found later

-- an acknowledgment shows that the break was taken
abbrev pub taken_break : Seen → Option Sent → List Event
taken_break seen None = []
taken_break seen (Some sent) =
    event.Taken (record { connection = sent.connection; number = sent.number; last = seen.latest }) ∷ []

abbrev pub acknowledged_of : Seen → KeyLevel → Lease → Event
acknowledged_of seen given lease = event.Acknowledged (record {
  lease = lease;
  level = given.level;
  connection = seen.connection;
  id = given.id;
  last = seen.latest;
})

abbrev pub acknowledged : Seen → KeyLevel → Option Lease → List Event → List Event
acknowledged seen given None before = []
acknowledged seen given (Some lease) before =
    acknowledged_of seen given lease ∷ taken_break seen (last_break lease None before)

-- by what it is, its connection's client, the open that it makes, from where on something is missing if it is a gap, and the
-- opens and the events before it
abbrev pub told_by : Note → Seen → Option ℕ → Option Open → ℕ → List Open → List Event → List Event
told_by (note.CreateGiven given) seen client one since held before = granted_of seen given.lease one held before
told_by (note.OnOpen name) seen client one since held before =
    proof_of seen (open_named seen.server name.session name.file_id held)
told_by (note.Close name) seen client one since held before =
    proof_of seen (open_named seen.server name.session name.file_id held)
told_by (note.Acknowledge given) seen client one since held before =
    acknowledged seen given (lease_under client given.key.0 held) before
told_by (note.Break break) seen client one since held before = broken seen break client held before
told_by (note.Gone id) seen client one since held before = gone (last_asked seen.connection id None before)
told_by note.Gap seen client one since held before = lost_of seen client since held
told_by note.Taken seen client one since held before = all_taken seen ∷ []
told_by _ seen client one since held before = []

-- a request, or the answer to one
abbrev pub heard : Seen → Option ℕ → List Open → List Event
heard seen client held = asked_by seen.note seen client held ++ answer_by seen (answered seen.note)

-- a file that is made in the place of another one
abbrev pub told_remade : Option Remade → List Event
told_remade None = []
told_remade (Some one) = event.Remade one ∷ []

-- ---- all events

-- the events after a message, where the leases that end with it are among those before
abbrev pub with_told : Seen → List Seen → List Event → List Event
with_told seen past before =
    before
    ++ told_by seen.note seen (client_of seen.connection past) (made seen past) (missing_since seen.connection past) (opens past)
    before

-- in the order of the capture
abbrev pub events : List Seen → List Event
events [] = []
events (seen ∷ past) = with_told seen past
    (((events past ++ heard seen (client_of seen.connection past) (opens past)) ++ ended (made seen past) seen (opens past))
    ++ told_remade (remade seen past))

-- ---- what was said last, as the walk keeps it

-- It knows what these events say last, whatever comes after them.
pub record KnowsLatest (before : List Event) (latest : Latest) : Type 0 where
  pub counted : latest.count ≡ length before
  pub said : (lease : Lease) (later : List Event)
      → last_said lease (said_in latest.said lease) later ≡ last_said lease None (before ++ later)
  pub broken : (lease : Lease) (later : List Event)
      → last_break lease (broken_in latest.broken lease) later ≡ last_break lease None (before ++ later)
  pub strays : (lease : Lease) (connection asked : ℕ) (later : List Event)
      → list_any (is_stray_of lease connection asked) (latest.strays.items ++ later)
      ≡ list_any (is_stray_of lease connection asked) (before ++ later)

-- ---- what the walk knows

-- The walk knows what these messages show.
pub record Knows (past : List Seen) (walk : Walk) : Type 0 where
  pub clients : KnowsClients past walk.clients
  pub sides : KnowsSides past walk.sides
  pub trees : KnowsTrees past walk.trees
  pub creates : KnowsCreates past walk.creates
  pub renames : KnowsRenames past walk.renames
  pub files : KnowsFiles past walk.files
  pub held : walk.opens.items ≡ opens past
  pub shown : walk.events.items ≡ events past
  pub latest : KnowsLatest (events past) walk.latest

-- All but what is known of files is the same.
pub record HasSameButFiles (before now : Walk) : Type 0 where
  pub clients : now.clients ≡ before.clients
  pub sides : now.sides ≡ before.sides
  pub trees : now.trees ≡ before.trees
  pub creates : now.creates ≡ before.creates
  pub renames : now.renames ≡ before.renames
  pub held : now.opens ≡ before.opens
  pub shown : now.events ≡ before.events
  pub latest : now.latest ≡ before.latest

-- All but events, and what they say last, is the same.
pub record HasSameButEvents (before now : Walk) : Type 0 where
  pub clients : now.clients ≡ before.clients
  pub sides : now.sides ≡ before.sides
  pub trees : now.trees ≡ before.trees
  pub creates : now.creates ≡ before.creates
  pub renames : now.renames ≡ before.renames
  pub files : now.files ≡ before.files
  pub held : now.opens ≡ before.opens

-- The opens are these, and all else is the same.
pub record HasOpens (held : List Open) (before now : Walk) : Type 0 where
  pub clients : now.clients ≡ before.clients
  pub sides : now.sides ≡ before.sides
  pub trees : now.trees ≡ before.trees
  pub creates : now.creates ≡ before.creates
  pub renames : now.renames ≡ before.renames
  pub files : now.files ≡ before.files
  pub items : now.opens.items ≡ held
  pub shown : now.events ≡ before.events
  pub latest : now.latest ≡ before.latest
