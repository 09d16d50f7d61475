-- What a command does to the entry of its file, and to the client (profile, but for the create that is sent: MS-SMB2 3.2.4.3).
use Rattle.std.specs.Prelude.{ℕ, zero, suc, ◌+◌, Bool, true, false, Option, Some, List, [], ◌∷◌, ◌++◌, if◌then◌else◌, ◌==◌, ◌&&◌}
use Rattle.std.specs.Prelude.{◌||◌, not, nat_lt, is_some}
use Rattle.lease_state.specs.declared.patch.Patch.{Patch}
use Rattle.lease_model.specs.client.Commands.{Command, OpenTerms, Answer, Refusal, Note}
use Rattle.lease_model.specs.client.Requests.{open_request, close_request}
use Rattle.lease_model.specs.client.State.{Client, Entry, LiveEntry, Asked, Pending, Phase, closed_entry, live_entry, lease_key}
use Rattle.lease_model.specs.client.State.{knows_file, view}
use Rattle.lease_model.specs.client.Step.{Step, Turn, turned, turn_of, refused_turn, refused_step, with_number, write_requests}
use Rattle.lease_model.specs.messages.Requests.{FileRequest, Request}
use Rattle.lease_model.specs.values.Limits.{count_limit, last_write_number}
use Rattle.lease_model.specs.values.Lists.{is_empty}
use Rattle.lease_model.specs.values.Patches.{is_within_limit}
use Rattle.lease_model.specs.values.Sharing.{may_read, may_write, same_access, same_share, either_access, both_share}

abbrev pub is_asking : LiveEntry → Bool
is_asking live = is_some live.asking

-- the access that does what either does, the share that allows what both allow, the state that is wanted
-- now, and durable where that is asked or the entry is so
abbrev pub joint_terms : LiveEntry → OpenTerms → OpenTerms
joint_terms live terms = record {
  access = either_access live.access terms.access;
  share = both_share live.share terms.share;
  want = terms.want;
  durable = terms.durable || live.durable;
}

abbrev pub asked_by : OpenTerms → Asked
asked_by terms = record { access = terms.access; share = terms.share }

-- some Read or sent write of the file isn't answered
abbrev pub has_unanswered : LiveEntry → List Pending → Bool
has_unanswered live sent = not (live.reads == 0) || not (is_empty sent)

abbrev pub one_handle_less : ℕ → ℕ
one_handle_less zero = 0
one_handle_less (suc handles) = handles

-- the unsent writes and a Close are sent, and the entry is closed
abbrev pub closing_turn : LiveEntry → List Pending → Answer → Turn
closing_turn live sent answer = turn_of (closed_entry (sent ++ live.unsent)) answer
    (write_requests live.file_id live.unsent ++ close_request live.file_id ∷ [])

abbrev pub is_refused : Answer → Bool
is_refused (Answer.Refused refusal) = true
is_refused answer = false

-- why an entry that isn't live, or is parked, accepts no command but an Open
abbrev pub refusal_in : Phase → Refusal
refusal_in Phase.Closed = Refusal.NotOpen
refusal_in (Phase.Opening access share) = Refusal.Busy
refusal_in (Phase.Live live) = Refusal.NotOpen
refusal_in (Phase.Offline parted) = Refusal.Offline
refusal_in (Phase.Reconnecting parted) = Refusal.Busy

abbrev pub unheard_turn : Entry → Turn
unheard_turn entry = refused_turn entry (refusal_in entry.phase)

-- ---- Open

-- An Open of a live entry with its own access and share is one handle more.
unfoldable pub handle_turn : LiveEntry → List Pending → Turn
handle_turn live sent =
    if live.handles == count_limit then refused_turn (live_entry live sent) Refusal.UsedUp
    else turn_of (live_entry (record live { handles = live.handles + 1 }) sent) Answer.Done []

abbrev pub opening_entry : OpenTerms → List Pending → Entry
opening_entry terms sent = record { phase = Phase.Opening terms.access terms.share; sent = sent }

-- A parked entry that is asked for more gives its open up and opens the file anew: the unsent writes, a
-- Close of the old FileId, and a create on the command's own terms.
unfoldable pub anew_turn : List ℕ → ℕ → LiveEntry → List Pending → OpenTerms → Turn
anew_turn key file live sent terms = turn_of (opening_entry terms (sent ++ live.unsent)) Answer.Waiting
    (write_requests live.file_id live.unsent
    ++ close_request live.file_id ∷ open_request key file terms ∷ [])

-- An entry with a handle asks for more: a second create under its key is sent, and until that is answered
-- the entry goes on under its FileId.
unfoldable pub more_turn : List ℕ → ℕ → LiveEntry → List Pending → OpenTerms → Turn
more_turn key file live sent terms =
    if live.handles == count_limit then refused_turn (live_entry live sent) Refusal.UsedUp
    else turn_of
    (live_entry (record live { asking = Some (asked_by (joint_terms live terms)) }) sent)
    Answer.Waiting (open_request key file (joint_terms live terms) ∷ [])

-- what a live entry does with an Open of another access or share
unfoldable pub other_turn : List ℕ → ℕ → LiveEntry → List Pending → OpenTerms → Turn
other_turn key file live sent terms =
    if live.handles == 0 then anew_turn key file live sent terms else more_turn key file live sent terms

-- while an entry is asking, every Open is refused
unfoldable pub live_open_turn : List ℕ → ℕ → LiveEntry → List Pending → OpenTerms → Turn
live_open_turn key file live sent terms =
    if is_asking live then refused_turn (live_entry live sent) Refusal.Busy
    else (if same_access terms.access live.access && same_share terms.share live.share
    then handle_turn live sent
    else other_turn key file live sent terms)

-- an Open of a file that isn't open: only between a connect and the next notice
abbrev pub first_open_turn : Bool → List ℕ → ℕ → List Pending → OpenTerms → Turn
first_open_turn online key file sent terms =
    if online
    then turn_of (opening_entry terms sent) Answer.Waiting (open_request key file terms ∷ [])
    else refused_turn (record { phase = Phase.Closed; sent = sent }) Refusal.Offline

abbrev pub open_in : Bool → List ℕ → ℕ → OpenTerms → List Pending → Phase → Turn
open_in online key file terms sent Phase.Closed = first_open_turn online key file sent terms
open_in online key file terms sent (Phase.Live live) = live_open_turn key file live sent terms
open_in online key file terms sent phase = unheard_turn (record { phase = phase; sent = sent })

abbrev pub open_turn : Bool → List ℕ → ℕ → OpenTerms → Entry → Turn
open_turn online key file terms entry = open_in online key file terms entry.sent entry.phase

-- ---- the other commands, on a live entry with a handle

-- the last handle goes: the entry is parked where the belief holds H, else the unsent writes and a
-- Close are sent
unfoldable pub last_close_turn : LiveEntry → List Pending → Turn
last_close_turn live sent =
    if live.belief.handle
    then turn_of (live_entry (record live { handles = 0 }) sent) Answer.Done []
    else closing_turn live sent Answer.Done

-- the last handle stays while something is unanswered, or the entry is asking
unfoldable pub close_turn : LiveEntry → List Pending → Turn
close_turn live sent =
    if nat_lt 1 live.handles
    then turn_of (live_entry (record live { handles = one_handle_less live.handles }) sent) Answer.Done []
    else (if is_asking live || has_unanswered live sent
    then refused_turn (live_entry live sent) Refusal.Busy
    else last_close_turn live sent)

-- a read from the cache
abbrev pub cached_turn : ℕ → Entry → List ℕ → Turn
cached_turn file entry bytes = record {
  entry = entry;
  answer = Answer.Bytes bytes true;
  requests = [];
  settled = Note.CachedRead file bytes ∷ [];
}

-- a read that is sent; none is while the entry is asking
unfoldable pub read_sent_turn : LiveEntry → List Pending → Turn
read_sent_turn live sent =
    if is_asking live then refused_turn (live_entry live sent) Refusal.Busy
    else (if live.reads == count_limit then refused_turn (live_entry live sent) Refusal.UsedUp
    else turn_of (live_entry (record live { reads = live.reads + 1 }) sent)
    Answer.Waiting (Request.OnFile (FileRequest.Read live.file_id) ∷ []))

abbrev pub read_from_turn : ℕ → LiveEntry → List Pending → Bool → Option (List ℕ) → Turn
read_from_turn file live sent true (Some base) =
    cached_turn file (live_entry live sent) (view base sent live.unsent)
read_from_turn file live sent _ _ = read_sent_turn live sent

unfoldable pub live_read_turn : ℕ → LiveEntry → List Pending → Turn
live_read_turn file live sent =
    if may_read live.access then read_from_turn file live sent live.belief.read live.base
    else refused_turn (live_entry live sent) Refusal.Denied

-- the turn of a write that is taken under this number
abbrev pub wrote_turn : ℕ → Entry → Answer → List Request → Pending → Turn
wrote_turn file entry answer requests write = record {
  entry = entry;
  answer = answer;
  requests = requests;
  settled = Note.Wrote file write.number write.patch write.buffered ∷ [];
}

abbrev pub write_of : ℕ → Patch → Bool → Pending
write_of number patch buffered = record { number = number; patch = patch; buffered = buffered }

unfoldable pub buffered_turn : ℕ → LiveEntry → List Pending → ℕ → Patch → Turn
buffered_turn file live sent number patch = wrote_turn file
    (live_entry (record live { unsent = live.unsent ++ write_of number patch true ∷ [] }) sent)
    Answer.Done [] (write_of number patch true)

unfoldable pub through_turn : ℕ → LiveEntry → List Pending → ℕ → Patch → Turn
through_turn file live sent number patch = wrote_turn file
    (live_entry live (sent ++ write_of number patch false ∷ []))
    Answer.Waiting (Request.OnFile (FileRequest.Write live.file_id number patch) ∷ [])
    (write_of number patch false)

-- under W a write is buffered, else it is sent
unfoldable pub taken_turn : ℕ → LiveEntry → List Pending → ℕ → Patch → Turn
taken_turn file live sent number patch =
    if live.belief.write then buffered_turn file live sent number patch
    else through_turn file live sent number patch

-- first the access, then the write's end, then the numbers that are left
unfoldable pub write_turn : ℕ → LiveEntry → List Pending → ℕ → Patch → Turn
write_turn file live sent last patch =
    if not (may_write live.access) then refused_turn (live_entry live sent) Refusal.Denied
    else (if not (is_within_limit patch) then refused_turn (live_entry live sent) Refusal.TooLong
    else (if last == last_write_number then refused_turn (live_entry live sent) Refusal.UsedUp
    else taken_turn file live sent (last + 1) patch))

-- the unsent writes are sent, in order
unfoldable pub flush_turn : LiveEntry → List Pending → Turn
flush_turn live sent = turn_of
    (live_entry (record live { unsent = [] }) (sent ++ live.unsent))
    (if is_empty live.unsent then Answer.Done else Answer.Waiting)
    (write_requests live.file_id live.unsent)

-- a parked entry accepts no command but an Open
abbrev pub unless_parked : LiveEntry → List Pending → Turn → Turn
unless_parked live sent turn =
    if live.handles == 0 then refused_turn (live_entry live sent) Refusal.NotOpen else turn

abbrev pub heard_in : (LiveEntry → List Pending → Turn) → List Pending → Phase → Turn
heard_in turn sent (Phase.Live live) = unless_parked live sent (turn live sent)
heard_in turn sent phase = unheard_turn (record { phase = phase; sent = sent })

abbrev pub heard_turn : (LiveEntry → List Pending → Turn) → Entry → Turn
heard_turn turn entry = heard_in turn entry.sent entry.phase

-- the number of the last write after a Write
abbrev pub number_after : Turn → ℕ → ℕ
number_after turn last = if is_refused turn.answer then last else last + 1

abbrev pub written_turn : ℕ → ℕ → Patch → Entry → Turn
written_turn file last patch entry = heard_turn (λ live sent. write_turn file live sent last patch) entry

-- ---- any command, by the client's state and the key of the entry's file

abbrev pub commanded_turn : Bool → List ℕ → ℕ → Command → Entry → Turn
commanded_turn online key last (Command.Open file terms) entry = open_turn online key file terms entry
commanded_turn online key last (Command.Close file) entry = heard_turn close_turn entry
commanded_turn online key last (Command.Read file) entry = heard_turn (live_read_turn file) entry
commanded_turn online key last (Command.Write file patch) entry = written_turn file last patch entry
commanded_turn online key last (Command.Flush file) entry = heard_turn flush_turn entry

abbrev pub last_after : Bool → List ℕ → ℕ → Command → Entry → ℕ
last_after online key last (Command.Write file patch) entry =
    number_after (written_turn file last patch entry) last
last_after online key last command entry = last

-- ---- the client's step

abbrev pub file_of : Command → ℕ
file_of (Command.Open file terms) = file
file_of (Command.Close file) = file
file_of (Command.Read file) = file
file_of (Command.Write file patch) = file
file_of (Command.Flush file) = file

-- the turn of a command, and the number of the last write after it
abbrev pub turn_by : Client → Command → Turn
turn_by client command = commanded_turn client.is_online
    (lease_key client.guid (file_of command)) client.last_number command (client.entries (file_of command))

abbrev pub last_by : Client → Command → ℕ
last_by client command = last_after client.is_online
    (lease_key client.guid (file_of command)) client.last_number command (client.entries (file_of command))

abbrev pub step_by : Client → Command → Step
step_by client command =
    with_number (last_by client command) (turned client (file_of command) (turn_by client command))

-- A command comes from the application.
unfoldable pub commanded : Client → Command → Step
commanded client command =
    if knows_file client (file_of command) then step_by client command else refused_step client Refusal.NotOpen
