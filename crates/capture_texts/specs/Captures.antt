-- What the lines of a capture show: messages, in the terms of capture_walk. Lines, and messages that are seen, have the newest
-- one first.
use Rattle.std.specs.Prelude.{◌≡◌, ◌≢◌, ◌+◌, ℕ, Bool, true, false, List, [], ◌∷◌, ◌++◌, length, Option, Some, None, map}
use Rattle.std.specs.Prelude.{Result, Ok, filter, not, if◌then◌else◌}
use Rattle.capture_wire.specs.declared.message.Message.{Message}
use Rattle.capture_walk.specs.Compounds.{HoldsMessages, FailsAfter}
use Rattle.capture_walk.specs.Events as walks
use Rattle.capture_walk.specs.Frames.{seen_at, seen_after}
use Rattle.capture_walk.specs.declared.compound.FrameFault.{FrameFault}
use Rattle.capture_walk.specs.declared.compound.FrameFault.TheVariants as fault
use Rattle.capture_walk.specs.declared.frame.Frame.{Frame}
use Rattle.capture_walk.specs.declared.note.Note.{Note}
use Rattle.capture_walk.specs.declared.note.Note.TheVariants as note
use Rattle.capture_walk.specs.declared.note.Seen.{Seen}
use Rattle.lease_texts.specs.Pieces.{lines_of}
use Rattle.lease_texts.specs.Reading.{is_passed_over, reads_on}
use Rattle.capture_texts.specs.Connections.{differs, ends_of, server_in, KnowsConnections}
use Rattle.capture_texts.specs.Lines.{line_in, is_frame}
use Rattle.capture_texts.specs.Positions.{next_line, position, is_taken, earliest, far_earliest}
use Rattle.capture_texts.specs.Servers.{servers, with_server, server_number}
use Rattle.capture_texts.specs.declared.capture.Capture.{Capture}
use Rattle.capture_texts.specs.declared.capture.Kept.{Kept}
use Rattle.capture_texts.specs.declared.line.FrameSaid.{FrameSaid}
use Rattle.capture_texts.specs.declared.line.Line.{Line}
use Rattle.capture_texts.specs.declared.line.Moment.{Moment}
use Rattle.capture_texts.specs.declared.line.Said.{Said}
use Rattle.capture_texts.specs.declared.line.Said.TheVariants as said
use Rattle.capture_texts.specs.declared.line.Side.{Side}
use Rattle.capture_texts.specs.declared.line.Side.TheVariants as side
use Rattle.capture_texts.specs.declared.walking.Walking.{Walking}

-- ---- where a line is for the walk, by the number of what is seen next

abbrev pub frame_at : Side → ℕ → FrameSaid → List Line → ℕ → Frame
frame_at at connection frame past number = record {
  number = number;
  connection = connection;
  server = server_number frame.server (with_server frame.server (servers past));
  earliest = earliest at connection frame past;
  latest = position frame.from (next_line past);
}

-- A gap, or the end of a connection: whichever side it is of, it came after the last frame that the other side sent.
abbrev pub mark_at : Side → ℕ → List Line → ℕ → Frame
mark_at at connection past number = record {
  number = number;
  connection = connection;
  server = server_number (server_in (ends_of connection past)) (servers past);
  earliest = far_earliest at connection past;
  latest = position side.Client (next_line past);
}

-- ---- what is seen

-- The messages of a frame, or that they can't be read: then something of the connection is missing.
abbrev pub ShowsFrame : Frame → List ℕ → Bool → List Seen → List Seen → Type 0
ShowsFrame frame bytes true before now =
    (messages : List Message) × HoldsMessages bytes messages × (now ≡ seen_after frame messages before)
ShowsFrame frame bytes false before now =
    (messages : List Message) × (found : FrameFault) × (found ≢ fault.Memory) × FailsAfter bytes messages found
    × (now ≡ seen_at frame frame.number note.Gap ∷ before)

-- and that the client took it
abbrev pub with_taken : Bool → Frame → List Seen → List Seen
with_taken true frame seen = seen_at frame (length seen) note.Taken ∷ seen
with_taken false frame seen = seen

abbrev pub ShowsSaid : Side → ℕ → Said → List Line → Bool → List Seen → List Seen → Type 0
ShowsSaid at connection (said.Frame frame) past is_read before now =
    (shown : List Seen) × ShowsFrame (frame_at at connection frame past (length before)) frame.bytes is_read before shown
    × (now ≡ with_taken (is_taken at frame.from) (frame_at at connection frame past (length before)) shown)
ShowsSaid at connection said.Gap past is_read before now = (is_read ≡ true)
    × (now ≡ seen_at (mark_at at connection past (length before)) (length before) note.Gap ∷ before)
ShowsSaid at connection said.End past is_read before now = (is_read ≡ true)
    × (now ≡ seen_at (mark_at at connection past (length before)) (length before) note.End ∷ before)

-- What is seen with a line, after what was seen before it; and whether it isn't a frame that can't be read.
abbrev pub ShowsLine : Side → Line → List Line → Bool → List Seen → List Seen → Type 0
ShowsLine at line past is_read before now = ShowsSaid at line.connection line.said past is_read before now

-- what is seen with all lines, and how many frames can't be read
abbrev pub Shows : Side → List Line → List Seen → ℕ → Type 0
Shows at [] seen unread = (seen ≡ []) × (unread ≡ 0)
Shows at (line ∷ past) seen unread =
    (before : List Seen) × (is_read : Bool) × (earlier : ℕ) × Shows at past before earlier
    × ShowsLine at line past is_read before seen
    × (unread ≡ (if is_read then earlier else earlier + 1))

-- ---- what lines are taken

-- a line is refused that says nothing, or whose frame has other addresses than its connection
abbrev pub with_line : List Line → Option Line → Option (List Line)
with_line past None = None
with_line past (Some line) = if differs line past then None else Some (line ∷ past)

abbrev pub with_text : List Line → List ℕ → Option (List Line)
with_text past text = if is_passed_over text then Some past else with_line past (line_in text)

-- ---- what a capture knows

-- the moments of lines, in their order
abbrev pub moments : List Line → List Moment
moments [] = []
moments (line ∷ past) = moments past ++ line.moment ∷ []

abbrev pub moment_kept : Kept → Moment
moment_kept kept = kept.moment

abbrev pub is_frame_kept : Kept → Bool
is_frame_kept kept = kept.is_frame

abbrev pub is_unread : Kept → Bool
is_unread kept = not kept.is_read

abbrev pub has_frame : Line → Bool
has_frame line = is_frame line.said

-- The walk has seen all this.
pub record KnowsSeen (seen : List Seen) (walking : Walking) : Type 0 where
  pub walk : walks.Knows seen walking.walk
  pub number : walking.number ≡ length seen

-- The capture has taken these lines, with which this is seen.
pub record HasSeen (past : List Line) (seen : List Seen) (capture : Capture) : Type 0 where
  pub walking : KnowsSeen seen capture.walking
  pub connections : KnowsConnections capture.at past capture.connections
  pub servers : capture.servers.addresses.items ≡ servers past
  pub counted : length capture.kept.items ≡ length past
  pub moments : map moment_kept capture.kept.items ≡ moments past
  pub frames : length (filter is_frame_kept capture.kept.items) ≡ length (filter has_frame past)

-- The capture knows these lines, and what they show.
pub record Knows (past : List Line) (capture : Capture) : Type 0 where
  pub seen : List Seen
  pub unread : ℕ
  pub shows : Shows capture.at past seen unread
  pub has : HasSeen past seen capture
  pub unread_is : length (filter is_unread capture.kept.items) ≡ unread

-- All of a line but what is kept of it has been taken.
pub record HasTaken (line : Line) (past : List Line) (seen : List Seen) (before now : Capture) : Type 0 where
  pub walking : KnowsSeen seen now.walking
  pub connections : KnowsConnections before.at (line ∷ past) now.connections
  pub servers : now.servers.addresses.items ≡ servers (line ∷ past)
  pub at : now.at ≡ before.at
  pub kept : now.kept ≡ before.kept

-- The server of the next frame is known, and nothing else of it.
pub record IsBehind (past : List Line) (seen : List Seen) (frame : FrameSaid) (capture : Capture) : Type 0 where
  pub walking : KnowsSeen seen capture.walking
  pub connections : KnowsConnections capture.at past capture.connections
  pub servers : capture.servers.addresses.items ≡ with_server frame.server (servers past)
  pub counted : length capture.kept.items ≡ length past

-- A gap or an end has been taken, and nothing else has changed.
pub record HasMarked (at : Side) (connection : ℕ) (note : Note) (past : List Line) (seen : List Seen)
    (before now : Capture) : Type 0 where
  pub walking : KnowsSeen (seen_at (mark_at at connection past (length seen)) (length seen) note ∷ seen) now.walking
  pub connections : now.connections ≡ before.connections
  pub servers : now.servers ≡ before.servers
  pub at_is : now.at ≡ before.at
  pub kept : now.kept ≡ before.kept

-- ---- whole captures

-- the lines that a text is read as, or the number of its first line that is refused
abbrev pub capture_in : List ℕ → Result (List Line) ℕ
capture_in text = reads_on with_text 1 [] (lines_of text)

-- The capture is what the text is read as, made at this side.
pub record IsReadFrom (at : Side) (text : List ℕ) (capture : Capture) : Type 0 where
  pub lines : List Line
  pub read : capture_in text ≡ Ok lines
  pub knows : Knows lines capture
  pub at_is : capture.at ≡ at
