-- Compounds: messages that are sent as one (MS-SMB2 2.2.1, NextCommand). Messages that are called past have the newest one first.
use Rattle.std.specs.Prelude.{ℕ, ◌+◌, List, [], ◌∷◌, Option, Some, None}
use Rattle.capture_wire.specs.declared.message.Message.{Message}
use Rattle.capture_walk.specs.Reading.{ids_of, closed_behind, note_of}
use Rattle.capture_walk.specs.declared.note.Note.{Note}
use Rattle.capture_walk.specs.declared.note.Seen.{Seen}
use Rattle.capture_walk.specs.declared.reading.Ids.{Ids}
use Rattle.capture_walk.specs.declared.frame.Frame.{Frame}

-- what is seen where the frame is, with this number
abbrev pub seen_at : Frame → ℕ → Note → Seen
seen_at frame number note = record {
  number = number;
  connection = frame.connection;
  server = frame.server;
  earliest = frame.earliest;
  latest = frame.latest;
  note = note;
}

-- the messages seen after those of a frame, which are counted from a number on
abbrev pub seen_behind : Frame → ℕ → Option Ids → List Message → List Seen → List Seen
seen_behind frame number before [] past = past
seen_behind frame number before (message ∷ later) past =
    seen_behind frame (number + 1) (Some (ids_of message before)) later
    (seen_at frame number (note_of message (ids_of message before) (closed_behind later)) ∷ past)

abbrev pub seen_after : Frame → List Message → List Seen → List Seen
seen_after frame messages past = seen_behind frame frame.number None messages past
