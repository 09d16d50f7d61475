-- Where frames are: each line has a position, and what a client sent was sent just before it. Lines that are called past have the
-- newest one first; they are those that aren't passed over.
use Rattle.std.specs.Prelude.{ℕ, zero, suc, ◌+◌, ◌-◌, ◌*◌, ◌==◌, Bool, true, false, if◌then◌else◌}
use Rattle.std.specs.Prelude.{List, [], ◌∷◌, ◌++◌, length, slice_get, unwrap_or}
use Rattle.capture_texts.specs.declared.line.Side.{Side}
use Rattle.capture_texts.specs.declared.line.Side.TheVariants as side
use Rattle.capture_texts.specs.declared.line.FrameSaid.{FrameSaid}
use Rattle.capture_texts.specs.declared.line.Said.{Said}
use Rattle.capture_texts.specs.declared.line.Said.TheVariants as said
use Rattle.capture_texts.specs.declared.line.Line.{Line}

-- the number of the next line, from 1
abbrev pub next_line : List Line → ℕ
next_line past = length past + 1

-- the position of what a side sent, by the number of its line
abbrev pub position : Side → ℕ → ℕ
position side.Client line = line * 2 - 1
position side.Server line = line * 2

-- the side at which the capture is made sent it
abbrev pub is_near : Side → Side → Bool
is_near side.Client side.Client = true
is_near side.Client side.Server = false
is_near side.Server side.Client = false
is_near side.Server side.Server = true

-- where the capture is made at the client, it takes what the server sent where the capture has it
abbrev pub is_taken : Side → Side → Bool
is_taken side.Client side.Client = false
is_taken side.Client side.Server = true
is_taken side.Server side.Client = false
is_taken side.Server side.Server = false

-- ---- what the other side had acknowledged

-- where a side sent one more frame on a connection
abbrev pub near_after : Side → ℕ → Side → List ℕ → List ℕ
near_after at line from before = if is_near at from then before ++ position from line ∷ [] else before

abbrev pub near_by : Side → ℕ → ℕ → ℕ → Said → List ℕ → List ℕ
near_by at connection line other (said.Frame frame) before =
    if other == connection then near_after at line frame.from before else before
near_by at connection line other _ before = before

-- the positions of the frames that the side at which the capture is made sent on a connection, in their order
abbrev pub near_positions : Side → ℕ → List Line → List ℕ
near_positions at connection [] = []
near_positions at connection (line ∷ past) =
    near_by at connection (next_line past) line.connection line.said (near_positions at connection past)

-- the position of the last of so many frames; 0 where there are none, or not so many
abbrev pub last_position : ℕ → List ℕ → ℕ
last_position zero positions = 0
last_position (suc count) positions = unwrap_or (slice_get positions count) 0

-- The first position at which a frame can have been sent. What the near side sent is captured at once; what the other one sent
-- was sent after the frames that its host had acknowledged, of which these are the positions.
abbrev pub earliest_by : Side → ℕ → FrameSaid → List ℕ → ℕ
earliest_by at line frame positions =
    if is_near at frame.from then position frame.from line else last_position frame.acknowledged positions

abbrev pub earliest : Side → ℕ → FrameSaid → List Line → ℕ
earliest at connection frame past = earliest_by at (next_line past) frame (near_positions at connection past)

-- ---- what was sent without a frame, as the end of a connection: after the last frame of its side

abbrev pub earliest_said : Side → ℕ → Said → List Line → ℕ
earliest_said at connection (said.Frame frame) past = earliest at connection frame past
earliest_said at connection _ past = 0

-- where a side sent one more frame, which can have been sent from a position on
abbrev pub far_after : Side → Side → ℕ → ℕ → ℕ
far_after at from position before = if is_near at from then before else position

abbrev pub far_by : Side → ℕ → ℕ → Said → ℕ → ℕ → ℕ
far_by at connection other (said.Frame frame) position before =
    if other == connection then far_after at frame.from position before else before
far_by at connection other _ position before = before

-- the first position at which the other side can have sent its last frame on a connection; 0 where it sent none
abbrev pub far_earliest : Side → ℕ → List Line → ℕ
far_earliest at connection [] = 0
far_earliest at connection (line ∷ past) =
    far_by at connection line.connection line.said (earliest_said at line.connection line.said past)
    (far_earliest at connection past)
