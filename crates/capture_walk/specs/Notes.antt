-- What a note is of, of each kind that is looked for.
use Rattle.std.specs.Prelude.{ℕ, Bool, true, false, Option, Some, None}
use Rattle.capture_wire.specs.declared.field.Guid.{Guid}
use Rattle.capture_walk.specs.declared.note.Note.{Note}
use Rattle.capture_walk.specs.declared.note.Note.TheVariants as note
use Rattle.capture_walk.specs.declared.note.TreeAsked.{TreeAsked}
use Rattle.capture_walk.specs.declared.note.TreeGiven.{TreeGiven}
use Rattle.capture_walk.specs.declared.note.CreateAsked.{CreateAsked}
use Rattle.capture_walk.specs.declared.note.CreateGiven.{CreateGiven}

abbrev pub negotiated : Note → Option Guid
negotiated (note.Negotiate guid) = Some guid
negotiated _ = None

abbrev pub tree_asked : Note → Option TreeAsked
tree_asked (note.TreeAsked asked) = Some asked
tree_asked _ = None

abbrev pub tree_given : Note → Option TreeGiven
tree_given (note.TreeGiven given) = Some given
tree_given _ = None

abbrev pub create_asked : Note → Option CreateAsked
create_asked (note.CreateAsked asked) = Some asked
create_asked _ = None

abbrev pub create_given : Note → Option CreateGiven
create_given (note.CreateGiven given) = Some given
create_given _ = None

-- the MessageId of the request that it answers for good, if that may be a CREATE
abbrev pub answered : Note → Option ℕ
answered (note.CreateGiven given) = Some given.id
answered (note.Done id) = Some id
answered (note.Answered id) = Some id
answered (note.Gone id) = Some id
answered _ = None

-- the server did what it asks
abbrev pub is_done : Note → Bool
is_done (note.CreateGiven given) = true
is_done (note.Done id) = true
is_done _ = false

abbrev pub rename_asked : Note → Option ℕ
rename_asked (note.RenameAsked id) = Some id
rename_asked _ = None

-- what ends opens of a connection, a session or a tree connect
abbrev pub leaves : Note → Bool
leaves note.End = true
leaves (note.Leave session) = true
leaves (note.LeaveTree name) = true
leaves _ = false

abbrev pub is_gap : Note → Bool
is_gap note.Gap = true
is_gap _ = false

-- a client's message, of those that say something
abbrev pub is_request : Note → Bool
is_request (note.Negotiate guid) = true
is_request (note.TreeAsked asked) = true
is_request (note.CreateAsked asked) = true
is_request (note.OnOpen name) = true
is_request (note.Close name) = true
is_request (note.Leave session) = true
is_request (note.LeaveTree name) = true
is_request (note.Acknowledge given) = true
is_request (note.RenameAsked id) = true
is_request _ = false

-- a server's message, likewise
abbrev pub is_answer : Note → Bool
is_answer (note.TreeGiven given) = true
is_answer (note.CreateGiven given) = true
is_answer (note.Done id) = true
is_answer (note.Answered id) = true
is_answer (note.Gone id) = true
is_answer (note.Break break) = true
is_answer _ = false
