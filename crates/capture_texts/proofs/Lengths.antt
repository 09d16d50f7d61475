-- How much is seen with the messages of a frame, and how many of a list pass a test.
use Rattle.std.proofs.Common.{◌≡◌, ◌+◌, ◌++◌, ◌∷◌, [], List, ℕ, Bool, length, filter, if◌then◌else◌, Option, Some, None, arith}
use Rattle.capture_wire.specs.declared.message.Message.{Message}
use Rattle.capture_walk.specs.Frames.{seen_at, seen_behind, seen_after}
use Rattle.capture_walk.specs.Reading.{ids_of, closed_behind, note_of}
use Rattle.capture_walk.specs.declared.frame.Frame.{Frame}
use Rattle.capture_walk.specs.declared.note.Seen.{Seen}
use Rattle.capture_walk.specs.declared.reading.Ids.{Ids}

behind_length : (frame : Frame) (number : ℕ) (before : Option Ids) (messages : List Message) (past : List Seen)
    → length (seen_behind frame number before messages past) ≡ length past + length messages
behind_length frame number before [] past = grind arith
behind_length frame number before (message ∷ later) past =
    let e = behind_length frame (number + 1) (Some (ids_of message before)) later
    (seen_at frame number (note_of message (ids_of message before) (closed_behind later)) ∷ past) in
    grind (arith, e)

pub seen_length : (frame : Frame) (messages : List Message) (past : List Seen)
    → length (seen_after frame messages past) ≡ length past + length messages
seen_length frame messages past = behind_length frame frame.number None messages past

pub count_more : {A : Type 0} (test : A → Bool) (xs : List A) (x : A)
    → length (filter test (xs ++ x ∷ [])) ≡ length (filter test xs) + (if test x then 1 else 0)
count_more test [] x = grind arith
count_more test (y ∷ ys) x = let e = count_more test ys x in grind (arith, e)
