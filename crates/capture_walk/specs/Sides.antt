-- Where the last messages of connections were, on both sides. Messages that are called past have the newest one first.
use Rattle.std.specs.Prelude.{◌≡◌, ℕ, ◌==◌, nat_lt, ◌&&◌, Bool, if◌then◌else◌, List, [], ◌∷◌, unwrap_or}
use Rattle.std.specs.Ordering.{nat_cmp}
use Rattle.std.specs.BTreeMap.{get}
use Rattle.capture_walk.specs.Notes.{is_request, is_answer}
use Rattle.capture_walk.specs.declared.note.Note.{Note}
use Rattle.capture_walk.specs.declared.note.Seen.{Seen}
use Rattle.capture_walk.specs.declared.sides.Sides.{Sides}

-- ---- by looking back

-- the first position at which the last message of a kind can have been sent on a connection; 0 where there is none
abbrev pub last_sent : (Note → Bool) → ℕ → List Seen → ℕ
last_sent is_of connection [] = 0
last_sent is_of connection (seen ∷ past) =
    if seen.connection == connection && is_of seen.note then seen.earliest else last_sent is_of connection past

abbrev pub sooner : ℕ → ℕ → ℕ
sooner one other = if nat_lt one other then one else other

-- What a gap hides was sent after the last message that its sender was seen to send before. Which side that is isn't known.
abbrev pub missing_since : ℕ → List Seen → ℕ
missing_since connection past = sooner (last_sent is_request connection past) (last_sent is_answer connection past)

-- ---- the table

pub record KnowsSides (past : List Seen) (sides : Sides) : Type 0 where
  pub requests : (connection : ℕ) → unwrap_or (get nat_cmp sides.requests connection) 0 ≡ last_sent is_request connection past
  pub answers : (connection : ℕ) → unwrap_or (get nat_cmp sides.answers connection) 0 ≡ last_sent is_answer connection past
