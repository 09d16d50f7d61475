-- What a record says, in the words of what a judge keeps. The past is newest first; places count facts from 1.
use Rattle.std.specs.Prelude.{ℕ, ◌+◌, Bool, false, not, Option, Some, None, List, [], ◌∷◌, ◌++◌, if◌then◌else◌, ◌==◌, ◌&&◌}
use Rattle.std.specs.Prelude.{length, map}
use Rattle.std.specs.Option.{option_map}
use Rattle.lease_model.specs.records.Facts.{Fact}
use Rattle.lease_model.specs.records.Past.{sendings, is_settled}
use Rattle.lease_world.specs.declared.judging.covers.Layer.{Layer}
use Rattle.lease_world.specs.judge.Seen.{Change, Waiting, SeenWrite, accepted_as}

-- a file's changes, in order
unfoldable pub placed_changes : ℕ → List Fact → List Change
placed_changes file [] = []
placed_changes file (Fact.Changed other client number patch ∷ past) =
    if other == file then placed_changes file past ++ record { place = length past + 1; patch = patch } ∷ []
    else placed_changes file past
placed_changes file (_ ∷ past) = placed_changes file past

-- where another client than this one opened or changed the file last
unfoldable pub last_touch : ℕ → ℕ → List Fact → ℕ
last_touch client file [] = 0
last_touch client file (Fact.Opened other opener ∷ past) =
    if other == file && not (opener == client) then length past + 1 else last_touch client file past
last_touch client file (Fact.Changed other writer number patch ∷ past) =
    if other == file && not (writer == client) then length past + 1 else last_touch client file past
last_touch client file (_ ∷ past) = last_touch client file past

-- the client's write of this number
unfoldable pub write_of : ℕ → ℕ → List Fact → Option SeenWrite
write_of client number [] = None
write_of client number (Fact.Wrote writer file used patch buffered ∷ past) =
    if writer == client && used == number then Some (record {
      file = file;
      place = length past + 1;
      buffered = buffered;
      patch = patch;
      accepted = false;
    })
    else write_of client number past
write_of client number (Fact.Changed file writer used patch ∷ past) =
    if writer == client && used == number then option_map (accepted_as file patch) (write_of client number past)
    else write_of client number past
write_of client number (_ ∷ past) = write_of client number past

-- the client's writes on the file that stand in `past` and aren't settled in `whole`, in order
unfoldable pub pending : ℕ → ℕ → List Fact → List Fact → List Waiting
pending client file whole [] = []
pending client file whole (Fact.Wrote writer other number patch buffered ∷ past) =
    if writer == client && other == file && not (is_settled client number whole)
    then pending client file whole past ++ record { number = number; patch = patch } ∷ []
    else pending client file whole past
pending client file whole (_ ∷ past) = pending client file whole past

-- the place of the fact after a past
abbrev pub place_of : List Fact → ℕ
place_of past = length past + 1

abbrev pub sent_places : ℕ → List Fact → List ℕ
sent_places client past = map place_of (sendings client past)

abbrev pub is_unsettled : ℕ → List Fact → Layer → Bool
is_unsettled client past layer = not (is_settled client layer.number past)
