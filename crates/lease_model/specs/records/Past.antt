-- What a record says at a place. Each notion is a function of the past, the facts before the place,
-- the newest first; it is meant for every record, whoever made it (profile).
use Rattle.std.specs.Prelude.{ℕ, zero, suc, ◌+◌, Bool, false, Option, None, List, [], ◌∷◌, ◌++◌, if◌then◌else◌, ◌==◌, ◌&&◌, ◌||◌}
use Rattle.std.specs.Prelude.{not, slice_get}
use Rattle.lease_state.specs.State.{State, nothing_cached}
use Rattle.lease_state.specs.declared.patch.Patch.{Patch}
use Rattle.lease_state.specs.Content.{patches}
use Rattle.lease_model.specs.values.Patches.{same_patch}
use Rattle.lease_model.specs.records.Facts.{Fact}

-- the file was started
unfoldable pub is_started : ℕ → List Fact → Bool
is_started file [] = false
is_started file (Fact.Start other bytes ∷ past) = other == file || is_started file past
is_started file (_ ∷ past) = is_started file past

-- the bytes with which a file was started
unfoldable pub start_of : ℕ → List Fact → List ℕ
start_of file [] = []
start_of file (Fact.Start other bytes ∷ past) = if other == file then bytes else start_of file past
start_of file (_ ∷ past) = start_of file past

-- what a file was changed by, in order
unfoldable pub changes_of : ℕ → List Fact → List Patch
changes_of file [] = []
changes_of file (Fact.Changed other client number patch ∷ past) =
    if other == file then changes_of file past ++ patch ∷ [] else changes_of file past
changes_of file (_ ∷ past) = changes_of file past

-- The content of a file at an earlier place: its start, wherever that stands in the past, with the
-- changes that stood before the place.
unfoldable pub content_at : ℕ → List Fact → List Fact → List ℕ
content_at file past place = patches (start_of file past) (changes_of file place)

-- the client has strayed
unfoldable pub has_strayed : ℕ → List Fact → Bool
has_strayed client [] = false
has_strayed client (Fact.Strayed other ∷ past) = other == client || has_strayed client past
has_strayed client (_ ∷ past) = has_strayed client past

-- the client joined
unfoldable pub has_joined : ℕ → List Fact → Bool
has_joined client [] = false
has_joined client (Fact.Joined other ∷ past) = other == client || has_joined client past
has_joined client (_ ∷ past) = has_joined client past

-- the client joined, and neither was its connection lost nor did a timer of its run out since
unfoldable pub is_served : ℕ → List Fact → Bool
is_served client [] = false
is_served client (Fact.Joined other ∷ past) = other == client || is_served client past
is_served client (Fact.Dropped other ∷ past) = not (other == client) && is_served client past
is_served client (Fact.Expired other file ∷ past) = not (other == client) && is_served client past
is_served client (_ ∷ past) = is_served client past

-- Such a client is good, unless it ever strayed.
unfoldable pub is_good : ℕ → List Fact → Bool
is_good client past = not (has_strayed client past) && is_served client past

-- For each message sent to the client since it joined last, in order: the past before it was sent.
unfoldable pub sendings : ℕ → List Fact → List (List Fact)
sendings client [] = []
sendings client (Fact.Joined other ∷ past) = if other == client then [] else sendings client past
sendings client (Fact.Sent other ∷ past) =
    if other == client then sendings client past ++ past ∷ [] else sendings client past
sendings client (_ ∷ past) = sendings client past

-- how many messages the client took since it joined last
unfoldable pub takings : ℕ → List Fact → ℕ
takings client [] = 0
takings client (Fact.Joined other ∷ past) = if other == client then 0 else takings client past
takings client (Fact.Took other ∷ past) =
    if other == client then takings client past + 1 else takings client past
takings client (_ ∷ past) = takings client past

abbrev pub last_of : ℕ → List (List Fact) → Option (List Fact)
last_of zero places = None
last_of (suc count) places = slice_get places count

-- The past before the sending of the message that the client took last: the k-th that it took since
-- it joined is the k-th sent to it since.
unfoldable pub last_sending : ℕ → List Fact → Option (List Fact)
last_sending client past = last_of (takings client past) (sendings client past)

-- the client was told what became of its write of this number
unfoldable pub is_settled : ℕ → ℕ → List Fact → Bool
is_settled client number [] = false
is_settled client number (Fact.Settled other settled outcome ∷ past) =
    (other == client && settled == number) || is_settled client number past
is_settled client number (_ ∷ past) = is_settled client number past

-- the writes of a client on a file that stand in `past` and aren't settled in `whole`, in order
unfoldable pub unsettled : ℕ → ℕ → List Fact → List Fact → List Patch
unsettled client file whole [] = []
unsettled client file whole (Fact.Wrote writer other number patch buffered ∷ past) =
    if writer == client && other == file && not (is_settled client number whole)
    then unsettled client file whole past ++ patch ∷ []
    else unsettled client file whole past
unsettled client file whole (_ ∷ past) = unsettled client file whole past

-- The unanswered writes of a client on a file: those for which nothing is settled yet.
abbrev pub unanswered : ℕ → ℕ → List Fact → List Patch
unanswered client file past = unsettled client file past past

-- what the client believes of the file's lease
unfoldable pub believed : ℕ → ℕ → List Fact → State
believed client file [] = nothing_cached
believed client file (Fact.Believes other of_file state ∷ past) =
    if other == client && of_file == file then state else believed client file past
believed client file (_ ∷ past) = believed client file past

-- the client used this number for a write
unfoldable pub has_number : ℕ → ℕ → List Fact → Bool
has_number client number [] = false
has_number client number (Fact.Wrote writer file used patch buffered ∷ past) =
    (writer == client && used == number) || has_number client number past
has_number client number (_ ∷ past) = has_number client number past

-- the client buffered a write of this number on the file
unfoldable pub has_buffered : ℕ → ℕ → ℕ → List Fact → Bool
has_buffered client file number [] = false
has_buffered client file number (Fact.Wrote writer other used patch buffered ∷ past) =
    (writer == client && other == file && used == number && buffered) || has_buffered client file number past
has_buffered client file number (_ ∷ past) = has_buffered client file number past

-- Another client opened or changed the file after this client buffered the write.
unfoldable pub is_touched : ℕ → ℕ → ℕ → List Fact → Bool
is_touched client file number [] = false
is_touched client file number (Fact.Opened other opener ∷ past) =
    (other == file && not (opener == client) && has_buffered client file number past)
    || is_touched client file number past
is_touched client file number (Fact.Changed other writer used patch ∷ past) =
    (other == file && not (writer == client) && has_buffered client file number past)
    || is_touched client file number past
is_touched client file number (_ ∷ past) = is_touched client file number past

-- the client was given a write of this number with this patch, on the file
unfoldable pub has_written : ℕ → ℕ → ℕ → Patch → List Fact → Bool
has_written client file number patch [] = false
has_written client file number patch (Fact.Wrote writer other used bytes buffered ∷ past) =
    (writer == client && other == file && used == number && same_patch bytes patch)
    || has_written client file number patch past
has_written client file number patch (_ ∷ past) = has_written client file number patch past

-- The client was given a write of this number, and after that the file was changed by that write.
unfoldable pub is_accepted : ℕ → ℕ → List Fact → Bool
is_accepted client number [] = false
is_accepted client number (Fact.Changed file writer used patch ∷ past) =
    (writer == client && used == number && has_written client file number patch past)
    || is_accepted client number past
is_accepted client number (_ ∷ past) = is_accepted client number past
