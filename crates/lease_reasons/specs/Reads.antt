-- What a cached read should have given, and which facts make it so.
use Rattle.std.specs.Prelude.{◌≡◌, ℕ, ◌+◌, Bool, false, List, ◌∷◌, [], ◌++◌, length, Option, Some, None, if◌then◌else◌, ◌==◌}
use Rattle.std.specs.Prelude.{◌&&◌, not}
use Rattle.std.specs.List.{list_any}
use Rattle.lease_state.specs.Content.{patch, patches}
use Rattle.lease_model.specs.records.Facts.{Fact}
use Rattle.lease_model.specs.records.Past.{is_settled, unanswered, content_at, last_sending}
use Rattle.lease_reasons.specs.Marks.{fits}
use Rattle.lease_reasons.specs.Places.{last_place}
use Rattle.lease_reasons.specs.declared.marks.Mark.TheVariants as mark
use Rattle.lease_state.specs.declared.number.ClientNo.{ClientNo}
use Rattle.lease_state.specs.declared.number.FileNo.{FileNo}
use Rattle.lease_reasons.specs.declared.reason.Expected.{Expected}

-- where the writes of a client on a file stand in `past` that aren't settled in `whole`, in order
unfoldable pub unsettled_places : ℕ → ℕ → List Fact → List Fact → List ℕ
unsettled_places client file whole [] = []
unsettled_places client file whole (Fact.Wrote writer other number patch buffered ∷ past) =
    if writer == client && other == file && not (is_settled client number whole)
    then unsettled_places client file whole past ++ (length past + 1) ∷ []
    else unsettled_places client file whole past
unsettled_places client file whole (_ ∷ past) = unsettled_places client file whole past

-- What the client's cached read of the file should have given. The message that it took last was taken and sent at these places;
-- there the file was as it was started, with its changes up to the last one before; and these writes of the client have no
-- answer.
pub record IsExpected (client : ClientNo) (file : FileNo) (past : List Fact) (told : Expected) : Type 0 where
  pub place : List Fact
  pub sending : last_sending client.0 past ≡ Some place
  pub sent : told.sent ≡ length place + 1
  pub taken : last_place (fits (mark.Taking client)) past ≡ Some told.taken
  pub started : last_place (fits (mark.Start file)) past ≡ told.started
  pub changed : last_place (fits (mark.Change file)) place ≡ told.changed
  pub written : told.unanswered.items ≡ unsettled_places client.0 file.0 past past
  pub bytes : told.bytes ≡ patches (content_at file.0 past place) (unanswered client.0 file.0 past)

-- ---- what is gathered

abbrev pub is_number : ℕ → List ℕ → Bool
is_number n numbers = list_any (λ k. n == k) numbers

-- these are the numbers of the client's writes that were settled
abbrev pub AreSettled : ℕ → List Fact → List ℕ → Type 0
AreSettled client past numbers = (n : ℕ) → is_number n numbers ≡ is_settled client n past

-- the number of the client's write that a fact settles
abbrev pub settled_told : ℕ → Fact → Option ℕ
settled_told client (Fact.Settled other settled outcome) = if other == client then Some settled else None
settled_told client _ = None

abbrev pub is_settled_by : ℕ → Option ℕ → Bool
is_settled_by n None = false
is_settled_by n (Some settled) = settled == n

-- a fact gives the client a write of the file whose number is none of these
abbrev pub is_waiting : ℕ → ℕ → List ℕ → Fact → Bool
is_waiting client file settled (Fact.Wrote writer other number patch buffered) =
    writer == client && other == file && not (is_number number settled)
is_waiting client file settled _ = false

-- the bytes of a file after a fact that starts it, that changes it, and that gives a write of it
abbrev pub with_start : ℕ → Fact → List ℕ → List ℕ
with_start file (Fact.Start other first) bytes = if other == file then first else bytes
with_start file _ bytes = bytes

abbrev pub with_change : ℕ → Fact → List ℕ → List ℕ
with_change file (Fact.Changed other client number change) bytes = if other == file then patch bytes change else bytes
with_change file _ bytes = bytes

abbrev pub with_write : Bool → Fact → List ℕ → List ℕ
with_write waits (Fact.Wrote writer other number write buffered) bytes = if waits then patch bytes write else bytes
with_write waits _ bytes = bytes
