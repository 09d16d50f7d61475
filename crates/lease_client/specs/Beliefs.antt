-- Beliefs rise only by a create that is answered while no break is in progress.
use Rattle.std.specs.Prelude.{◌≡◌, ℕ, Bool, true, false, not, Option, Some, None, ◌==◌, ◌&&◌}
use Rattle.lease_state.specs.State.{is_state_within}
use Rattle.lease_model.specs.client.State.{Client, belief}
use Rattle.lease_model.specs.messages.Replies.{Reply, LeaseGiven}

-- what is believed of a file's lease isn't more than it was
abbrev pub IsNoMore : Client → Client → ℕ → Type 0
IsNoMore old new file = is_state_within (belief new file) (belief old file) ≡ true

-- no belief rose
abbrev pub NoneRose : Client → Client → Type 0
NoneRose old new = (file : ℕ) → IsNoMore old new file

-- a lease is told, and that no break of it is in progress
abbrev pub is_free : Option LeaseGiven → Bool
is_free None = false
is_free (Some given) = not given.in_progress

-- the reply answers a create of the file, and tells that
abbrev pub grants_to : ℕ → Reply → Bool
grants_to file (Reply.Created of_file file_id (Some answer)) = of_file == file && is_free answer.lease
grants_to file reply = false

-- no belief rose but by such a reply
abbrev pub RoseBy : Reply → Client → Client → Type 0
RoseBy reply old new = (file : ℕ) → grants_to file reply ≡ false → IsNoMore old new file
