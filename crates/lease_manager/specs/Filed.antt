-- Opens by their FileIds.
use Rattle.std.specs.Prelude.{◌≡◌, ⊤, ℕ, Bool, ◌==◌, false, if◌then◌else◌, List, [], ◌∷◌}
use Rattle.std.specs.declared.cmp.Ordering.{Ordering}
use Rattle.std.specs.Ordering.{nat_cmp, on}
use Rattle.lease_state.specs.declared.number.FileId.{FileId}
use Rattle.lease_model.specs.server.State.{Open}

abbrev pub has_id : ℕ → Open → Bool
has_id file_id one = one.file_id == file_id

abbrev pub file_id_order : FileId → FileId → Ordering
file_id_order = on (λ file_id. file_id.0) nat_cmp

-- each open stands at its own FileId
abbrev pub AreFiled : List (FileId × Open) → Type 0
AreFiled [] = ⊤
AreFiled (entry ∷ entries) = (entry.1.file_id ≡ entry.0.0) × AreFiled entries

abbrev pub is_of : ℕ → Open → Bool
is_of client one = one.client == client

abbrev pub connected_at : ℕ → Bool → Open → Open
connected_at file_id connected one = if has_id file_id one then record one { connected = connected } else one

-- the open of this FileId is no longer connected
abbrev pub disconnected_at : ℕ → Open → Open
disconnected_at file_id one = if has_id file_id one then record one { connected = false } else one
