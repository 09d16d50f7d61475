-- The FileIds of opens.
use Rattle.std.specs.Prelude.{ℕ, Bool, false, Option, Some, None, List, map, find}
use Rattle.lease_model.specs.server.State.{Open, has_key}
use Rattle.lease_model.specs.values.Keys.{Key}
use Rattle.lease_state.specs.declared.number.FileId.{FileId}
use Rattle.lease_manager.specs.Filed.{has_id}

abbrev pub numbers : List FileId → List ℕ
numbers ids = map (λ file_id. file_id.0) ids

abbrev pub ids_of : List Open → List ℕ
ids_of opens = map (λ one. one.file_id) opens

-- the open found of a FileId has the key
abbrev pub found_has : Key → Option Open → Bool
found_has key None = false
found_has key (Some one) = has_key key one

abbrev pub has_key_in : List Open → Key → FileId → Bool
has_key_in opens key file_id = found_has key (find (has_id file_id.0) opens)
