-- What a run accepts: the limits of a setup, and of the number of events (profile).
use Rattle.std.specs.Prelude.{ℕ, Bool, true, List, [], ◌∷◌, length, nat_le, nat_lt, ◌&&◌, not, bytes_eq}
use Rattle.std.specs.List.{list_any, list_all}
use Rattle.lease_state.specs.declared.content.TheConstants.{FILE_LIMIT}
use Rattle.lease_model.specs.values.Limits.{files_limit, clients_limit, events_limit}
use Rattle.lease_model.specs.world.Events.{Event}
use Rattle.lease_model.specs.world.World.{Setup}

abbrev pub is_content : List ℕ → Bool
is_content bytes = nat_le (length bytes) FILE_LIMIT

-- no two are equal
unfoldable pub are_apart : List (List ℕ) → Bool
are_apart [] = true
are_apart (guid ∷ guids) = not (list_any (bytes_eq guid) guids) && are_apart guids

-- not too many files, each within its limit, not too many clients, and no two with one ClientGuid
unfoldable pub is_allowed_setup : Setup → Bool
is_allowed_setup setup = nat_le (length setup.files) files_limit && list_all is_content setup.files
    && nat_le (length setup.clients) clients_limit && are_apart setup.clients

unfoldable pub are_too_many : List Event → Bool
are_too_many events = nat_lt events_limit (length events)
