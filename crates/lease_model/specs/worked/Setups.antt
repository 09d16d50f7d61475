-- Worked setups: which of them a run accepts, and what is found where a setup has nothing.
use Rattle.std.specs.Prelude.{◌≡◌, ℕ, Bool, true, false, List, [], ◌∷◌, map, replicate}
use Rattle.lease_model.specs.server.State.{new_server}
use Rattle.lease_model.specs.values.Lists.{numbers_to}
use Rattle.lease_model.specs.worked.Schedules.{two_clients}
use Rattle.lease_model.specs.worked.ValueWords.{first_guid, second_guid}
use Rattle.lease_model.specs.world.Allowed.{is_allowed_setup}
use Rattle.lease_model.specs.world.World.{first_world}

-- so many ClientGuids, each of one byte sixteen times
abbrev pub guids_to : ℕ → List (List ℕ)
guids_to count = map (λ byte. replicate 16 byte) (numbers_to count)

-- a setup of so many empty files with these clients is allowed
abbrev pub is_allowed_with : ℕ → List (List ℕ) → Bool
is_allowed_with files guids = is_allowed_setup (record { files = replicate files []; clients = guids })

-- Eight files and sixteen clients are allowed, and a setup of nothing; nine files, seventeen clients and two
-- equal ClientGuids are not.
abbrev pub AllowedSetups : Type 0
AllowedSetups =
    is_allowed_with 8 (guids_to 16) ∷ is_allowed_with 0 [] ∷ is_allowed_with 9 (guids_to 1)
    ∷ is_allowed_with 1 (guids_to 17) ∷ is_allowed_with 1 (first_guid ∷ second_guid ∷ first_guid ∷ []) ∷ [] ≡
    true ∷ true ∷ false ∷ false ∷ false ∷ []

-- A file that isn't there has no bytes, also under number 0, and a client that isn't there no ClientGuid.
abbrev pub NothingThere : Type 0
NothingThere =
    ((new_server ((0x61 ∷ []) ∷ [])).contents 0 ≡ [])
    × ((new_server ((0x61 ∷ []) ∷ [])).contents 1 ≡ 0x61 ∷ [])
    × ((new_server ((0x61 ∷ []) ∷ [])).contents 2 ≡ [])
    × (((first_world two_clients).clients 0).guid ≡ [])
    × (((first_world two_clients).clients 3).guid ≡ [])
