-- The keys of opens, each once, in the order in which leases are broken (profile).
use Rattle.std.specs.Prelude.{ℕ, Option, Some, None, List, [], ◌∷◌, if◌then◌else◌}
use Rattle.lease_model.specs.server.Naming.{key_of}
use Rattle.lease_model.specs.server.State.{Open}
use Rattle.lease_model.specs.values.Keys.{Key, key_eq, key_before}

-- the keys with one more, each once, in order
unfoldable pub key_added : Key → List Key → List Key
key_added key [] = key ∷ []
key_added key (other ∷ keys) =
    if key_eq key other then other ∷ keys
    else (if key_before key other then key ∷ other ∷ keys else other ∷ key_added key keys)

abbrev pub open_key_added : ℕ → Option (List ℕ) → List Key → List Key
open_key_added client None keys = keys
open_key_added client (Some bytes) keys = key_added (key_of client bytes) keys

unfoldable pub keys_of : List Open → List Key
keys_of [] = []
keys_of (one ∷ opens) = open_key_added one.client one.lease_key (keys_of opens)
