-- Tables are functions; to put a value into one changes it at one place.
use Rattle.std.specs.Prelude.{ℕ, zero, suc, List, if◌then◌else◌, ◌==◌, slice_get, unwrap_or}
use Rattle.lease_model.specs.values.Keys.{Key, key_eq}

-- by a number: a file or a client
unfoldable pub put : {X : Type 0} → (ℕ → X) → ℕ → X → ℕ → X
put table place new n = if n == place then new else table n

-- by a lease's key
unfoldable pub put_key : {X : Type 0} → (Key → X) → Key → X → Key → X
put_key table place new key = if key_eq key place then new else table key

-- the values of a list, numbered from 1; any other number has the first argument
unfoldable pub numbered : {X : Type 0} → X → List X → ℕ → X
numbered other values zero = other
numbered other values (suc n) = unwrap_or (slice_get values n) other
