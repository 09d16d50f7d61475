-- What values from C stand for.
use Rattle.std.specs.Prelude.{ℕ, List, Option, Some, None, if◌then◌else◌}
use Rattle.lease_state.specs.declared.key.LeaseKey.{LeaseKey}
use Rattle.machines_c.specs.handles.Codes.{is_set}
use Rattle.machines_c.specs.declared.values.MaybeKey.{MaybeKey}

-- the key of a request, where it has one
abbrev pub key_given : MaybeKey → Option (List ℕ)
key_given key = if is_set key.has_key then Some key.bytes else None

abbrev pub key_coded : MaybeKey → Option LeaseKey
key_coded key = if is_set key.has_key then Some (record { 0 = key.bytes }) else None
