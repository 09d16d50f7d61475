-- The code's tables and values as the definitions see them.
use Rattle.std.specs.Prelude.{ℕ, Option, List}
use Rattle.std.specs.BTreeMap.{get}
use Rattle.std.specs.Cmp.Lexicographic.{slice_cmp}
use Rattle.std.specs.Option.{option_map}
use Rattle.std.specs.Ordering.{nat_cmp, on}
use Rattle.std.specs.declared.cmp.Ordering.{Ordering}
use Rattle.capture_wire.specs.declared.field.Guid.{Guid}
use Rattle.lease_state.specs.State.{state_of}
use Rattle.lease_state.specs.declared.key.LeaseKey.{LeaseKey}
use Rattle.client_versions.specs.Layer as layer
use Rattle.client_versions.specs.declared.guids.Guids.{Guids}
use Rattle.client_versions.specs.declared.leases.Known as known
use Rattle.client_versions.specs.declared.leases.Leases.{Leases}
use Rattle.client_versions.specs.declared.versions.ClientVersions.{ClientVersions}

abbrev pub guid_of : Guid → List ℕ
guid_of guid = guid.0

abbrev pub key_bytes : LeaseKey → List ℕ
key_bytes key = key.0

abbrev pub known_of : known.Known → layer.Known
known_of known = record { epoch = known.epoch; state = state_of known.state }

-- by their bytes, as maps keep keys
abbrev pub key_order : LeaseKey → LeaseKey → Ordering
key_order = on (λ key. key.0) (slice_cmp nat_cmp)

abbrev pub leases_of : Leases → List ℕ → Option layer.Known
leases_of leases key = option_map known_of (get key_order leases.by_key (record { 0 = key }))

abbrev pub guids_of : Guids → ℕ → Option (List ℕ)
guids_of guids file_id = option_map guid_of (get nat_cmp guids.by_number file_id)

abbrev pub layer_of : ClientVersions → layer.Layer
layer_of versions = record { leases = leases_of versions.leases; guids = guids_of versions.guids }
