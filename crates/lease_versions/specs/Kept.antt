-- The code's tables and values as the definitions see them.
use Rattle.std.specs.Prelude.{ℕ, Option, List}
use Rattle.std.specs.BTreeMap.{get}
use Rattle.std.specs.Option.{option_map}
use Rattle.std.specs.Ordering.{nat_cmp, ordering_then}
use Rattle.std.specs.declared.cmp.Ordering.{Ordering}
use Rattle.capture_wire.specs.declared.field.Guid.{Guid}
use Rattle.lease_state.specs.State.{state_of}
use Rattle.lease_state.specs.declared.key.LeaseKey.{LeaseKey}
use Rattle.lease_model.specs.values.Keys.{Key}
use Rattle.lease_manager.specs.KeyOrder.{key_order}
use Rattle.lease_wire_v2.specs.Views.{second_of}
use Rattle.lease_versions.specs.Layer as layer
use Rattle.lease_versions.specs.Rows as rows
use Rattle.lease_versions.specs.declared.carried.Carried as carried
use Rattle.lease_versions.specs.declared.leases.Lease as lease
use Rattle.lease_versions.specs.declared.leases.Leases.{Leases}
use Rattle.lease_versions.specs.declared.opens.Open as one
use Rattle.lease_versions.specs.declared.opens.Opens.{Opens}
use Rattle.lease_versions.specs.declared.requests.Asked as asked
use Rattle.lease_versions.specs.declared.requests.AskedCreate as create
use Rattle.lease_versions.specs.declared.requests.RequestName.{RequestName}
use Rattle.lease_versions.specs.declared.requests.Requests.{Requests}
use Rattle.lease_versions.specs.declared.versions.Versions.{Versions}

abbrev pub guid_of : Guid → List ℕ
guid_of guid = guid.0

abbrev pub key_bytes : LeaseKey → List ℕ
key_bytes key = key.0

abbrev pub create_of : create.AskedCreate → layer.AskedCreate
create_of ask = record {
  second = option_map second_of ask.second;
  guid = option_map guid_of ask.guid;
  reconnects = ask.reconnects;
}

abbrev pub asked_of : asked.Asked → layer.Asked
asked_of (asked.TheVariants.Create ask) = layer.Asked.Create (create_of ask)
asked_of (asked.TheVariants.Close file_id) = layer.Asked.Close file_id.0

abbrev pub lease_of : lease.Lease → layer.Lease
lease_of kept = record {
  second = option_map second_of kept.second;
  state = state_of kept.state;
  breaking = kept.breaking;
  opens = kept.opens;
}

abbrev pub open_of : one.Open → layer.Open
open_of kept = record {
  client = kept.client.0;
  key = option_map key_bytes kept.key;
  guid = option_map guid_of kept.guid;
}

abbrev pub request_name : ℕ → ℕ → RequestName
request_name client tag = record { client = client; tag = tag }

abbrev pub tag_order : RequestName → RequestName → Ordering
tag_order one other = ordering_then (nat_cmp one.client other.client) (nat_cmp one.tag other.tag)

abbrev pub requests_of : Requests → ℕ → ℕ → Option layer.Asked
requests_of requests client tag = option_map asked_of (get tag_order requests.by_tag (request_name client tag))

abbrev pub leases_of : Leases → Key → Option layer.Lease
leases_of leases key = option_map lease_of (get key_order leases.by_name key)

abbrev pub opens_of : Opens → ℕ → Option layer.Open
opens_of opens file_id = option_map open_of (get nat_cmp opens.by_number file_id)

abbrev pub layer_of : Versions → layer.Layer
layer_of versions = record {
  asked = requests_of versions.requests;
  leases = leases_of versions.leases;
  opens = opens_of versions.opens;
}

abbrev pub carried_of : carried.Carried → rows.Carried
carried_of carried.TheVariants.Nothing = rows.Carried.Nothing
carried_of (carried.TheVariants.Answer second durable) = rows.Carried.Answer (option_map second_of second) durable
carried_of (carried.TheVariants.Notice epoch) = rows.Carried.Notice epoch
