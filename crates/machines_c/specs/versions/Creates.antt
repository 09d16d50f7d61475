-- What becomes of a create by its contexts, as C sees it.
use Rattle.std.specs.Prelude.{◌≡◌, ◌≢◌, ℕ, Bool, false, List, Option, Some, None, is_some, replicate, Result, Ok, Err}
use Rattle.lease_state.specs.State.{bits_of_state}
use Rattle.lease_state.specs.Status.{code_of}
use Rattle.lease_versions.specs.Arriving.{HasArrived}
use Rattle.lease_versions.specs.Layer.{Layer}
use Rattle.lease_versions.specs.declared.carried.Arrival as arrival
use Rattle.lease_versions.specs.declared.carried.Replayed as replayed
use Rattle.lease_wire.specs.Names as first
use Rattle.lease_wire.specs.declared.create.Direction.TheVariants.{Request}
use Rattle.lease_wire_v2.specs.Gathering.{value_of}
use Rattle.lease_wire_v2.specs.Names.{CreateView}
use Rattle.lease_wire_v2.specs.Views.{plain_of}
use Rattle.lease_wire_v2.specs.declared.fault.CreateFault.{CreateFault}
use Rattle.machines_c.specs.handles.Codes.{flag_of}
use Rattle.machines_c.specs.declared.manager.values.CreateFields.{CreateFields}
use Rattle.machines_c.specs.declared.versions.creates.AskedFields.{AskedFields}

abbrev pub key_field : Option first.LeaseView → List ℕ
key_field None = replicate 16 0
key_field (Some lease) = lease.key

abbrev pub state_field : Option first.LeaseView → ℕ
state_field None = 0
state_field (Some lease) = bits_of_state lease.state

abbrev pub file_id_field : Option ℕ → ℕ
file_id_field None = 0
file_id_field (Some file_id) = file_id

-- what the manager is asked, in fields: those of what isn't asked are 0
abbrev pub plain_fields : first.CreateView → CreateFields
plain_fields ask = record {
  key = key_field ask.lease;
  file_id = file_id_field ask.reconnect;
  state = state_field ask.lease;
  has_lease = flag_of (is_some ask.lease);
  durable = flag_of ask.durable;
  has_reconnect = flag_of (is_some ask.reconnect);
  has_other_lease = 0;
  reserved = replicate 6 0;
}

abbrev pub nothing_asked : first.CreateView
nothing_asked = record { lease = None; durable = false; reconnect = None }

abbrev pub fields_of : first.CreateView → ℕ → ℕ → AskedFields
fields_of ask again status = record { ask = plain_fields ask; again = again; status = status; reserved = 0 }

-- STATUS_DUPLICATE_OBJECTID and STATUS_FILE_NOT_AVAILABLE
abbrev pub replayed_fields : replayed.Replayed → AskedFields
replayed_fields (replayed.TheVariants.Again file_id) = fields_of nothing_asked file_id.0 0
replayed_fields replayed.TheVariants.DuplicateObjectId = fields_of nothing_asked 0 3221226026
replayed_fields replayed.TheVariants.FileNotAvailable = fields_of nothing_asked 0 3221226599

abbrev pub asked_fields : first.CreateView → arrival.Arrival → AskedFields
asked_fields ask arrival.TheVariants.Asked = fields_of ask 0 0
asked_fields ask (arrival.TheVariants.Refused status) = fields_of nothing_asked 0 (code_of status)
asked_fields ask (arrival.TheVariants.Again found) = replayed_fields found

-- Nothing is written, and nothing has changed.
abbrev pub IsRefused : AskedFields → AskedFields → Layer → Layer → Type 0
IsRefused old new before after = (after ≡ before) × (new ≡ old)

-- The create has arrived with what it asks for, or there was no memory.
pub record IsAsked (client tag : ℕ) (ask : CreateView) (replay : Bool) (old new : AskedFields) (result : ℕ)
    (before after : Layer) : Type 0 where
  pub done : result ≡ 0 → (arrived : arrival.Arrival) × HasArrived client tag ask replay before after arrived
      × (new ≡ asked_fields (plain_of ask) arrived)
  pub no_memory : result ≢ 0 → (result ≡ 1) × IsRefused old new before after

abbrev pub HasAskedFor : ℕ → ℕ → Bool → Result CreateView CreateFault → AskedFields → AskedFields → ℕ → Layer → Layer → Type 0
HasAskedFor client tag replay (Ok ask) old new result before after = IsAsked client tag ask replay old new result before after
HasAskedFor client tag replay (Err fault) old new result before after = (result ≡ 5) × IsRefused old new before after

abbrev pub HasAsked : ℕ → ℕ → Bool → List ℕ → AskedFields → AskedFields → ℕ → Layer → Layer → Type 0
HasAsked client tag replay text old new result before after =
    HasAskedFor client tag replay (value_of Request text) old new result before after
