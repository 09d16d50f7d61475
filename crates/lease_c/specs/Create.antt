-- What create contexts ask for or grant, as structs hold it.
use Rattle.std.specs.Prelude.{ℕ, Bool, false, List, replicate, Option, Some, None, is_some, if◌then◌else◌}
use Rattle.lease_state.specs.State.{state_of_bits, bits_of_state}
use Rattle.lease_wire.specs.Names.{LeaseView, CreateView}
use Rattle.lease_c.specs.Flag.{is_set, flag_of}
use Rattle.lease_c.specs.declared.create.LeaseCreateAsk.{LeaseCreateAsk}
use Rattle.lease_c.specs.declared.create.LeaseCreateAnswer.{LeaseCreateAnswer}

-- what a request's struct holds, whatever its bytes are
abbrev pub ask_held : LeaseCreateAsk → CreateView
ask_held ask = record {
  lease = if is_set ask.has_lease
      then Some (record { key = ask.key; state = state_of_bits ask.state; breaking = false }) else None;
  durable = is_set ask.durable;
  reconnect = if is_set ask.has_reconnect then Some ask.file_id else None;
}

-- what a response's struct holds
abbrev pub answer_held : LeaseCreateAnswer → CreateView
answer_held answer = record {
  lease = if is_set answer.has_lease
      then Some (record { key = answer.key; state = state_of_bits answer.state; breaking = is_set answer.breaking }) else None;
  durable = is_set answer.durable;
  reconnect = None;
}

-- the fields as they are written: all of a lease or a reconnect that isn't there are 0, and all that is reserved;
-- with it is said whether a lease of version 2 was passed over
abbrev pub key_field : Option LeaseView → List ℕ
key_field None = replicate 16 0
key_field (Some lease) = lease.key

abbrev pub state_field : Option LeaseView → ℕ
state_field None = 0
state_field (Some lease) = bits_of_state lease.state

abbrev pub breaking_field : Option LeaseView → ℕ
breaking_field None = 0
breaking_field (Some lease) = flag_of lease.breaking

abbrev pub file_id_field : Option ℕ → ℕ
file_id_field None = 0
file_id_field (Some file_id) = file_id

abbrev pub ask_fields : Bool → CreateView → LeaseCreateAsk
ask_fields other_lease v = record {
  key = key_field v.lease;
  file_id = file_id_field v.reconnect;
  state = state_field v.lease;
  has_lease = flag_of (is_some v.lease);
  durable = flag_of v.durable;
  has_reconnect = flag_of (is_some v.reconnect);
  has_other_lease = flag_of other_lease;
  reserved = replicate 6 0;
}

abbrev pub answer_fields : Bool → CreateView → LeaseCreateAnswer
answer_fields other_lease v = record {
  key = key_field v.lease;
  state = state_field v.lease;
  has_lease = flag_of (is_some v.lease);
  breaking = breaking_field v.lease;
  durable = flag_of v.durable;
  has_other_lease = flag_of other_lease;
  reserved = replicate 6 0;
}
