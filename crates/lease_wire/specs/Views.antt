-- The code's values as the definitions see them.
use Rattle.std.specs.Prelude.{Result, Ok, Err}
use Rattle.std.specs.Option.{option_map}
use Rattle.lease_state.specs.State.{state_of}
use Rattle.lease_wire.specs.Names as names
use Rattle.lease_wire.specs.Names.{LeaseView, CreateView}
use Rattle.lease_wire.specs.declared.fault.WireFault.{WireFault}
use Rattle.lease_wire.specs.declared.create.meaning.Lease.{Lease}
use Rattle.lease_wire.specs.declared.create.meaning.Meaning as code
use Rattle.lease_wire.specs.declared.create.reading.ContextValues.{ContextValues}

abbrev pub lease_of : Lease → LeaseView
lease_of lease = record { key = lease.key.0; state = state_of lease.state; breaking = lease.breaking }

abbrev pub meaning_view : code.Meaning → names.Meaning
meaning_view code.TheVariants.Unknown = names.Meaning.Unknown
meaning_view code.TheVariants.WrongLength = names.Meaning.WrongLength
meaning_view (code.TheVariants.Lease lease) = names.Meaning.Lease (lease_of lease)
meaning_view code.TheVariants.Durable = names.Meaning.Durable
meaning_view (code.TheVariants.Reconnect file_id) = names.Meaning.Reconnect file_id.0

abbrev pub values_of : ContextValues → CreateView
values_of values = record {
  lease = option_map lease_of values.lease;
  durable = values.durable;
  reconnect = option_map (λ file_id. file_id.0) values.reconnect;
}

abbrev pub values_result : Result ContextValues WireFault → Result CreateView WireFault
values_result (Ok values) = Ok (values_of values)
values_result (Err fault) = Err fault
