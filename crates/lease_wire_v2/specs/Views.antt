-- The code's values as the definitions see them.
use Rattle.std.specs.Prelude.{ℕ, false, None, Result, Ok, Err, is_some}
use Rattle.std.specs.Option.{option_map}
use Rattle.lease_state.specs.State.{state_of}
use Rattle.lease_wire.specs.Names as first
use Rattle.lease_wire_v2.specs.DurableData.{durable_of, grant_of, reconnect_of}
use Rattle.lease_wire_v2.specs.Names as names
use Rattle.lease_wire_v2.specs.Names.{SecondView, LeaseView, DurableView, ReconnectView, CreateView}
use Rattle.lease_wire_v2.specs.declared.fault.CreateFault.{CreateFault}
use Rattle.lease_wire_v2.specs.declared.create.SecondVersion.{SecondVersion}
use Rattle.lease_wire_v2.specs.declared.create.LeaseAsk.{LeaseAsk}
use Rattle.lease_wire_v2.specs.declared.create.LeaseAnswer.{LeaseAnswer}
use Rattle.lease_wire_v2.specs.declared.create.DurableAsk as asked
use Rattle.lease_wire_v2.specs.declared.create.DurableAnswer as granted
use Rattle.lease_wire_v2.specs.declared.create.Reconnect as again
use Rattle.lease_wire_v2.specs.declared.create.CreateAskV2.{CreateAskV2}
use Rattle.lease_wire_v2.specs.declared.create.CreateAnswerV2.{CreateAnswerV2}
use Rattle.lease_wire_v2.specs.declared.create.meaning.AnyDurable as any
use Rattle.lease_wire_v2.specs.declared.create.meaning.Meaning as code
use Rattle.lease_wire_v2.specs.declared.create.reading.Values.{Values}

abbrev pub second_of : SecondVersion → SecondView
second_of second = record { parent = option_map (λ key. key.0) second.parent; epoch = second.epoch }

-- a request reports no break in progress
abbrev pub asked_lease : LeaseAsk → LeaseView
asked_lease lease = record {
  key = lease.key.0;
  state = state_of lease.state;
  breaking = false;
  second = option_map second_of lease.second;
}

abbrev pub lease_view_of : LeaseAnswer → LeaseView
lease_view_of lease = record {
  key = lease.key.0;
  state = state_of lease.state;
  breaking = lease.breaking;
  second = option_map second_of lease.second;
}

abbrev pub asked_durable : asked.DurableAsk → DurableView
asked_durable asked.TheVariants.First = names.DurableView.First
asked_durable (asked.TheVariants.Second ask) = names.DurableView.Asked (durable_of ask)

abbrev pub granted_durable : granted.DurableAnswer → DurableView
granted_durable granted.TheVariants.First = names.DurableView.First
granted_durable (granted.TheVariants.Second grant) = names.DurableView.Granted (grant_of grant)

abbrev pub any_durable : any.AnyDurable → DurableView
any_durable any.TheVariants.First = names.DurableView.First
any_durable (any.TheVariants.Asked ask) = names.DurableView.Asked (durable_of ask)
any_durable (any.TheVariants.Granted grant) = names.DurableView.Granted (grant_of grant)

abbrev pub reconnect_view : again.Reconnect → ReconnectView
reconnect_view (again.TheVariants.First file_id) = names.ReconnectView.FirstId file_id.0
reconnect_view (again.TheVariants.Second other) = names.ReconnectView.SecondId (reconnect_of other)

abbrev pub meaning_view : code.Meaning → names.Meaning
meaning_view code.TheVariants.Unknown = names.Meaning.Unknown
meaning_view code.TheVariants.WrongLength = names.Meaning.WrongLength
meaning_view (code.TheVariants.Lease lease) = names.Meaning.Lease (lease_view_of lease)
meaning_view (code.TheVariants.Durable durable) = names.Meaning.Durable (any_durable durable)
meaning_view (code.TheVariants.Reconnect reconnect) = names.Meaning.Reconnect (reconnect_view reconnect)

abbrev pub values_of : Values → CreateView
values_of values = record {
  lease = option_map lease_view_of values.lease;
  durable = option_map any_durable values.durable;
  reconnect = option_map reconnect_view values.reconnect;
}

abbrev pub values_result : Result Values CreateFault → Result CreateView CreateFault
values_result (Ok values) = Ok (values_of values)
values_result (Err fault) = Err fault

abbrev pub ask_of : CreateAskV2 → CreateView
ask_of ask = record {
  lease = option_map asked_lease ask.lease;
  durable = option_map asked_durable ask.durable;
  reconnect = option_map reconnect_view ask.reconnect;
}

-- a response has no reconnect
abbrev pub answer_of : CreateAnswerV2 → CreateView
answer_of answer = record {
  lease = option_map lease_view_of answer.lease;
  durable = option_map granted_durable answer.durable;
  reconnect = None;
}

abbrev pub ask_result : Result CreateAskV2 CreateFault → Result CreateView CreateFault
ask_result (Ok ask) = Ok (ask_of ask)
ask_result (Err fault) = Err fault

abbrev pub answer_result : Result CreateAnswerV2 CreateFault → Result CreateView CreateFault
answer_result (Ok answer) = Ok (answer_of answer)
answer_result (Err fault) = Err fault

-- ---- what a lease manager takes

-- the FileId's Persistent part
abbrev pub file_id_in : ReconnectView → ℕ
file_id_in (names.ReconnectView.FirstId file_id) = file_id
file_id_in (names.ReconnectView.SecondId other) = other.persistent_id

-- the same without what version 2 adds
abbrev pub plain_lease : LeaseView → first.LeaseView
plain_lease lease = record { key = lease.key; state = lease.state; breaking = lease.breaking }

abbrev pub plain_of : CreateView → first.CreateView
plain_of v = record {
  lease = option_map plain_lease v.lease;
  durable = is_some v.durable;
  reconnect = option_map file_id_in v.reconnect;
}
