-- What of a value is of version 1. Of the same text `lease_wire` reads that part alone, and it writes that part alike.
use Rattle.std.specs.Prelude.{◌≡◌, ℕ, Bool, true, List, Option, Some, None, Ok, is_some, IfSome, length, if◌then◌else◌}
use Rattle.std.specs.Option.{option_and_then, option_map}
use Rattle.lease_wire.specs.Names as first
use Rattle.lease_wire.specs.Gathering as first_reading
use Rattle.lease_wire.specs.Canonical as first_text
use Rattle.lease_wire.specs.declared.create.Direction.{Direction}
use Rattle.lease_wire_v2.specs.Names.{LeaseView, SecondView, DurableView, ReconnectView, CreateView, first_lease}
use Rattle.lease_wire_v2.specs.Names.DurableView.{First}
use Rattle.lease_wire_v2.specs.Names.ReconnectView.{FirstId, SecondId}
use Rattle.lease_wire_v2.specs.Gathering.{value_of}
use Rattle.lease_wire_v2.specs.Canonical.{canonical_text}

abbrev pub lease_without_second : LeaseView → Option SecondView → Option first.LeaseView
lease_without_second lease None = Some (record { key = lease.key; state = lease.state; breaking = lease.breaking })
lease_without_second lease (Some second) = None

abbrev pub first_lease_in : LeaseView → Option first.LeaseView
first_lease_in lease = lease_without_second lease lease.second

abbrev pub first_durable_in : DurableView → Option Bool
first_durable_in First = Some true
first_durable_in _ = None

abbrev pub first_id_in : ReconnectView → Option ℕ
first_id_in (FirstId file_id) = Some file_id
first_id_in (SecondId reconnect) = None

abbrev pub first_part : CreateView → first.CreateView
first_part v = record {
  lease = option_and_then first_lease_in v.lease;
  durable = is_some (option_and_then first_durable_in v.durable);
  reconnect = option_and_then first_id_in v.reconnect;
}

abbrev pub FirstVersionIsRead : Type 0
FirstVersionIsRead = (direction : Direction) (text : List ℕ) (v : CreateView) → value_of direction text ≡ Ok v
    → first_reading.value_of direction text ≡ Ok (first_part v)

-- what is of version 1, as a value of either
abbrev pub of_first : first.CreateView → CreateView
of_first v = record {
  lease = option_map first_lease v.lease;
  durable = if v.durable then Some First else None;
  reconnect = option_map FirstId v.reconnect;
}

-- it is written as `lease_wire` writes it
abbrev pub FirstVersionIsWritten : Type 0
FirstVersionIsWritten = (direction : Direction) (v : first.CreateView) → IfSome v.lease (λ lease. length lease.key ≡ 16)
    → canonical_text direction (of_first v) ≡ first_text.canonical_text direction v
