-- Create contexts of either version as they are written (own, where MS-SMB2 2.2.13.2 leaves it open): the lease context, then the
-- durable one, then the reconnect. Each begins at a multiple of 8 bytes, so the data of a lease of version 2 are padded where
-- another context follows.
use Rattle.std.specs.Prelude.{◌≡◌, ℕ, ◌+◌, ◌<◌, ◌^◌, ◌%◌, ◌==◌, ◌++◌, Bool, true, false, ◌||◌, if◌then◌else◌, List, [], length}
use Rattle.std.specs.Prelude.{Option, Some, None, is_some, IfSome}
use Rattle.byteorder.specs.Endian.{little_bytes}
use Rattle.lease_wire.specs.Names as first
use Rattle.lease_wire.specs.Canonical as first_text
use Rattle.lease_wire.specs.declared.create.Direction.{Direction}
use Rattle.lease_wire.specs.declared.create.Direction.TheVariants.{Request, Reply}
use Rattle.lease_wire_v2.specs.LeaseData.{LeaseData, lease_bytes, IsCalm}
use Rattle.lease_wire_v2.specs.DurableData.{durable_bytes, grant_bytes, reconnect_bytes, IsBorneReconnect}
use Rattle.lease_wire_v2.specs.Names.{SecondView, LeaseView, DurableView, ReconnectView, CreateView, HoldsValue, is_directed}
use Rattle.lease_wire_v2.specs.Names.{durable_name, reconnect_name, go_together}
use Rattle.lease_wire_v2.specs.Names.DurableView.{First, Asked, Granted}
use Rattle.lease_wire_v2.specs.Names.ReconnectView.{FirstId, SecondId}
use Rattle.lease_wire_v2.specs.Gathering.{value_of}
use Rattle.std.specs.Prelude.{Ok}

-- zeros up to the next multiple of 8, after so many bytes: none or four, since the data of each context are a multiple of 4 long
abbrev pub padding : ℕ → List ℕ
padding count = if count % 8 == 0 then [] else little_bytes 4 0

-- a context: where another one follows it is padded, and Next is its length with the padding, else 0
abbrev pub context_bytes : Bool → List ℕ → List ℕ → List ℕ
context_bytes true name body =
    first_text.header_bytes (24 + length body + length (padding (length body))) name (length body)
    ++ (body ++ padding (length body))
context_bytes false name body = first_text.header_bytes 0 name (length body) ++ body

-- the data of a lease context, in the version that it has
abbrev pub lease_data : LeaseView → SecondView → LeaseData
lease_data lease second = record {
  key = lease.key;
  state = lease.state;
  breaking = lease.breaking;
  parent = second.parent;
  epoch = second.epoch;
}

abbrev pub lease_body_of : Direction → LeaseView → Option SecondView → List ℕ
lease_body_of direction lease None =
    first_text.lease_body (record { key = lease.key; state = lease.state; breaking = lease.breaking })
lease_body_of direction lease (Some second) = lease_bytes direction (lease_data lease second)

abbrev pub lease_body : Direction → LeaseView → List ℕ
lease_body direction lease = lease_body_of direction lease lease.second

abbrev pub durable_name_of : DurableView → List ℕ
durable_name_of First = first.durable_name
durable_name_of durable = durable_name

abbrev pub durable_body : Direction → DurableView → List ℕ
durable_body direction First = first_text.durable_body direction
durable_body direction (Asked durable) = durable_bytes durable
durable_body direction (Granted grant) = grant_bytes grant

abbrev pub reconnect_name_of : ReconnectView → List ℕ
reconnect_name_of (FirstId file_id) = first.reconnect_name
reconnect_name_of (SecondId reconnect) = reconnect_name

abbrev pub reconnect_body : ReconnectView → List ℕ
reconnect_body (FirstId file_id) = first_text.reconnect_body file_id
reconnect_body (SecondId reconnect) = reconnect_bytes reconnect

abbrev pub lease_text : Direction → Bool → Option LeaseView → List ℕ
lease_text direction followed None = []
lease_text direction followed (Some lease) = context_bytes followed first.lease_name (lease_body direction lease)

abbrev pub durable_text : Direction → Bool → Option DurableView → List ℕ
durable_text direction followed None = []
durable_text direction followed (Some durable) =
    context_bytes followed (durable_name_of durable) (durable_body direction durable)

abbrev pub reconnect_text : Option ReconnectView → List ℕ
reconnect_text None = []
reconnect_text (Some reconnect) = context_bytes false (reconnect_name_of reconnect) (reconnect_body reconnect)

-- the canonical text of what is asked for or granted
unfoldable pub canonical_text : Direction → CreateView → List ℕ
canonical_text direction v =
    lease_text direction (is_some v.durable || is_some v.reconnect) v.lease
    ++ (durable_text direction (is_some v.reconnect) v.durable ++ reconnect_text v.reconnect)

-- the fields of what version 2 adds can bear it
pub record IsBorneSecond (second : SecondView) : Type 0 where
  pub parent : IfSome second.parent (λ key. length key ≡ 16)
  pub epoch : second.epoch < 2 ^ 16

pub record IsBorneLease (direction : Direction) (lease : LeaseView) : Type 0 where
  pub key : length lease.key ≡ 16
  pub calm : IsCalm direction lease.breaking
  pub second : IfSome lease.second IsBorneSecond

abbrev pub IsBorneDurable : DurableView → Type 0
IsBorneDurable First = Unit {0}
IsBorneDurable (Asked durable) = (durable.timeout < 2 ^ 32) × (length durable.create_guid ≡ 16)
IsBorneDurable (Granted grant) = grant.timeout < 2 ^ 32

abbrev pub IsBorneId : ReconnectView → Type 0
IsBorneId (FirstId file_id) = file_id < 2 ^ 64
IsBorneId (SecondId reconnect) = IsBorneReconnect reconnect

-- a response has no reconnect
abbrev pub HasReconnect : Direction → Option ReconnectView → Type 0
HasReconnect Request reconnect = Unit {0}
HasReconnect Reply reconnect = reconnect ≡ None

-- A value that can be written: its fields bear it, it is one of a request or of a response, and durable contexts go together.
pub record IsWritable (direction : Direction) (v : CreateView) : Type 0 where
  pub lease : IfSome v.lease (IsBorneLease direction)
  pub durable : IfSome v.durable IsBorneDurable
  pub directed : IfSome v.durable (λ durable. is_directed direction durable ≡ true)
  pub reconnect : IfSome v.reconnect IsBorneId
  pub reconnects : HasReconnect direction v.reconnect
  pub together : go_together v.durable v.reconnect ≡ true

-- what is written holds the value
abbrev pub WrittenHoldsValue : Type 0
WrittenHoldsValue = (direction : Direction) (v : CreateView) → IsWritable direction v
    → HoldsValue direction (canonical_text direction v) v

-- and so it is read back
abbrev pub WrittenReadsBack : Type 0
WrittenReadsBack = (direction : Direction) (v : CreateView) → IsWritable direction v
    → value_of direction (canonical_text direction v) ≡ Ok v
