-- The create contexts of either version whose names are known (MS-SMB2 2.2.13.2, 2.2.14.2), and what a chain of contexts asks for
-- or grants. Those of version 1 mean what `lease_wire` says.
use Rattle.std.specs.Prelude.{◌≡◌, ℕ, ◌==◌, Bool, true, false, if◌then◌else◌, List, [], length, codes, Option, Some, None}
use Rattle.std.specs.Prelude.{option_to_list}
use Rattle.std.specs.List.{filter_map}
use Rattle.std.specs.Str.{bytes_eq}
use Rattle.lease_state.specs.State.{State}
use Rattle.lease_wire.specs.Chain.{ContextView, HoldsContexts}
use Rattle.lease_wire.specs.Names as first
use Rattle.lease_wire.specs.declared.create.Direction.{Direction}
use Rattle.lease_wire.specs.declared.create.Direction.TheVariants.{Request, Reply}
use Rattle.lease_wire_v2.specs.LeaseData.{LeaseData, lease_in}
use Rattle.lease_wire_v2.specs.DurableData.{DurableData, GrantData, ReconnectData, durable_in, grant_in, reconnect_in}

-- what version 2 adds to a lease context: the key of the parent folder's lease, and the epoch
pub record SecondView : Type 0 where
  pub parent : Option (List ℕ)
  pub epoch : ℕ

-- a lease context of either version; that of version 1 has no second part
pub record LeaseView : Type 0 where
  pub key : List ℕ
  pub state : State
  pub breaking : Bool
  pub second : Option SecondView

-- a durable context: "DHnQ", or "DH2Q" of a request or of a response
pub data DurableView : Type 0 where
  First : DurableView
  Asked : DurableData → DurableView
  Granted : GrantData → DurableView

-- a reconnect: "DHnC" with the FileId's Persistent part, or "DH2C"
pub data ReconnectView : Type 0 where
  FirstId : ℕ → ReconnectView
  SecondId : ReconnectData → ReconnectView

-- what the contexts of a request ask for, or those of a response grant
pub record CreateView : Type 0 where
  pub lease : Option LeaseView
  pub durable : Option DurableView
  pub reconnect : Option ReconnectView

-- what a context means by its name and its length
pub data Meaning : Type 0 where
  -- it is passed over
  Unknown : Meaning
  -- its name is known, and its data have another length than their structure
  WrongLength : Meaning
  Lease : LeaseView → Meaning
  Durable : DurableView → Meaning
  Reconnect : ReconnectView → Meaning

-- a lease context of version 1, and one of version 2
abbrev pub first_lease : first.LeaseView → LeaseView
first_lease lease = record { key = lease.key; state = lease.state; breaking = lease.breaking; second = None }

abbrev pub second_lease : LeaseData → LeaseView
second_lease lease = record {
  key = lease.key;
  state = lease.state;
  breaking = lease.breaking;
  second = Some (record { parent = lease.parent; epoch = lease.epoch });
}

-- what a context of version 1 means
abbrev pub first_meaning : first.Meaning → Meaning
first_meaning first.Meaning.Unknown = Unknown
first_meaning first.Meaning.WrongLength = WrongLength
first_meaning (first.Meaning.Lease lease) = Lease (first_lease lease)
first_meaning first.Meaning.Durable = Durable First
first_meaning (first.Meaning.Reconnect file_id) = Reconnect (FirstId file_id)

-- what one context of version 1 means, by the values that it has alone
abbrev pub meaning_of_parts : Option first.LeaseView → Option ℕ → Bool → Meaning
meaning_of_parts (Some lease) file_id durable = Lease (first_lease lease)
meaning_of_parts None (Some file_id) durable = Reconnect (FirstId file_id)
meaning_of_parts None None true = Durable First
meaning_of_parts None None false = Unknown

abbrev pub meaning_in : first.CreateView → Meaning
meaning_in v = meaning_of_parts v.lease v.reconnect v.durable

abbrev pub durable_name : List ℕ
durable_name = codes "DH2Q"

abbrev pub reconnect_name : List ℕ
reconnect_name = codes "DH2C"

-- "DH2Q": 32 bytes in a request (2.2.13.2.11), 8 in a response (2.2.14.2.12)
abbrev pub durable_meaning : Direction → List ℕ → Meaning
durable_meaning Request body = if length body == 32 then Durable (Asked (durable_in body)) else WrongLength
durable_meaning Reply body = if length body == 8 then Durable (Granted (grant_in body)) else WrongLength

-- "DH2C": 36 bytes (2.2.13.2.12). Not known in a response.
abbrev pub reconnect_meaning : Direction → List ℕ → Meaning
reconnect_meaning Request body = if length body == 36 then Reconnect (SecondId (reconnect_in body)) else WrongLength
reconnect_meaning Reply body = Unknown

-- "RqLs": 52 bytes are of version 2 (2.2.13.2.10, 2.2.14.2.11), 32 of version 1
abbrev pub lease_meaning : Direction → ContextView → Meaning
lease_meaning direction context =
    if length context.body == 52 then Lease (second_lease (lease_in direction context.body))
    else if length context.body == 32 then first_meaning (first.meaning_of direction context)
    else WrongLength

unfoldable pub meaning_of : Direction → ContextView → Meaning
meaning_of direction context =
    if bytes_eq context.name first.lease_name then lease_meaning direction context
    else if bytes_eq context.name durable_name then durable_meaning direction context.body
    else if bytes_eq context.name reconnect_name then reconnect_meaning direction context.body
    else first_meaning (first.meaning_of direction context)

-- a request asks, and a response grants
abbrev pub is_directed : Direction → DurableView → Bool
is_directed direction First = true
is_directed Request (Asked durable) = true
is_directed Reply (Asked durable) = false
is_directed Request (Granted grant) = false
is_directed Reply (Granted grant) = true

-- the parts of a meaning
abbrev pub lease_part : Meaning → Option LeaseView
lease_part (Lease lease) = Some lease
lease_part _ = None

abbrev pub durable_part : Meaning → Option DurableView
durable_part (Durable durable) = Some durable
durable_part _ = None

abbrev pub reconnect_part : Meaning → Option ReconnectView
reconnect_part (Reconnect reconnect) = Some reconnect
reconnect_part _ = None

abbrev pub wrong_part : Meaning → Option Bool
wrong_part WrongLength = Some true
wrong_part _ = None

-- all that contexts say of one kind, in their order
abbrev pub values_of_kind : {X : Type 0} → Direction → (Meaning → Option X) → List ContextView → List X
values_of_kind direction part contexts = filter_map (λ context. part (meaning_of direction context)) contexts

-- A durable open that is asked for and one that is to be connected again exclude each other (3.3.5.9.7, 3.3.5.9.10, 3.3.5.9.12),
-- but in version 1, where the first is passed over (3.3.5.9.7).
abbrev pub goes_with : DurableView → ReconnectView → Bool
goes_with First (FirstId file_id) = true
goes_with _ _ = false

abbrev pub go_together : Option DurableView → Option ReconnectView → Bool
go_together (Some durable) (Some reconnect) = goes_with durable reconnect
go_together _ _ = true

-- The contexts break no rule of names, and their value is this: none that is known has a wrong length, each kind stands once or
-- not at all, in one of its versions, and durable contexts go together.
pub record HaveValue (direction : Direction) (contexts : List ContextView) (v : CreateView) : Type 0 where
  pub lengths : values_of_kind direction wrong_part contexts ≡ []
  pub lease : values_of_kind direction lease_part contexts ≡ option_to_list v.lease
  pub durable : values_of_kind direction durable_part contexts ≡ option_to_list v.durable
  pub reconnect : values_of_kind direction reconnect_part contexts ≡ option_to_list v.reconnect
  pub together : go_together v.durable v.reconnect ≡ true

-- the text is laid out as contexts of this value
abbrev pub HoldsValue : Direction → List ℕ → CreateView → Type 0
HoldsValue direction text v = (contexts : List ContextView) × HoldsContexts text contexts × HaveValue direction contexts v
