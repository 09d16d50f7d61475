-- What the create contexts of a CREATE request or response say, in either version of them: of a lease, of the file and of the
-- application, and whether an open is durable or connected again.
use Rattle.std.specs.Prelude.{◌≡◌, ℕ, ◌==◌, Bool, ◌&&◌, ◌||◌, if◌then◌else◌, ⊤, List, [], ◌∷◌, length, codes}
use Rattle.std.specs.Prelude.{Option, Some, None, Ok, Err, bytes_eq}
use Rattle.std.specs.Option.{is_some, option_map}
use Rattle.lease_state.specs.State.{state_of, state_of_bits}
use Rattle.lease_wire.specs.Field.{number_at, bytes_at}
use Rattle.lease_wire.specs.Chain.{ContextView}
use Rattle.lease_wire.specs.Reading.{Item}
use Rattle.lease_wire.specs.Message.{area_fault, items_in}
use Rattle.lease_wire.specs.declared.create.Direction.{Direction}
use Rattle.lease_wire.specs.declared.fault.WireFault.{WireFault}
use Rattle.capture_wire.specs.Contexts.{is_break_in_progress}
use Rattle.capture_wire.specs.declared.contexts.Kind.{Kind}
use Rattle.capture_wire.specs.declared.contexts.Kind.TheVariants.{Lease, Durable, Reconnect, Snapshot, OnDisk, AppInstance}
use Rattle.capture_wire.specs.declared.contexts.FileOnDisk.{FileOnDisk}
use Rattle.capture_wire.specs.declared.contexts.LeaseContext.{LeaseContext}
use Rattle.capture_wire.specs.declared.contexts.CreateContexts.{CreateContexts}

-- "RqLs": data of 32 bytes are of version 1 (2.2.13.2.8, 2.2.14.2.10), of 52 of version 2 (2.2.13.2.10, 2.2.14.2.11)
abbrev pub names_lease : List ℕ → List ℕ → Bool
names_lease name body = bytes_eq name (codes "RqLs") && (length body == 32 || length body == 52)

-- "DHnQ" (2.2.13.2.3, 2.2.14.2.3) or "DH2Q" (2.2.13.2.11, 2.2.14.2.12): a durable open is asked for, or granted
abbrev pub names_durable : List ℕ → Bool
names_durable name = bytes_eq name (codes "DHnQ") || bytes_eq name (codes "DH2Q")

-- "DHnC" (2.2.13.2.4) or "DH2C" (2.2.13.2.12): a durable open is to be connected again
abbrev pub names_reconnect : List ℕ → Bool
names_reconnect name = bytes_eq name (codes "DHnC") || bytes_eq name (codes "DH2C")

-- "TWrp" (2.2.13.2.7): the file is opened as it was at an earlier time
abbrev pub names_snapshot : List ℕ → Bool
names_snapshot name = bytes_eq name (codes "TWrp")

-- "QFid" with data, as a response has it (2.2.14.2.9): the file on the server's disk
abbrev pub names_on_disk : List ℕ → List ℕ → Bool
names_on_disk name body = bytes_eq name (codes "QFid") && length body == 32

-- SMB2_CREATE_APP_INSTANCE_ID (2.2.13.2.13), whose name is a GUID
abbrev pub app_instance_name : List ℕ
app_instance_name = 0x45 ∷ 0xbc ∷ 0xa6 ∷ 0x6a ∷ 0xef ∷ 0xa7 ∷ 0xf7 ∷ 0x4a
    ∷ 0x90 ∷ 0x08 ∷ 0xfa ∷ 0x46 ∷ 0x2e ∷ 0x14 ∷ 0x4d ∷ 0x74 ∷ []

abbrev pub names_app_instance : List ℕ → List ℕ → Bool
names_app_instance name body = bytes_eq name app_instance_name && length body == 20

abbrev pub is_of_kind : Kind → ContextView → Bool
is_of_kind Lease context = names_lease context.name context.body
is_of_kind Durable context = names_durable context.name
is_of_kind Reconnect context = names_reconnect context.name
is_of_kind Snapshot context = names_snapshot context.name
is_of_kind OnDisk context = names_on_disk context.name context.body
is_of_kind AppInstance context = names_app_instance context.name context.body

-- the first context of a kind, of those before a fault
abbrev pub first_of_kind : Kind → List Item → Option ContextView
first_of_kind kind [] = None
first_of_kind kind (Err fault ∷ items) = None
first_of_kind kind (Ok context ∷ items) = if is_of_kind kind context then Some context else first_of_kind kind items

-- the fault that items end with
abbrev pub fault_in : List Item → Option WireFault
fault_in [] = None
fault_in (Err fault ∷ items) = Some fault
fault_in (Ok context ∷ items) = fault_in items

-- Epoch, which only version 2 has
abbrev pub epoch_of : List ℕ → Option ℕ
epoch_of body = if length body == 52 then Some (number_at 48 2 body) else None

-- The data say this of a lease: LeaseKey at 0, LeaseState at 16 and Flags at 20 in both versions.
pub record IsLeaseContext (direction : Direction) (body : List ℕ) (lease : LeaseContext) : Type 0 where
  pub key : lease.key.0 ≡ bytes_at 0 16 body
  pub state : state_of lease.state ≡ state_of_bits (number_at 16 4 body)
  pub breaking : lease.breaking ≡ is_break_in_progress direction body
  pub epoch : lease.epoch ≡ epoch_of body

-- the same of a context that there may be
abbrev pub IsLeaseOf : Direction → Option ContextView → Option LeaseContext → Type 0
IsLeaseOf direction None None = ⊤
IsLeaseOf direction None (Some lease) = ⊥
IsLeaseOf direction (Some context) None = ⊥
IsLeaseOf direction (Some context) (Some lease) = IsLeaseContext direction context.body lease

-- DiskFileId at 0 and VolumeId at 8
abbrev pub on_disk_of : ContextView → FileOnDisk
on_disk_of context = record { file = number_at 0 8 context.body; volume = number_at 8 8 context.body }

-- AppInstanceId at 4
abbrev pub app_instance_of : ContextView → List ℕ
app_instance_of context = bytes_at 4 16 context.body

-- The contexts say this. Of several of a kind the first one counts.
pub record AreContexts (direction : Direction) (items : List Item) (contexts : CreateContexts) : Type 0 where
  pub lease : IsLeaseOf direction (first_of_kind Lease items) contexts.lease
  pub durable : contexts.durable ≡ is_some (first_of_kind Durable items)
  pub reconnect : contexts.reconnect ≡ is_some (first_of_kind Reconnect items)
  pub snapshot : contexts.snapshot ≡ is_some (first_of_kind Snapshot items)
  pub on_disk : contexts.on_disk ≡ option_map on_disk_of (first_of_kind OnDisk items)
  pub app_instance : option_map (λ guid. guid.0) contexts.app_instance
      ≡ option_map app_instance_of (first_of_kind AppInstance items)

-- where the contexts aren't in the message, or the first fault in their layout
abbrev pub contexts_fault_after : Option WireFault → List Item → Option WireFault
contexts_fault_after (Some fault) items = Some fault
contexts_fault_after None items = fault_in items

abbrev pub contexts_fault : Direction → List ℕ → Option WireFault
contexts_fault direction message = contexts_fault_after (area_fault direction message) (items_in direction message)
