-- Create contexts of version 2: which data stand for which value. Flags that aren't named here, Reserved and LeaseDuration
-- are free: nothing is said of them.
use Rattle.std.specs.Prelude.{◌≡◌, ℕ, Bool, false, if◌then◌else◌, List, length, Option, Some, None}
use Rattle.std.specs.Option.{option_map}
use Rattle.lease_state.specs.State.{state_of, state_of_bits}
use Rattle.lease_wire.specs.Field.{number_at, bytes_at}
use Rattle.lease_wire.specs.declared.create.Direction.{Direction}
use Rattle.lease_wire.specs.declared.create.Direction.TheVariants.{Request, Reply}
use Rattle.capture_wire.specs.Fields.{file_id_at, has_flag}
use Rattle.capture_wire.specs.declared.lease.LeaseV2.{LeaseV2}
use Rattle.capture_wire.specs.declared.durable.DurableRequestV2.{DurableRequestV2}
use Rattle.capture_wire.specs.declared.durable.DurableReconnectV2.{DurableReconnectV2}
use Rattle.capture_wire.specs.declared.durable.DurableResponseV2.{DurableResponseV2}

-- ---- leases

-- SMB2_LEASE_FLAG_BREAK_IN_PROGRESS, which only a response reports
abbrev pub is_break_in_progress : Direction → List ℕ → Bool
is_break_in_progress Request bytes = false
is_break_in_progress Reply bytes = has_flag 2 (number_at 20 4 bytes)

-- ParentLeaseKey, where SMB2_LEASE_FLAG_PARENT_LEASE_KEY_SET says that it is set
abbrev pub parent_key_of : List ℕ → Option (List ℕ)
parent_key_of bytes = if has_flag 4 (number_at 20 4 bytes) then Some (bytes_at 32 16 bytes) else None

-- SMB2_CREATE_REQUEST_LEASE_V2 and SMB2_CREATE_RESPONSE_LEASE_V2 (2.2.13.2.10, 2.2.14.2.11): LeaseKey at 0, LeaseState at 16,
-- Flags at 20, LeaseDuration at 24, ParentLeaseKey at 32, Epoch at 48, Reserved at 50
pub record IsLeaseV2 (direction : Direction) (bytes : List ℕ) (lease : LeaseV2) : Type 0 where
  pub size : length bytes ≡ 52
  pub key : lease.key.0 ≡ bytes_at 0 16 bytes
  pub state : state_of lease.state ≡ state_of_bits (number_at 16 4 bytes)
  pub breaking : lease.breaking ≡ is_break_in_progress direction bytes
  pub parent : option_map (λ key. key.0) lease.parent ≡ parent_key_of bytes
  pub epoch : lease.epoch ≡ number_at 48 2 bytes

-- NewEpoch at 66 of a lease break notification (2.2.23.2) from its header on, whose StructureSize at 64 is 44, and which ends at
-- 108
abbrev pub new_epoch_of : List ℕ → ℕ
new_epoch_of message = number_at 66 2 message

-- ---- durable opens

-- SMB2_CREATE_DURABLE_HANDLE_REQUEST_V2 (2.2.13.2.11): Timeout at 0, Flags at 4, of which the bit of value 2 is
-- SMB2_DHANDLE_FLAG_PERSISTENT, Reserved at 8, CreateGuid at 16
pub record IsDurableRequestV2 (bytes : List ℕ) (durable : DurableRequestV2) : Type 0 where
  pub size : length bytes ≡ 32
  pub timeout : durable.timeout ≡ number_at 0 4 bytes
  pub persistent : durable.persistent ≡ has_flag 2 (number_at 4 4 bytes)
  pub create_guid : durable.create_guid.0 ≡ bytes_at 16 16 bytes

-- SMB2_CREATE_DURABLE_HANDLE_RESPONSE_V2 (2.2.14.2.12): Timeout at 0, Flags at 4, likewise
pub record IsDurableResponseV2 (bytes : List ℕ) (durable : DurableResponseV2) : Type 0 where
  pub size : length bytes ≡ 8
  pub timeout : durable.timeout ≡ number_at 0 4 bytes
  pub persistent : durable.persistent ≡ has_flag 2 (number_at 4 4 bytes)

-- SMB2_CREATE_DURABLE_HANDLE_RECONNECT_V2 (2.2.13.2.12): FileId at 0, CreateGuid at 16, Flags at 32, of which the bit of
-- value 2 is SMB2_DHANDLE_FLAG_PERSISTENT
pub record IsDurableReconnectV2 (bytes : List ℕ) (reconnect : DurableReconnectV2) : Type 0 where
  pub size : length bytes ≡ 36
  pub file_id : reconnect.file_id ≡ file_id_at 0 bytes
  pub create_guid : reconnect.create_guid.0 ≡ bytes_at 16 16 bytes
  pub persistent : reconnect.persistent ≡ has_flag 2 (number_at 32 4 bytes)
