-- The data of an RqLs context of version 2 (MS-SMB2 2.2.13.2.10, 2.2.14.2.11), as they are read and as they are written:
-- LeaseKey at 0, LeaseState at 16, Flags at 20, LeaseDuration at 24, ParentLeaseKey at 32, Epoch at 48, Reserved at 50.
use Rattle.std.specs.Prelude.{◌≡◌, ◌↔◌, ℕ, ◌+◌, ◌<◌, ◌≤◌, ◌^◌, ◌++◌, Bool, false, if◌then◌else◌, List, length, Option, Some, None}
use Rattle.std.specs.Prelude.{is_some, IfSome}
use Rattle.std.specs.Option.{option_map}
use Rattle.std.specs.Int.RustNames.{bit_and}
use Rattle.byteorder.specs.Endian.{little_bytes}
use Rattle.lease_state.specs.State.{State, state_of, state_of_bits, bits_of_state}
use Rattle.lease_wire.specs.Field.{number_at, bytes_at}
use Rattle.lease_wire.specs.declared.create.Direction.{Direction}
use Rattle.lease_wire.specs.declared.create.Direction.TheVariants.{Request, Reply}
use Rattle.capture_wire.specs.Contexts.{IsLeaseV2, is_break_in_progress, parent_key_of}
use Rattle.capture_wire.specs.declared.lease.LeaseV2.{LeaseV2}
use Rattle.lease_wire_v2.specs.Fields.{AreBytes, sixteen_zeros}

-- what the data say of a lease
pub record LeaseData : Type 0 where
  pub key : List ℕ
  pub state : State
  pub breaking : Bool
  pub parent : Option (List ℕ)
  pub epoch : ℕ

abbrev pub lease_of : LeaseV2 → LeaseData
lease_of lease = record {
  key = lease.key.0;
  state = state_of lease.state;
  breaking = lease.breaking;
  parent = option_map (λ key. key.0) lease.parent;
  epoch = lease.epoch;
}

-- what 52 bytes say
abbrev pub lease_in : Direction → List ℕ → LeaseData
lease_in direction bytes = record {
  key = bytes_at 0 16 bytes;
  state = state_of_bits (number_at 16 4 bytes);
  breaking = is_break_in_progress direction bytes;
  parent = parent_key_of bytes;
  epoch = number_at 48 2 bytes;
}

-- SMB2_LEASE_FLAG_BREAK_IN_PROGRESS is 2, and only a response has it
abbrev pub break_flag : Direction → LeaseData → ℕ
break_flag Request lease = 0
break_flag Reply lease = if lease.breaking then 2 else 0

-- SMB2_LEASE_FLAG_PARENT_LEASE_KEY_SET is 4
abbrev pub parent_flag : LeaseData → ℕ
parent_flag lease = if is_some lease.parent then 4 else 0

-- ParentLeaseKey, 0 where none is set
abbrev pub parent_bytes : Option (List ℕ) → List ℕ
parent_bytes None = sixteen_zeros
parent_bytes (Some key) = key

-- the data as they are written: each field in its order, LeaseDuration and Reserved 0
abbrev pub lease_bytes : Direction → LeaseData → List ℕ
lease_bytes direction lease =
    lease.key ++ (little_bytes 4 (bits_of_state lease.state)
    ++ (little_bytes 4 (break_flag direction lease + parent_flag lease) ++ (little_bytes 8 0
    ++ (parent_bytes lease.parent ++ (little_bytes 2 lease.epoch ++ little_bytes 2 0)))))

-- a request reports no break in progress
abbrev pub IsCalm : Direction → Bool → Type 0
IsCalm Request breaking = breaking ≡ false
IsCalm Reply breaking = Unit {0}

-- what the fields can bear: keys of 16 bytes, an epoch of two
pub record IsBorne (direction : Direction) (lease : LeaseData) : Type 0 where
  pub key : length lease.key ≡ 16
  pub parent : IfSome lease.parent (λ key. length key ≡ 16)
  pub epoch : lease.epoch < 2 ^ 16
  pub calm : IsCalm direction lease.breaking

-- the flags that have a name there
abbrev pub named_flags : Direction → ℕ
named_flags Request = 4
named_flags Reply = 6

-- the bytes are as data are written: what is free in them is 0
pub record IsCanonicalLease (direction : Direction) (bytes : List ℕ) : Type 0 where
  pub size : length bytes ≡ 52
  pub octets : AreBytes bytes
  pub lease_state : number_at 16 4 bytes ≤ 7
  pub flags : bit_and (number_at 20 4 bytes) (named_flags direction) ≡ number_at 20 4 bytes
  pub lease_duration : number_at 24 8 bytes ≡ 0
  pub parent_lease_key : parent_key_of bytes ≡ None → bytes_at 32 16 bytes ≡ sixteen_zeros
  pub reserved : number_at 50 2 bytes ≡ 0

-- the reader's relation is the function, on 52 bytes
abbrev pub LeaseIsRead : Type 0
LeaseIsRead = (direction : Direction) (bytes : List ℕ) (lease : LeaseV2)
    → IsLeaseV2 direction bytes lease ↔ ((length bytes ≡ 52) × (lease_of lease ≡ lease_in direction bytes))

-- what was written is read back, and it is canonical
abbrev pub LeaseReadsBack : Type 0
LeaseReadsBack = (direction : Direction) (lease : LeaseData) → IsBorne direction lease
    → (length (lease_bytes direction lease) ≡ 52) × (lease_in direction (lease_bytes direction lease) ≡ lease)

-- what was read of canonical data is written back
abbrev pub LeaseWritesBack : Type 0
LeaseWritesBack = (direction : Direction) (bytes : List ℕ) → IsCanonicalLease direction bytes
    → lease_bytes direction (lease_in direction bytes) ≡ bytes
