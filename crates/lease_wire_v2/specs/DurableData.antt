-- The data of DH2Q and DH2C contexts (MS-SMB2 2.2.13.2.11, 2.2.14.2.12, 2.2.13.2.12), as they are written.
use Rattle.std.specs.Prelude.{◌≡◌, ℕ, ◌<◌, ◌^◌, ◌++◌, Bool, if◌then◌else◌, List, length}
use Rattle.std.specs.Int.RustNames.{bit_and}
use Rattle.byteorder.specs.Endian.{little_bytes}
use Rattle.lease_wire.specs.Field.{number_at, bytes_at}
use Rattle.capture_wire.specs.Fields.{has_flag}
use Rattle.capture_wire.specs.declared.durable.DurableRequestV2.{DurableRequestV2}
use Rattle.capture_wire.specs.declared.durable.DurableReconnectV2.{DurableReconnectV2}
use Rattle.capture_wire.specs.declared.durable.DurableResponseV2.{DurableResponseV2}
use Rattle.lease_wire_v2.specs.Fields.{AreBytes}

-- SMB2_DHANDLE_FLAG_PERSISTENT is 2
abbrev pub persistent_flag : Bool → ℕ
persistent_flag persistent = if persistent then 2 else 0

-- ---- DH2Q of a request: Timeout at 0, Flags at 4, Reserved at 8, CreateGuid at 16

pub record DurableData : Type 0 where
  pub timeout : ℕ
  pub persistent : Bool
  pub create_guid : List ℕ

abbrev pub durable_of : DurableRequestV2 → DurableData
durable_of durable = record {
  timeout = durable.timeout;
  persistent = durable.persistent;
  create_guid = durable.create_guid.0;
}

-- what 32 bytes say
abbrev pub durable_in : List ℕ → DurableData
durable_in bytes = record {
  timeout = number_at 0 4 bytes;
  persistent = has_flag 2 (number_at 4 4 bytes);
  create_guid = bytes_at 16 16 bytes;
}

abbrev pub durable_bytes : DurableData → List ℕ
durable_bytes durable =
    little_bytes 4 durable.timeout ++ (little_bytes 4 (persistent_flag durable.persistent)
    ++ (little_bytes 8 0 ++ durable.create_guid))

-- the bytes are as such data are written: what is free in them is 0
pub record IsCanonicalDurable (bytes : List ℕ) : Type 0 where
  pub size : length bytes ≡ 32
  pub octets : AreBytes bytes
  pub flags : bit_and (number_at 4 4 bytes) 2 ≡ number_at 4 4 bytes
  pub reserved : number_at 8 8 bytes ≡ 0

abbrev pub DurableReadsBack : Type 0
DurableReadsBack = (durable : DurableData) → durable.timeout < 2 ^ 32 → length durable.create_guid ≡ 16
    → (length (durable_bytes durable) ≡ 32) × (durable_in (durable_bytes durable) ≡ durable)

abbrev pub DurableWritesBack : Type 0
DurableWritesBack = (bytes : List ℕ) → IsCanonicalDurable bytes → durable_bytes (durable_in bytes) ≡ bytes

-- ---- DH2Q of a response: Timeout at 0, Flags at 4

pub record GrantData : Type 0 where
  pub timeout : ℕ
  pub persistent : Bool

abbrev pub grant_of : DurableResponseV2 → GrantData
grant_of grant = record { timeout = grant.timeout; persistent = grant.persistent }

-- what 8 bytes say
abbrev pub grant_in : List ℕ → GrantData
grant_in bytes = record { timeout = number_at 0 4 bytes; persistent = has_flag 2 (number_at 4 4 bytes) }

abbrev pub grant_bytes : GrantData → List ℕ
grant_bytes grant = little_bytes 4 grant.timeout ++ little_bytes 4 (persistent_flag grant.persistent)

pub record IsCanonicalGrant (bytes : List ℕ) : Type 0 where
  pub size : length bytes ≡ 8
  pub octets : AreBytes bytes
  pub flags : bit_and (number_at 4 4 bytes) 2 ≡ number_at 4 4 bytes

abbrev pub GrantReadsBack : Type 0
GrantReadsBack = (grant : GrantData) → grant.timeout < 2 ^ 32
    → (length (grant_bytes grant) ≡ 8) × (grant_in (grant_bytes grant) ≡ grant)

abbrev pub GrantWritesBack : Type 0
GrantWritesBack = (bytes : List ℕ) → IsCanonicalGrant bytes → grant_bytes (grant_in bytes) ≡ bytes

-- ---- DH2C: FileId.Persistent at 0, FileId.Volatile at 8, CreateGuid at 16, Flags at 32

pub record ReconnectData : Type 0 where
  pub persistent_id : ℕ
  pub volatile_id : ℕ
  pub create_guid : List ℕ
  pub persistent : Bool

abbrev pub reconnect_of : DurableReconnectV2 → ReconnectData
reconnect_of reconnect = record {
  persistent_id = reconnect.file_id.persistent;
  volatile_id = reconnect.file_id.volatile;
  create_guid = reconnect.create_guid.0;
  persistent = reconnect.persistent;
}

-- what 36 bytes say
abbrev pub reconnect_in : List ℕ → ReconnectData
reconnect_in bytes = record {
  persistent_id = number_at 0 8 bytes;
  volatile_id = number_at 8 8 bytes;
  create_guid = bytes_at 16 16 bytes;
  persistent = has_flag 2 (number_at 32 4 bytes);
}

abbrev pub reconnect_bytes : ReconnectData → List ℕ
reconnect_bytes reconnect =
    little_bytes 8 reconnect.persistent_id ++ (little_bytes 8 reconnect.volatile_id
    ++ (reconnect.create_guid ++ little_bytes 4 (persistent_flag reconnect.persistent)))

pub record IsCanonicalReconnect (bytes : List ℕ) : Type 0 where
  pub size : length bytes ≡ 36
  pub octets : AreBytes bytes
  pub flags : bit_and (number_at 32 4 bytes) 2 ≡ number_at 32 4 bytes

-- the fields can bear it: two numbers of eight bytes, and a GUID of sixteen
pub record IsBorneReconnect (reconnect : ReconnectData) : Type 0 where
  pub persistent_id : reconnect.persistent_id < 2 ^ 64
  pub volatile_id : reconnect.volatile_id < 2 ^ 64
  pub create_guid : length reconnect.create_guid ≡ 16

abbrev pub ReconnectReadsBack : Type 0
ReconnectReadsBack = (reconnect : ReconnectData) → IsBorneReconnect reconnect
    → (length (reconnect_bytes reconnect) ≡ 36) × (reconnect_in (reconnect_bytes reconnect) ≡ reconnect)

abbrev pub ReconnectWritesBack : Type 0
ReconnectWritesBack = (bytes : List ℕ) → IsCanonicalReconnect bytes → reconnect_bytes (reconnect_in bytes) ≡ bytes
