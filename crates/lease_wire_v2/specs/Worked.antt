-- Worked examples: values, and their bytes as the tables of MS-SMB2 lay them out, written by hand.
use Rattle.std.specs.Prelude.{◌≡◌, ℕ, ◌++◌, true, false, List, ◌∷◌, [], Some, None, Ok, Err}
use Rattle.lease_state.specs.State.{State}
use Rattle.lease_wire.specs.declared.create.Direction.TheVariants.{Request, Reply}
use Rattle.lease_wire.specs.declared.fault.WireFault.TheVariants.{BadLength, Twice}
use Rattle.lease_wire_v2.specs.LeaseData.{LeaseData, lease_bytes}
use Rattle.lease_wire_v2.specs.DurableData.{DurableData, ReconnectData, durable_bytes, grant_bytes, reconnect_bytes}
use Rattle.lease_wire_v2.specs.EpochNotice.{epoch_notice_bytes}
use Rattle.lease_wire_v2.specs.Names.{CreateView, second_lease}
use Rattle.lease_wire_v2.specs.Names.DurableView.{First, Asked}
use Rattle.lease_wire_v2.specs.Names.ReconnectView.{FirstId}
use Rattle.lease_wire_v2.specs.Canonical.{canonical_text}
use Rattle.lease_wire_v2.specs.Gathering.{value_of}
use Rattle.lease_wire_v2.specs.declared.fault.CreateFault.TheVariants.{Wire, Excluded}

abbrev pub key : List ℕ
key = 1 ∷ 2 ∷ 3 ∷ 4 ∷ 5 ∷ 6 ∷ 7 ∷ 8 ∷ 9 ∷ 0xa ∷ 0xb ∷ 0xc ∷ 0xd ∷ 0xe ∷ 0xf ∷ 0x10 ∷ []

abbrev pub parent : List ℕ
parent = 0x11 ∷ 0x12 ∷ 0x13 ∷ 0x14 ∷ 0x15 ∷ 0x16 ∷ 0x17 ∷ 0x18 ∷ 0x19 ∷ 0x1a ∷ 0x1b ∷ 0x1c ∷ 0x1d ∷ 0x1e ∷ 0x1f ∷ 0x20 ∷ []

abbrev pub guid : List ℕ
guid = 0x21 ∷ 0x22 ∷ 0x23 ∷ 0x24 ∷ 0x25 ∷ 0x26 ∷ 0x27 ∷ 0x28 ∷ 0x29 ∷ 0x2a ∷ 0x2b ∷ 0x2c ∷ 0x2d ∷ 0x2e ∷ 0x2f ∷ 0x30 ∷ []

abbrev pub reads_writes_and_handles : State
reads_writes_and_handles = record { read = true; write = true; handle = true }

abbrev pub reads_and_handles : State
reads_and_handles = record { read = true; write = false; handle = true }

-- ---- data

-- a lease that is asked for, with its parent folder's lease and epoch 515
abbrev pub asked : LeaseData
asked = record {
  key = key;
  state = reads_writes_and_handles;
  breaking = false;
  parent = Some parent;
  epoch = 515;
}

abbrev pub asked_bytes : List ℕ
asked_bytes = 1 ∷ 2 ∷ 3 ∷ 4 ∷ 5 ∷ 6 ∷ 7 ∷ 8 ∷ 9 ∷ 0xa ∷ 0xb ∷ 0xc ∷ 0xd ∷ 0xe ∷ 0xf ∷ 0x10
    ∷ 7 ∷ 0 ∷ 0 ∷ 0 ∷ 4 ∷ 0 ∷ 0 ∷ 0 ∷ 0 ∷ 0 ∷ 0 ∷ 0 ∷ 0 ∷ 0 ∷ 0 ∷ 0
    ∷ 0x11 ∷ 0x12 ∷ 0x13 ∷ 0x14 ∷ 0x15 ∷ 0x16 ∷ 0x17 ∷ 0x18 ∷ 0x19 ∷ 0x1a ∷ 0x1b ∷ 0x1c ∷ 0x1d ∷ 0x1e ∷ 0x1f ∷ 0x20
    ∷ 3 ∷ 2 ∷ 0 ∷ 0 ∷ []

abbrev pub AskedLease : Type 0
AskedLease = lease_bytes Request asked ≡ asked_bytes

-- a lease without a parent, of which a break is in progress
abbrev pub BreakingLease : Type 0
BreakingLease = lease_bytes Reply (record {
  key = key;
  state = reads_and_handles;
  breaking = true;
  parent = None;
  epoch = 9;
}) ≡ 1 ∷ 2 ∷ 3 ∷ 4 ∷ 5 ∷ 6 ∷ 7 ∷ 8 ∷ 9 ∷ 0xa ∷ 0xb ∷ 0xc ∷ 0xd ∷ 0xe ∷ 0xf ∷ 0x10
    ∷ 3 ∷ 0 ∷ 0 ∷ 0 ∷ 2 ∷ 0 ∷ 0 ∷ 0 ∷ 0 ∷ 0 ∷ 0 ∷ 0 ∷ 0 ∷ 0 ∷ 0 ∷ 0
    ∷ 0 ∷ 0 ∷ 0 ∷ 0 ∷ 0 ∷ 0 ∷ 0 ∷ 0 ∷ 0 ∷ 0 ∷ 0 ∷ 0 ∷ 0 ∷ 0 ∷ 0 ∷ 0
    ∷ 9 ∷ 0 ∷ 0 ∷ 0 ∷ []

-- a persistent open that is asked for with 60,000 ms
abbrev pub durable : DurableData
durable = record { timeout = 60000; persistent = true; create_guid = guid }

abbrev pub durable_asked : List ℕ
durable_asked = 0x60 ∷ 0xea ∷ 0 ∷ 0 ∷ 2 ∷ 0 ∷ 0 ∷ 0 ∷ 0 ∷ 0 ∷ 0 ∷ 0 ∷ 0 ∷ 0 ∷ 0 ∷ 0
    ∷ 0x21 ∷ 0x22 ∷ 0x23 ∷ 0x24 ∷ 0x25 ∷ 0x26 ∷ 0x27 ∷ 0x28 ∷ 0x29 ∷ 0x2a ∷ 0x2b ∷ 0x2c ∷ 0x2d ∷ 0x2e ∷ 0x2f ∷ 0x30 ∷ []

abbrev pub AskedDurable : Type 0
AskedDurable = durable_bytes durable ≡ durable_asked

-- a durable open that is granted for 60,000 ms, and isn't persistent
abbrev pub GrantedDurable : Type 0
GrantedDurable = grant_bytes (record { timeout = 60000; persistent = false }) ≡ 0x60 ∷ 0xea ∷ 0 ∷ 0 ∷ 0 ∷ 0 ∷ 0 ∷ 0 ∷ []

-- a persistent open that is to be connected again
abbrev pub reconnect : ReconnectData
reconnect = record {
  persistent_id = 0x0102030405060708;
  volatile_id = 9;
  create_guid = guid;
  persistent = true;
}

abbrev pub reconnect_asked : List ℕ
reconnect_asked = 8 ∷ 7 ∷ 6 ∷ 5 ∷ 4 ∷ 3 ∷ 2 ∷ 1 ∷ 9 ∷ 0 ∷ 0 ∷ 0 ∷ 0 ∷ 0 ∷ 0 ∷ 0
    ∷ 0x21 ∷ 0x22 ∷ 0x23 ∷ 0x24 ∷ 0x25 ∷ 0x26 ∷ 0x27 ∷ 0x28 ∷ 0x29 ∷ 0x2a ∷ 0x2b ∷ 0x2c ∷ 0x2d ∷ 0x2e ∷ 0x2f ∷ 0x30
    ∷ 2 ∷ 0 ∷ 0 ∷ 0 ∷ []

abbrev pub AskedReconnect : Type 0
AskedReconnect = reconnect_bytes reconnect ≡ reconnect_asked

-- a break to reads and handles that is to be acknowledged, after which the epoch is 5
abbrev pub BrokenTo : Type 0
BrokenTo = epoch_notice_bytes (record {
  notice = record { ack_required = true; key = key; current = reads_writes_and_handles; new = reads_and_handles };
  new_epoch = 5;
}) ≡ 0x2c ∷ 0 ∷ 5 ∷ 0 ∷ 1 ∷ 0 ∷ 0 ∷ 0 ∷ 1 ∷ 2 ∷ 3 ∷ 4 ∷ 5 ∷ 6 ∷ 7 ∷ 8
    ∷ 9 ∷ 0xa ∷ 0xb ∷ 0xc ∷ 0xd ∷ 0xe ∷ 0xf ∷ 0x10 ∷ 7 ∷ 0 ∷ 0 ∷ 0 ∷ 3 ∷ 0 ∷ 0 ∷ 0
    ∷ 0 ∷ 0 ∷ 0 ∷ 0 ∷ 0 ∷ 0 ∷ 0 ∷ 0 ∷ 0 ∷ 0 ∷ 0 ∷ 0 ∷ []

-- ---- chains of contexts

-- the header of a context: its Next, its name and the length of its data
abbrev pub headed : ℕ → List ℕ → ℕ → List ℕ
headed next name count = next ∷ 0 ∷ 0 ∷ 0 ∷ 16 ∷ 0 ∷ 4 ∷ 0 ∷ 0 ∷ 0 ∷ 24 ∷ 0 ∷ count ∷ 0 ∷ 0 ∷ 0 ∷ name ++ 0 ∷ 0 ∷ 0 ∷ 0 ∷ []

-- the names' characters
abbrev pub rqls : List ℕ
rqls = 0x52 ∷ 0x71 ∷ 0x4c ∷ 0x73 ∷ []

abbrev pub dhnq : List ℕ
dhnq = 0x44 ∷ 0x48 ∷ 0x6e ∷ 0x51 ∷ []

abbrev pub dhnc : List ℕ
dhnc = 0x44 ∷ 0x48 ∷ 0x6e ∷ 0x43 ∷ []

abbrev pub dh2q : List ℕ
dh2q = 0x44 ∷ 0x48 ∷ 0x32 ∷ 0x51 ∷ []

abbrev pub dh2c : List ℕ
dh2c = 0x44 ∷ 0x48 ∷ 0x32 ∷ 0x43 ∷ []

abbrev pub eight_zeros : List ℕ
eight_zeros = 0 ∷ 0 ∷ 0 ∷ 0 ∷ 0 ∷ 0 ∷ 0 ∷ 0 ∷ []

-- a lease and a durable open of version 2: the 52 bytes of the lease are padded to 56
abbrev pub both_asked : CreateView
both_asked = record { lease = Some (second_lease asked); durable = Some (Asked durable); reconnect = None }

abbrev pub both_text : List ℕ
both_text = headed 80 rqls 52 ++ asked_bytes ++ 0 ∷ 0 ∷ 0 ∷ 0 ∷ headed 0 dh2q 32 ++ durable_asked

abbrev pub BothWritten : Type 0
BothWritten = canonical_text Request both_asked ≡ both_text

abbrev pub BothRead : Type 0
BothRead = value_of Request both_text ≡ Ok both_asked

-- a lease of version 1 for reads: key, state 1, no flags, no duration
abbrev pub first_lease_asked : List ℕ
first_lease_asked = key ++ 1 ∷ 0 ∷ 0 ∷ 0 ∷ 0 ∷ 0 ∷ 0 ∷ 0 ∷ eight_zeros

-- leases of both versions
abbrev pub LeasesOfBothVersions : Type 0
LeasesOfBothVersions = value_of Request (headed 56 rqls 32 ++ first_lease_asked ++ headed 0 rqls 52 ++ asked_bytes)
    ≡ Err (Wire (Twice 56))

-- RqLs of 40 bytes, and DH2C of 32
abbrev pub LeaseOfAnotherLength : Type 0
LeaseOfAnotherLength = value_of Request (headed 0 rqls 40 ++ key ++ key ++ eight_zeros) ≡ Err (Wire (BadLength 0))

abbrev pub ReconnectOfAnotherLength : Type 0
ReconnectOfAnotherLength = value_of Request (headed 0 dh2c 32 ++ key ++ guid) ≡ Err (Wire (BadLength 0))

-- "DHnQ" and "DHnC" of FileId 5 go together
abbrev pub FirstVersionTogether : Type 0
FirstVersionTogether = value_of Request (headed 40 dhnq 16 ++ eight_zeros ++ eight_zeros
    ++ headed 0 dhnc 16 ++ 5 ∷ 0 ∷ 0 ∷ 0 ∷ 0 ∷ 0 ∷ 0 ∷ 0 ∷ eight_zeros)
    ≡ Ok (record { lease = None; durable = Some First; reconnect = Some (FirstId 5) })

-- durable opens of both versions don't, nor does a reconnect of version 2 with what asks for one
abbrev pub DurablesOfBothVersions : Type 0
DurablesOfBothVersions = value_of Request (headed 40 dhnq 16 ++ eight_zeros ++ eight_zeros ++ headed 0 dh2q 32 ++ durable_asked)
    ≡ Err (Excluded 40)

abbrev pub SecondVersionTogether : Type 0
SecondVersionTogether = value_of Request (headed 56 dh2q 32 ++ durable_asked ++ headed 0 dh2c 36 ++ reconnect_asked)
    ≡ Err (Excluded 56)
