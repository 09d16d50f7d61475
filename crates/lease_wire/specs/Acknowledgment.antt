-- The lease break acknowledgment (MS-SMB2 2.2.24.2) and the lease break response (2.2.25.2): which
-- 36 bytes stand for which value. Their two layouts are one, field by field.
use Rattle.std.specs.Prelude.{◌≡◌, ℕ, ◌≤◌, ◌++◌, List, length, take, drop, Option, Some, None, if◌then◌else◌}
use Rattle.byteorder.specs.Endian.{little_bytes}
use Rattle.lease_state.specs.State.{State, state_of, state_of_bits, bits_of_state}
use Rattle.lease_wire.specs.Field.{number_at, bytes_at}
use Rattle.lease_wire.specs.Notification.{Notice}
use Rattle.lease_wire.specs.declared.acknowledgment.Acknowledgment.{Acknowledgment}
use Rattle.lease_wire.specs.declared.acknowledgment.BreakResponse.{BreakResponse}

-- a lease key, and the state that goes with it
pub record KeyAndState : Type 0 where
  pub key : List ℕ
  pub state : State

abbrev pub acknowledged_of : Acknowledgment → KeyAndState
acknowledged_of message = record { key = message.key.0; state = state_of message.state }

abbrev pub responded_of : BreakResponse → KeyAndState
responded_of message = record { key = message.key.0; state = state_of message.state }

-- 3.2.5.19.2: the acknowledgment keeps what the break leaves; without ACK_REQUIRED none is due
abbrev pub acknowledgment_due : Notice → Option KeyAndState
acknowledgment_due v = if v.ack_required then Some (record { key = v.key; state = v.new }) else None

-- The bytes hold the value. Reserved, Flags and LeaseDuration are free: nothing is said of them.
pub record IsAcknowledgment (bytes : List ℕ) (v : KeyAndState) : Type 0 where
  pub size : length bytes ≡ 36
  pub structure_size : number_at 0 2 bytes ≡ 36
  pub lease_key : v.key ≡ bytes_at 8 16 bytes
  pub lease_state : v.state ≡ state_of_bits (number_at 24 4 bytes)

-- the free fields, and the free bits of LeaseState, are 0
pub record AcknowledgmentFreeFieldsZero (bytes : List ℕ) : Type 0 where
  pub reserved : number_at 2 2 bytes ≡ 0
  pub flags : number_at 4 4 bytes ≡ 0
  pub lease_state : number_at 24 4 bytes ≤ 7
  pub lease_duration : number_at 28 8 bytes ≡ 0

-- the bytes as they are written: each field in its order
abbrev pub acknowledgment_bytes : KeyAndState → List ℕ
acknowledgment_bytes v =
    little_bytes 2 36 ++ (little_bytes 2 0 ++ (little_bytes 4 0 ++ (v.key
    ++ (little_bytes 4 (bits_of_state v.state) ++ little_bytes 8 0))))

-- what was written is read back, with the bytes after it
abbrev pub AcknowledgmentReadsBack : Type 0
AcknowledgmentReadsBack = (v : KeyAndState) (rest : List ℕ) → length v.key ≡ 16
    → IsAcknowledgment (take 36 (acknowledgment_bytes v ++ rest)) v × (drop 36 (acknowledgment_bytes v ++ rest) ≡ rest)

-- no bytes hold two values
abbrev pub AcknowledgmentIsUnique : Type 0
AcknowledgmentIsUnique = (bytes : List ℕ) (v w : KeyAndState)
    → IsAcknowledgment bytes v → IsAcknowledgment bytes w → v ≡ w

-- what is written has 0 in all that is free
abbrev pub AcknowledgmentFreeFields : Type 0
AcknowledgmentFreeFields = (v : KeyAndState) → length v.key ≡ 16 → AcknowledgmentFreeFieldsZero (acknowledgment_bytes v)
