-- The lease break notification (MS-SMB2 2.2.23.2): which 44 bytes stand for which value.
use Rattle.std.specs.Prelude.{◌≡◌, ℕ, ◌≤◌, ◌==◌, ◌++◌, take, drop, Bool, List, length, if◌then◌else◌}
use Rattle.std.specs.Int.RustNames.{bit_and}
use Rattle.byteorder.specs.Endian.{little_bytes}
use Rattle.lease_state.specs.State.{State, state_of, state_of_bits, bits_of_state}
use Rattle.lease_wire.specs.Field.{number_at, bytes_at}
use Rattle.lease_wire.specs.declared.notification.Notification.{Notification}

-- what a notification says
pub record Notice : Type 0 where
  pub ack_required : Bool
  pub key : List ℕ
  pub current : State
  pub new : State

abbrev pub notice_of : Notification → Notice
notice_of message = record {
  ack_required = message.ack_required;
  key = message.key.0;
  current = state_of message.current;
  new = state_of message.new;
}

-- The bytes hold the value. NewEpoch, the other bits of Flags, BreakReason, AccessMaskHint and
-- ShareMaskHint are free: nothing is said of them.
pub record IsNotification (bytes : List ℕ) (v : Notice) : Type 0 where
  pub size : length bytes ≡ 44
  pub structure_size : number_at 0 2 bytes ≡ 44
  pub flags : v.ack_required ≡ (bit_and (number_at 4 4 bytes) 1 == 1)
  pub lease_key : v.key ≡ bytes_at 8 16 bytes
  pub current_lease_state : v.current ≡ state_of_bits (number_at 24 4 bytes)
  pub new_lease_state : v.new ≡ state_of_bits (number_at 28 4 bytes)

-- the free fields, and the free bits of those that hold a value, are 0
pub record HasFreeFieldsZero (bytes : List ℕ) : Type 0 where
  pub new_epoch : number_at 2 2 bytes ≡ 0
  pub flags : (number_at 4 4 bytes) ≤ 1
  pub current_lease_state : number_at 24 4 bytes ≤ 7
  pub new_lease_state : number_at 28 4 bytes ≤ 7
  pub break_reason : number_at 32 4 bytes ≡ 0
  pub access_mask_hint : number_at 36 4 bytes ≡ 0
  pub share_mask_hint : number_at 40 4 bytes ≡ 0

-- the bytes as they are written: each field in its order
abbrev pub notification_bytes : Notice → List ℕ
notification_bytes v =
    little_bytes 2 44 ++ (little_bytes 2 0 ++ (little_bytes 4 (if v.ack_required then 1 else 0) ++ (v.key
    ++ (little_bytes 4 (bits_of_state v.current) ++ (little_bytes 4 (bits_of_state v.new)
    ++ (little_bytes 4 0 ++ (little_bytes 4 0 ++ little_bytes 4 0)))))))

-- what was written is read back, with the bytes after it
abbrev pub NotificationReadsBack : Type 0
NotificationReadsBack = (v : Notice) (rest : List ℕ) → length v.key ≡ 16
    → IsNotification (take 44 (notification_bytes v ++ rest)) v × (drop 44 (notification_bytes v ++ rest) ≡ rest)

abbrev pub NotificationIsUnique : Type 0
NotificationIsUnique = (bytes : List ℕ) (v w : Notice) → IsNotification bytes v → IsNotification bytes w → v ≡ w

abbrev pub NotificationFreeFields : Type 0
NotificationFreeFields = (v : Notice) → length v.key ≡ 16 → HasFreeFieldsZero (notification_bytes v)
