-- The lease break notification with its NewEpoch (MS-SMB2 2.2.23.2): which 44 bytes stand for which value. NewEpoch is the epoch
-- of a lease of version 2 after the break, and 0 for a lease of version 1.
use Rattle.std.specs.Prelude.{◌≡◌, ℕ, ◌<◌, ◌^◌, ◌++◌, take, drop, List, length, if◌then◌else◌}
use Rattle.byteorder.specs.Endian.{little_bytes}
use Rattle.lease_state.specs.State.{bits_of_state}
use Rattle.lease_wire.specs.Field.{number_at}
use Rattle.lease_wire.specs.Notification.{Notice, IsNotification, notice_of, notification_bytes}
use Rattle.lease_wire_v2.specs.Fields.{AreBytes}
use Rattle.lease_wire_v2.specs.declared.notification.NotificationV2.{NotificationV2}
use Rattle.std.specs.Prelude.{◌≤◌}

-- what a notification says, and the epoch
pub record EpochNotice : Type 0 where
  pub notice : Notice
  pub new_epoch : ℕ

abbrev pub epoch_notice_of : NotificationV2 → EpochNotice
epoch_notice_of message = record { notice = notice_of message.notification; new_epoch = message.new_epoch }

-- The bytes hold the value. What is free in a notification is free here too, but NewEpoch at 2.
pub record IsEpochNotice (bytes : List ℕ) (v : EpochNotice) : Type 0 where
  pub notice : IsNotification bytes v.notice
  pub new_epoch : v.new_epoch ≡ number_at 2 2 bytes

-- the bytes as they are written: each field in its order
abbrev pub epoch_notice_bytes : EpochNotice → List ℕ
epoch_notice_bytes v =
    little_bytes 2 44 ++ (little_bytes 2 v.new_epoch ++ (little_bytes 4 (if v.notice.ack_required then 1 else 0)
    ++ (v.notice.key ++ (little_bytes 4 (bits_of_state v.notice.current) ++ (little_bytes 4 (bits_of_state v.notice.new)
    ++ (little_bytes 4 0 ++ (little_bytes 4 0 ++ little_bytes 4 0)))))))

-- what the fields can bear: a key of 16 bytes, an epoch of two
pub record IsBorneNotice (v : EpochNotice) : Type 0 where
  pub key : length v.notice.key ≡ 16
  pub new_epoch : v.new_epoch < 2 ^ 16

-- the bytes are as notifications are written: what is free in them is 0
pub record IsCanonicalNotice (bytes : List ℕ) : Type 0 where
  pub octets : AreBytes bytes
  pub flags : number_at 4 4 bytes ≤ 1
  pub current_lease_state : number_at 24 4 bytes ≤ 7
  pub new_lease_state : number_at 28 4 bytes ≤ 7
  pub break_reason : number_at 32 4 bytes ≡ 0
  pub access_mask_hint : number_at 36 4 bytes ≡ 0
  pub share_mask_hint : number_at 40 4 bytes ≡ 0

-- what was written is read back, with the bytes after it
abbrev pub EpochNoticeReadsBack : Type 0
EpochNoticeReadsBack = (v : EpochNotice) (rest : List ℕ) → IsBorneNotice v
    → IsEpochNotice (take 44 (epoch_notice_bytes v ++ rest)) v × (drop 44 (epoch_notice_bytes v ++ rest) ≡ rest)

-- no bytes hold two values
abbrev pub EpochNoticeIsUnique : Type 0
EpochNoticeIsUnique = (bytes : List ℕ) (v w : EpochNotice) → IsEpochNotice bytes v → IsEpochNotice bytes w → v ≡ w

-- what was read of canonical bytes is written back
abbrev pub EpochNoticeWritesBack : Type 0
EpochNoticeWritesBack = (bytes : List ℕ) (v : EpochNotice) → IsEpochNotice bytes v → IsCanonicalNotice bytes
    → epoch_notice_bytes v ≡ bytes

-- a lease of version 1 has NewEpoch 0, and its notification is that of `lease_wire`
abbrev pub FirstVersionHasNoEpoch : Type 0
FirstVersionHasNoEpoch = (notice : Notice)
    → epoch_notice_bytes (record { notice = notice; new_epoch = 0 }) ≡ notification_bytes notice
