-- Break messages are written as what is read in them.
use Rattle.lease_laws.proofs.Words.{◌∙◌, ◌≡◌, AcknowledgmentIsFound, List, NotificationIsFound, Some, ℕ, acknowledged_in, ap}
use Rattle.lease_laws.proofs.Words.{arith, notice_in, sym, take_all}
use Rattle.lease_laws.specs.messages.Bytes.{noticed_as, acknowledged_as}
use Rattle.lease_model.specs.messages.ToBytes.{notice_bytes, lease_message_bytes}
use Rattle.lease_wire.specs.Acknowledgment.{KeyAndState, IsAcknowledgment, acknowledgment_bytes}
use Rattle.lease_wire.specs.Notification.{Notice, IsNotification, notification_bytes}

pub notice_found : (bytes : List ℕ) (v : Notice) → NotificationIsFound → IsNotification bytes v
    → notice_in bytes ≡ Some (noticed_as v)
notice_found bytes v law layout =
    law bytes v (rw (take_all 44 bytes (let n = layout.size in omega (arith, n))) layout)

pub notice_back : (bytes : List ℕ) (v : Notice) → NotificationIsFound → IsNotification bytes v
    → bytes ≡ notification_bytes v → notice_bytes (notice_in bytes) ≡ bytes
notice_back bytes v law layout text = ap notice_bytes (notice_found bytes v law layout) ∙ sym text

pub acknowledgment_found : (bytes : List ℕ) (v : KeyAndState) → AcknowledgmentIsFound → IsAcknowledgment bytes v
    → acknowledged_in bytes ≡ Some (acknowledged_as v)
acknowledgment_found bytes v law layout =
    law bytes v (rw (take_all 36 bytes (let n = layout.size in omega (arith, n))) layout)

pub acknowledgment_back : (bytes : List ℕ) (v : KeyAndState) → AcknowledgmentIsFound → IsAcknowledgment bytes v
    → bytes ≡ acknowledgment_bytes v → lease_message_bytes (acknowledged_in bytes) ≡ bytes
acknowledgment_back bytes v law layout text = ap lease_message_bytes (acknowledgment_found bytes v law layout) ∙ sym text
