-- The map from bytes finds what the layouts say, and what was written is found again.
use Rattle.std.specs.Prelude.{◌≡◌, ℕ, ◌≢◌, ◌<◌, ◌⊎◌, List, length, take, Some, None, Ok}
use Rattle.lease_wire.specs.Acknowledgment.{KeyAndState, IsAcknowledgment, acknowledgment_bytes}
use Rattle.lease_wire.specs.Canonical.{canonical_text, IsWritable}
use Rattle.lease_wire.specs.Field.{number_at}
use Rattle.lease_wire.specs.Gathering.{value_of}
use Rattle.lease_wire.specs.Faults.{IsFaultOf}
use Rattle.lease_wire.specs.Names.{CreateView, HoldsValue}
use Rattle.lease_wire.specs.declared.fault.WireFault.{WireFault}
use Rattle.lease_wire.specs.Notification.{Notice, IsNotification, notification_bytes}
use Rattle.lease_wire.specs.declared.create.Direction.{Direction}
use Rattle.lease_model.specs.messages.FromBytes.{ask_found, answer_found, acknowledged_in, notice_in}
use Rattle.lease_model.specs.messages.Replies.{BreakNotice}
use Rattle.lease_model.specs.messages.Requests.{LeaseOf}

abbrev pub acknowledged_as : KeyAndState → LeaseOf
acknowledged_as v = record { key = v.key; state = v.state }

abbrev pub noticed_as : Notice → BreakNotice
noticed_as v = record { ack_required = v.ack_required; key = v.key; current = v.current; lowered = v.new }

-- bytes that begin with a message of this value
abbrev pub AcknowledgmentIsFound : Type 0
AcknowledgmentIsFound = (bytes : List ℕ) (v : KeyAndState) → IsAcknowledgment (take 36 bytes) v → acknowledged_in bytes
    ≡ Some (acknowledged_as v)

abbrev pub NotificationIsFound : Type 0
NotificationIsFound = (bytes : List ℕ) (v : Notice) → IsNotification (take 44 bytes) v → notice_in bytes ≡ Some (noticed_as v)

-- bytes that begin with none: they are short, or have another size
abbrev pub NoAcknowledgmentIsFound : Type 0
NoAcknowledgmentIsFound = (bytes : List ℕ) → (length bytes < 36) ⊎ (number_at 0 2 bytes ≢ 36) → acknowledged_in bytes ≡ None

abbrev pub NoNotificationIsFound : Type 0
NoNotificationIsFound = (bytes : List ℕ) → (length bytes < 44) ⊎ (number_at 0 2 bytes ≢ 44) → notice_in bytes ≡ None

-- contexts that hold a value, and those that have a fault, which are found to hold none
abbrev pub ContextsAreFound : Type 0
ContextsAreFound =
    ((text : List ℕ) (v : CreateView) → HoldsValue Direction.Request text v
    → ask_found (value_of Direction.Request text) ≡ ask_found (Ok v))
    × ((text : List ℕ) (v : CreateView) → HoldsValue Direction.Reply text v
    → answer_found (value_of Direction.Reply text) ≡ answer_found (Ok v))

abbrev pub FaultyContextsAreNotFound : Type 0
FaultyContextsAreNotFound =
    ((text : List ℕ) (fault : WireFault) → IsFaultOf Direction.Request text fault
    → ask_found (value_of Direction.Request text) ≡ None)
    × ((text : List ℕ) (fault : WireFault) → IsFaultOf Direction.Reply text fault
    → answer_found (value_of Direction.Reply text) ≡ None)

-- what is written is found
abbrev pub WrittenMessagesAreFound : Type 0
WrittenMessagesAreFound =
    ((v : KeyAndState) → length v.key ≡ 16 → acknowledged_in (acknowledgment_bytes v) ≡ Some (acknowledged_as v))
    × ((v : Notice) → length v.key ≡ 16 → notice_in (notification_bytes v) ≡ Some (noticed_as v))

abbrev pub WrittenContextsAreFound : Type 0
WrittenContextsAreFound =
    ((v : CreateView) → IsWritable Direction.Request v
    → ask_found (value_of Direction.Request (canonical_text Direction.Request v)) ≡ ask_found (Ok v))
    × ((v : CreateView) → IsWritable Direction.Reply v
    → answer_found (value_of Direction.Reply (canonical_text Direction.Reply v)) ≡ answer_found (Ok v))
