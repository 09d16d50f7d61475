-- What `leasecheck show` prints for bytes of each kind.
use Rattle.std.specs.Prelude.{◌≡◌, ℕ, ◌-◌, ◌++◌, List, length, take, drop, codes, Bool, true, false, Ok}
use Rattle.lease_wire.specs.Names.{CreateView}
use Rattle.lease_wire.specs.Gathering.{gathered, no_values}
use Rattle.lease_wire.specs.Message.{begins_message, first_message, items_in}
use Rattle.lease_wire.specs.Reading.{Item, items_of}
use Rattle.lease_wire.specs.Notification.{Notice, IsNotification}
use Rattle.lease_wire.specs.Acknowledgment.{KeyAndState, IsAcknowledgment}
use Rattle.lease_wire.specs.declared.create.Direction.{Direction}
use Rattle.lease_wire.specs.declared.create.Direction.TheVariants.{Request, Reply}
use Rattle.leasecheck.specs.declared.tasks.Kind.{Kind}
use Rattle.leasecheck.specs.declared.tasks.Kind.TheVariants.{Ask, Reply as ReplyKind, Break, Ack, Response}
use Rattle.leasecheck.specs.Answer.{rest_line}
use Rattle.leasecheck.specs.Words.{create_text, break_line, key_and_state_line}

-- contexts, by what a reader of them gives
abbrev pub ShowsCreate : Direction → List Item → List ℕ → Type 0
ShowsCreate direction items text =
    (v : CreateView) × (gathered direction no_values items ≡ Ok v) × (text ≡ create_text items v)

abbrev pub ShowsBreak : List ℕ → List ℕ → Type 0
ShowsBreak bytes text =
    (v : Notice) × IsNotification (take 44 bytes) v × (text ≡ break_line v ++ rest_line (length bytes - 44))

-- an acknowledgment or a response, by its word
abbrev pub ShowsKeyAndState : List ℕ → List ℕ → List ℕ → Type 0
ShowsKeyAndState word bytes text =
    (v : KeyAndState) × IsAcknowledgment (take 36 bytes) v
    × (text ≡ key_and_state_line word v ++ rest_line (length bytes - 36))

-- bytes without the SMB2 header
abbrev pub ShowsBare : Kind → List ℕ → List ℕ → Type 0
ShowsBare Ask bytes text = ShowsCreate Request (items_of bytes) text
ShowsBare ReplyKind bytes text = ShowsCreate Reply (items_of bytes) text
ShowsBare Break bytes text = ShowsBreak bytes text
ShowsBare Ack bytes text = ShowsKeyAndState (codes "ack") bytes text
ShowsBare Response bytes text = ShowsKeyAndState (codes "response") bytes text

-- a whole message: contexts from where the CREATE has them, and else what stands after its header
abbrev pub ShowsMessage : Kind → List ℕ → List ℕ → Type 0
ShowsMessage Ask message text = ShowsCreate Request (items_in Request message) text
ShowsMessage ReplyKind message text = ShowsCreate Reply (items_in Reply message) text
ShowsMessage Break message text = ShowsBreak (drop 64 message) text
ShowsMessage Ack message text = ShowsKeyAndState (codes "ack") (drop 64 message) text
ShowsMessage Response message text = ShowsKeyAndState (codes "response") (drop 64 message) text

-- Whole messages, of which the first is shown, or bytes without the header.
abbrev pub ShowsAs : Bool → Kind → List ℕ → List ℕ → Type 0
ShowsAs true kind bytes text = ShowsMessage kind (first_message bytes) text
ShowsAs false kind bytes text = ShowsBare kind bytes text

-- Bytes that begin with ProtocolId are whole messages.
abbrev pub Shows : Kind → List ℕ → List ℕ → Type 0
Shows kind bytes text = ShowsAs (begins_message bytes) kind bytes text
