-- The messages of a compound, by NextCommand (MS-SMB2 2.2.1).
use Rattle.std.specs.Prelude.{◌≡◌, ⊤, ℕ, ◌==◌, Bool, true, false, List, [], ◌∷◌, length, drop, Some, None}
use Rattle.lease_wire.specs.Message.{first_message, header_fault, next_command_of}
use Rattle.capture_wire.specs.Messages.{IsMessage, unreadable_of}
use Rattle.capture_wire.specs.declared.message.Message.{Message}
use Rattle.capture_walk.specs.declared.compound.FrameFault.{FrameFault}
use Rattle.capture_walk.specs.declared.compound.FrameFault.TheVariants as fault

-- what comes after the first message
abbrev pub behind_first : List ℕ → List ℕ
behind_first bytes = drop (length (first_message bytes)) bytes

abbrev pub is_last : List ℕ → Bool
is_last bytes = next_command_of bytes == 0

-- the bytes are these messages, of which the last one has no next
abbrev pub HoldsMessages : List ℕ → List Message → Type 0
HoldsMessages bytes [] = ⊥
HoldsMessages bytes (message ∷ []) = (is_last bytes ≡ true) × IsMessage (first_message bytes) message
HoldsMessages bytes (message ∷ next ∷ messages) =
    (is_last bytes ≡ false) × IsMessage (first_message bytes) message × HoldsMessages (behind_first bytes) (next ∷ messages)

-- why the first message can't be read
abbrev pub IsFirstFault : List ℕ → FrameFault → Type 0
IsFirstFault bytes (fault.Header found) = header_fault bytes ≡ Some found
IsFirstFault bytes (fault.Message found) = (header_fault bytes ≡ None) × (unreadable_of (first_message bytes) ≡ Some found)
IsFirstFault bytes fault.Memory = ⊤

-- these messages are read, and then one can't be
abbrev pub FailsAfter : List ℕ → List Message → FrameFault → Type 0
FailsAfter bytes [] found = IsFirstFault bytes found
FailsAfter bytes (message ∷ messages) found =
    (is_last bytes ≡ false) × IsMessage (first_message bytes) message × FailsAfter (behind_first bytes) messages found
