-- Whole SMB2 messages: the header that they begin with (MS-SMB2 2.2.1), and where the create contexts of a CREATE stand (2.2.13,
-- 2.2.14).
use Rattle.std.specs.Prelude.{ℕ, ◌+◌, ◌==◌, nat_lt, Bool, not, ◌&&◌, ◌||◌, bytes_eq, if◌then◌else◌, List, [], ◌∷◌, length, take}
use Rattle.std.specs.Prelude.{Option, Some, None}
use Rattle.lease_wire.specs.Field.{number_at, bytes_at}
use Rattle.lease_wire.specs.Reading.{Item, items_behind}
use Rattle.lease_wire.specs.declared.create.Direction.{Direction}
use Rattle.lease_wire.specs.declared.create.Direction.TheVariants.{Request, Reply}
use Rattle.lease_wire.specs.declared.fault.WireFault.{WireFault}
use Rattle.lease_wire.specs.declared.fault.WireFault.TheVariants.{Short, WrongSize, BadNext, BadData}

-- ---- the header

-- The bytes begin with ProtocolId, FE 'S' 'M' 'B'.
abbrev pub begins_message : List ℕ → Bool
begins_message bytes = bytes_eq (take 4 bytes) (254 ∷ 83 ∷ 77 ∷ 66 ∷ [])

-- NextCommand: where the next message of a compound begins, or 0
unfoldable pub next_command_of : List ℕ → ℕ
next_command_of bytes = number_at 20 4 bytes

-- the next message begins in this one's header, or past the end
abbrev pub has_bad_next_command : ℕ → ℕ → Bool
has_bad_next_command count next = not (next == 0) && (nat_lt next 64 || nat_lt count next)

-- why bytes don't begin with a message
unfoldable pub header_fault : List ℕ → Option WireFault
header_fault bytes =
    if nat_lt (length bytes) 64 then Some (Short 0)
    else if not (number_at 4 2 bytes == 64) then Some (WrongSize 0)
    else if has_bad_next_command (length bytes) (next_command_of bytes) then Some (BadNext 0)
    else None

-- the first message: all bytes, where no other follows
unfoldable pub first_message : List ℕ → List ℕ
first_message bytes = if next_command_of bytes == 0 then bytes else take (next_command_of bytes) bytes

-- ---- create contexts

-- the fixed part of a CREATE request or response with the header, and StructureSize, which counts a byte of what follows
abbrev pub fixed_end : Direction → ℕ
fixed_end Request = 120
fixed_end Reply = 152

abbrev pub create_size : Direction → ℕ
create_size Request = 57
create_size Reply = 89

-- CreateContextsOffset, from the start of the header, and CreateContextsLength
unfoldable pub area_offset : Direction → List ℕ → ℕ
area_offset Request message = number_at 112 4 message
area_offset Reply message = number_at 144 4 message

unfoldable pub area_length : Direction → List ℕ → ℕ
area_length Request message = number_at 116 4 message
area_length Reply message = number_at 148 4 message

-- there are contexts, and they are not after the fixed part and within the message
abbrev pub has_bad_area : ℕ → ℕ → ℕ → ℕ → Bool
has_bad_area count fixed offset many = not (many == 0) && (nat_lt offset fixed || nat_lt count (offset + many))

-- why a message's contexts can't be found
unfoldable pub area_fault : Direction → List ℕ → Option WireFault
area_fault direction message =
    if nat_lt (length message) (fixed_end direction) then Some (Short 64)
    else if not (number_at 64 2 message == create_size direction) then Some (WrongSize 64)
    else if has_bad_area (length message) (fixed_end direction) (area_offset direction message) (area_length direction message)
    then Some (BadData (area_offset direction message))
    else None

-- the text of the contexts
unfoldable pub area_of : Direction → List ℕ → List ℕ
area_of direction message = bytes_at (area_offset direction message) (area_length direction message) message

-- the items of a text that begins at a place
abbrev pub items_from : ℕ → List ℕ → List Item
items_from place [] = []
items_from place (byte ∷ bytes) = items_behind place 0 (byte ∷ bytes)

-- the items of a CREATE message's contexts, whose places count from the header
unfoldable pub items_in : Direction → List ℕ → List Item
items_in direction message = items_from (area_offset direction message) (area_of direction message)
