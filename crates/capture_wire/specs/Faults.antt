-- Why bytes hold no value: the first test that they fail.
use Rattle.std.specs.Prelude.{ℕ, ◌+◌, ◌*◌, ◌==◌, nat_lt, not, ◌&&◌, ◌||◌, if◌then◌else◌, List, length, Option, Some, None}
use Rattle.lease_wire.specs.Field.{number_at}
use Rattle.lease_wire.specs.Message.{begins_message}
use Rattle.capture_wire.specs.declared.fault.MessageFault.{MessageFault}
use Rattle.capture_wire.specs.declared.fault.MessageFault.TheVariants.{Short, WrongProtocol, WrongSize, WrongLength, Outside}

-- the data of a create context whose structure takes so many bytes
abbrev pub data_fault : ℕ → List ℕ → Option MessageFault
data_fault size bytes = if length bytes == size then None else Some WrongLength

-- the header (2.2.1): 64 bytes, ProtocolId at 0, and StructureSize at 4, which is 64
abbrev pub header_fault : List ℕ → Option MessageFault
header_fault bytes =
    if nat_lt (length bytes) 64 then Some Short
    else if not (begins_message bytes) then Some WrongProtocol
    else if number_at 4 2 bytes == 64 then None
    else Some WrongSize

-- a message whose fixed part ends there, counted from the header's start, and has that StructureSize at 64
abbrev pub fixed_fault : ℕ → ℕ → List ℕ → Option MessageFault
fixed_fault end size message =
    if nat_lt (length message) end then Some Short
    else if number_at 64 2 message == size then None
    else Some WrongSize

-- so many bytes from an offset on: if there are any, they are after the fixed part and within the message
abbrev pub part_fault : ℕ → ℕ → ℕ → List ℕ → Option MessageFault
part_fault end offset count message =
    if not (count == 0) && (nat_lt offset end || nat_lt (length message) (offset + count)) then Some Outside else None

-- the fault of a message, or else that of a part of it
abbrev pub first_fault : Option MessageFault → Option MessageFault → Option MessageFault
first_fault (Some fault) part = Some fault
first_fault None part = part

-- NEGOTIATE request (2.2.3): DialectCount at 66 counts the dialects from 100 on, each of two bytes
abbrev pub negotiate_request_fault : List ℕ → Option MessageFault
negotiate_request_fault message =
    first_fault (fixed_fault 100 36 message) (part_fault 100 100 (2 * number_at 66 2 message) message)

-- TREE_CONNECT request (2.2.9): PathOffset at 68 and PathLength at 70
abbrev pub tree_connect_request_fault : List ℕ → Option MessageFault
tree_connect_request_fault message =
    first_fault (fixed_fault 72 9 message) (part_fault 72 (number_at 68 2 message) (number_at 70 2 message) message)

-- CREATE request (2.2.13): NameOffset at 108 and NameLength at 110
abbrev pub create_request_fault : List ℕ → Option MessageFault
create_request_fault message =
    first_fault (fixed_fault 120 57 message) (part_fault 120 (number_at 108 2 message) (number_at 110 2 message) message)

-- SET_INFO request (2.2.39): BufferOffset at 72 and BufferLength at 68
abbrev pub set_info_request_fault : List ℕ → Option MessageFault
set_info_request_fault message =
    first_fault (fixed_fault 96 33 message) (part_fault 96 (number_at 72 2 message) (number_at 68 4 message) message)

-- FileRenameInformation (MS-FSCC 2.4.37.2): FileNameLength at 16 counts the bytes of FileName, which begins at 20
abbrev pub rename_fault : List ℕ → Option MessageFault
rename_fault buffer =
    if nat_lt (length buffer) 20 then Some Short else part_fault 20 20 (number_at 16 4 buffer) buffer

-- FileDispositionInformation (MS-FSCC 2.4.11): DeletePending at 0
abbrev pub disposition_fault : List ℕ → Option MessageFault
disposition_fault buffer = if nat_lt (length buffer) 1 then Some Short else None
