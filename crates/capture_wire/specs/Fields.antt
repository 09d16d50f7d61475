-- Values that several messages carry, where they stand in the bytes. Places count in bytes from 0.
use Rattle.std.specs.Prelude.{ℕ, ◌+◌, ◌==◌, Bool, List}
use Rattle.std.specs.Int.RustNames.{bit_and}
use Rattle.lease_wire.specs.Field.{number_at, bytes_at}
use Rattle.capture_wire.specs.declared.field.Smb2FileId.{Smb2FileId}

-- SMB2_FILEID (MS-SMB2 2.2.14.1): Persistent, then Volatile
abbrev pub file_id_at : ℕ → List ℕ → Smb2FileId
file_id_at place bytes = record { persistent = number_at place 8 bytes; volatile = number_at (place + 8) 8 bytes }

-- the bit of that value is set in the flags
abbrev pub has_flag : ℕ → ℕ → Bool
has_flag flag flags = bit_and flags flag == flag

-- the bytes that an offset of two bytes and a length of two bytes after it lead to, both at a place of the message
abbrev pub part_at : ℕ → List ℕ → List ℕ
part_at place message = bytes_at (number_at place 2 message) (number_at (place + 2) 2 message) message
