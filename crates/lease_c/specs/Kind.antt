-- Which message the bytes of an OPLOCK_BREAK command are (MS-SMB2 2.2.23 to 2.2.25), by StructureSize and length.
use Rattle.std.specs.Prelude.{ℕ, if◌then◌else◌, List, is_none}
use Rattle.lease_wire.specs.WireFaults.{message_fault}

-- A lease break notification has 44 bytes (2.2.23.2), a lease break acknowledgment and response 36 (2.2.24.2, 2.2.25.2), and
-- what is said of an oplock 24 (2.2.23.1, 2.2.24.1, 2.2.25.1). 0 stands for none of these.
abbrev pub message_kind : List ℕ → ℕ
message_kind bytes =
    if is_none (message_fault 44 bytes) then 1
    else (if is_none (message_fault 36 bytes) then 2
    else (if is_none (message_fault 24 bytes) then 3 else 0))
