-- The file that a task reads.
use Rattle.std.specs.Prelude.{ℕ, List, codes, take, drop, bytes_eq, if◌then◌else◌, Option, Some, None}
use Rattle.std.specs.String.{string_bytes}
use Rattle.leasecheck.specs.declared.tasks.Task.{Task}
use Rattle.leasecheck.specs.declared.tasks.Task.TheVariants.{Ack, Show, Replay, Judge, Explain, Draw, Capture, Version}

-- the file that an argument of `ack` or `show` names, which begins with a sign for it
abbrev pub file_named : List ℕ → Option (List ℕ)
file_named argument = if bytes_eq (take 1 argument) (codes "@") then Some (drop 1 argument) else None

-- its name, where there is one
abbrev pub path_of : Task → Option (List ℕ)
path_of (Ack argument) = file_named (string_bytes argument)
path_of (Show kind argument) = file_named (string_bytes argument)
path_of (Replay path telling rules) = Some (string_bytes path)
path_of (Judge path) = Some (string_bytes path)
path_of (Explain path told) = Some (string_bytes path)
path_of (Draw path) = Some (string_bytes path)
path_of (Capture path side form told) = Some (string_bytes path)
path_of Version = None
