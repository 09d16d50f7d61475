-- The limits of the profile (profile), but that of a file, which is a constant of the shared values. Each is
-- named once; no other definition has its number.
use Rattle.std.specs.Prelude.{ℕ}

-- the most files and the most clients of a setup, and the most events of a run
unfoldable pub files_limit : ℕ
files_limit = 8

unfoldable pub clients_limit : ℕ
clients_limit = 16

unfoldable pub events_limit : ℕ
events_limit = 10000

-- the last number that a file of a server can have: those of one byte
unfoldable pub last_file_number : ℕ
last_file_number = 255

-- the last FileId, the last number that a client gives a write: those of eight bytes
unfoldable pub last_file_id : ℕ
last_file_id = 18446744073709551615

unfoldable pub last_write_number : ℕ
last_write_number = 18446744073709551615

-- the most handles, and the most unanswered Reads, that a client counts for one file
unfoldable pub count_limit : ℕ
count_limit = 4294967295
