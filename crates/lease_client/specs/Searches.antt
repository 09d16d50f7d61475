-- The file of a client that a reply is about.
use Rattle.std.specs.Prelude.{ℕ, Bool}
use Rattle.lease_model.specs.client.State.{Client}
use Rattle.lease_model.specs.client.Taken.{reads_under}

-- a Read of the file's open isn't answered
abbrev pub is_read_under : Client → ℕ → ℕ → Bool
is_read_under client file_id file = reads_under file_id (client.entries file).phase
