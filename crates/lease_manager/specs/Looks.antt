-- What the tables are asked, one open at a time.
use Rattle.std.specs.Prelude.{ℕ, Bool, Option, Some, None, ◌==◌, ◌&&◌, not}
use Rattle.lease_model.specs.server.State.{Open, has_key}
use Rattle.lease_model.specs.values.Keys.{Key}

-- an open of the client on the file that waits for its client
abbrev pub is_left_by : ℕ → ℕ → Open → Bool
is_left_by client file one = one.client == client && one.file == file && not one.connected

-- the client's connected open of this FileId
abbrev pub is_connected_as : ℕ → ℕ → Open → Bool
is_connected_as client file_id one = one.file_id == file_id && one.client == client && one.connected

-- an open of the key on another file
abbrev pub is_elsewhere : Key → ℕ → Open → Bool
is_elsewhere key file one = has_key key one && not (one.file == file)

-- the file of an open that was looked for; 0 where none was found
abbrev pub file_found : Option Open → ℕ
file_found None = 0
file_found (Some one) = one.file
