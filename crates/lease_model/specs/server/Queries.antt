-- What can be asked of a server apart from `allowed`; nothing changes.
use Rattle.std.specs.Prelude.{ℕ, Bool, Option, Some, None, List, if◌then◌else◌, ◌==◌, ◌&&◌, not, find}
use Rattle.std.specs.Option.{option_map}
use Rattle.lease_model.specs.values.Keys.{Key}
use Rattle.lease_model.specs.server.State.{Server, has_file, is_breaking}

-- the lowest disconnected open of a client on a file; opens stand in the order of their FileIds
abbrev pub kept : Server → ℕ → ℕ → Option ℕ
kept server client file = option_map (λ one. one.file_id)
    (find (λ one. one.client == client && one.file == file && not one.connected) server.opens)

-- the lease of a key is breaking
abbrev pub breaking : Server → Key → Bool
breaking server key = is_breaking (server.leases key)

-- the content of a file
abbrev pub content : Server → ℕ → Option (List ℕ)
content server file = if has_file server file then Some (server.contents file) else None
