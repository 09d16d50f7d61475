-- What of a server a look at a request about one file sees.
use Rattle.std.specs.Prelude.{◌≡◌, Bool, false, ℕ, Option, Some, None, List, filter, if◌then◌else◌}
use Rattle.std.specs.List.{list_any}
use Rattle.std.specs.Option.{option_map}
use Rattle.lease_model.specs.messages.Requests.{FileRequest}
use Rattle.lease_model.specs.server.Findings.{is_leased_elsewhere, connected_open}
use Rattle.lease_model.specs.server.Naming.{own_key}
use Rattle.lease_model.specs.server.State.{Server, Open, Held, no_lease, has_key, has_own_key}
use Rattle.lease_model.specs.values.Keys.{Key}
use Rattle.lease_manager.specs.Summaries.{is_on}

abbrev pub on_file : ℕ → List Open → List Open
on_file file opens = filter (is_on file) opens

-- the server with the opens on the file alone, and the leases of their keys
abbrev pub local : ℕ → Server → Server
local file server = record server {
  opens = on_file file server.opens;
  leases = λ key. if list_any (has_key key) (on_file file server.opens) then server.leases key else no_lease;
}

-- the client's connected open of this FileId is on the file
abbrev pub IsOpenOn : Server → ℕ → ℕ → ℕ → Type 0
IsOpenOn server file client file_id =
    option_map (λ one. one.file) (connected_open server client file_id) ≡ Some file

-- The request is about this file: a create names the file, and any other request a connected open of its client on it.
abbrev pub IsAbout : Server → ℕ → ℕ → FileRequest → Type 0
IsAbout server file client (FileRequest.Create other access share contexts) = file ≡ other
IsAbout server file client (FileRequest.Read file_id) = IsOpenOn server file client file_id
IsAbout server file client (FileRequest.Write file_id number patch) = IsOpenOn server file client file_id
IsAbout server file client (FileRequest.Close file_id) = IsOpenOn server file client file_id

-- The request sees no other file: it is a create of the file, whose key has no open on another, or a write by an open on
-- the file. (No other request waits.)
abbrev pub IsOnlyAbout : Server → ℕ → ℕ → FileRequest → Type 0
IsOnlyAbout server file client (FileRequest.Create other access share None) = ⊥
IsOnlyAbout server file client (FileRequest.Create other access share (Some ask)) =
    (other ≡ file) × (is_leased_elsewhere server (own_key client ask.lease) file ≡ false)
IsOnlyAbout server file client (FileRequest.Write file_id number patch) = IsOpenOn server file client file_id
IsOnlyAbout server file client request = ⊥

-- the key of a create
abbrev pub own_asked : ℕ → FileRequest → Option Key
own_asked client (FileRequest.Create file access share (Some ask)) = own_key client ask.lease
own_asked client request = None

-- a create under the key of the open
abbrev pub asks_with : Open → Held → Bool
asks_with one held = has_own_key (own_asked held.client held.request) one
