-- What numbers and bytes from C ask of a server.
use Rattle.std.specs.Prelude.{ℕ, Bool, not, List, Option, Some, None}
use Rattle.std.specs.List.{list_any}
use Rattle.lease_state.specs.declared.access.Access.{Access}
use Rattle.lease_state.specs.declared.access.Share.{Share}
use Rattle.lease_wire.specs.Gathering.{value_of}
use Rattle.lease_wire.specs.declared.create.Direction.{Direction}
use Rattle.lease_model.specs.messages.FromBytes.{ask_found, acknowledged_in}
use Rattle.lease_model.specs.messages.Requests.{Request, FileRequest}
use Rattle.lease_model.specs.server.Calls.{is_left_behind}
use Rattle.lease_model.specs.server.Naming.{key_of}
use Rattle.lease_model.specs.server.Queries as queries
use Rattle.lease_model.specs.server.State.{Server}
use Rattle.machines_c.specs.handles.Codes.{access_of, share_of}

-- a create with this access and this share, where the numbers stand for them
abbrev pub create_with : ℕ → List ℕ → Option Access → Option Share → Option Request
create_with file contexts (Some access) (Some share) =
    Some (Request.OnFile (FileRequest.Create file access share (ask_found (value_of Direction.Request contexts))))
create_with file contexts (Some access) None = None
create_with file contexts None share = None

abbrev pub create_asked : ℕ → ℕ → ℕ → List ℕ → Option Request
create_asked file access share contexts = create_with file contexts (access_of access) (share_of share)

abbrev pub read_asked : ℕ → Request
read_asked file_id = Request.OnFile (FileRequest.Read file_id)

abbrev pub write_asked : ℕ → ℕ → ℕ → List ℕ → Request
write_asked file_id number offset bytes =
    Request.OnFile (FileRequest.Write file_id number (record { offset = offset; bytes = bytes }))

abbrev pub close_asked : ℕ → Request
close_asked file_id = Request.OnFile (FileRequest.Close file_id)

abbrev pub acknowledged : List ℕ → Request
acknowledged bytes = Request.Acknowledge (acknowledged_in bytes)

-- when a call does nothing
abbrev pub is_present : ℕ → Server → Bool
is_present client server = server.present client

abbrev pub is_absent : ℕ → Server → Bool
is_absent client server = not (server.present client)

abbrev pub is_settled : ℕ → List ℕ → Server → Bool
is_settled client key server = not (queries.breaking server (key_of client key))

abbrev pub is_gone : ℕ → Server → Bool
is_gone file_id server = not (list_any (is_left_behind file_id) server.opens)
