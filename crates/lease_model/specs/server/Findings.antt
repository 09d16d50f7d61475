-- What a look at a request finds: it fails, or it needs leases to be broken, perhaps none.
use Rattle.std.specs.Prelude.{ℕ, Bool, false, Option, Some, None, List, [], if◌then◌else◌, ◌==◌, ◌&&◌, not, find}
use Rattle.std.specs.List.{list_any}
use Rattle.lease_state.specs.declared.access.Access.{Access}
use Rattle.lease_state.specs.declared.access.Share.{Share}
use Rattle.lease_state.specs.declared.patch.Patch.{Patch}
use Rattle.lease_state.specs.declared.status.Status.{Status}
use Rattle.lease_model.specs.messages.Requests.{FileRequest, CreateAsk, LeaseOf}
use Rattle.lease_model.specs.server.Allowed.{conflicts_on}
use Rattle.lease_model.specs.server.Naming.{own_key, key_of_open}
use Rattle.lease_model.specs.server.State.{Server, Open, has_key, has_file}
use Rattle.lease_model.specs.server.Wants.{Want, handle_wants, write_wants, all_wants}
use Rattle.lease_model.specs.values.Keys.{Key}
use Rattle.lease_model.specs.values.Lists.{is_empty}
use Rattle.lease_model.specs.values.Patches.{is_within_limit}
use Rattle.lease_model.specs.values.Sharing.{may_read, may_write}

pub data Finding : Type 0 where
  Fails : (status : Status) → Finding
  Needs : (wants : List Want) → Finding

-- the key has a lease, and on another file (MS-SMB2 3.3.5.9.8)
abbrev pub is_leased_elsewhere : Server → Option Key → ℕ → Bool
is_leased_elsewhere server None file = false
is_leased_elsewhere server (Some key) file =
    list_any (λ one. has_key key one && not (one.file == file)) server.opens

-- A create without a reconnect: first the key's file, then conflicts, then cached writes.
abbrev pub create_finding : Server → Option Key → ℕ → Access → Share → Finding
create_finding server own file access share =
    if is_leased_elsewhere server own file then Finding.Fails Status.InvalidParameter
    else (if list_any (conflicts_on file access share) server.opens
    then (if is_empty (handle_wants server own file access share)
    then Finding.Fails Status.SharingViolation
    else Finding.Needs (handle_wants server own file access share))
    else Finding.Needs (write_wants server own file))

-- A durable open that waits for its client (3.3.5.9.7): not connected, of this client, on this
-- file, under this key.
abbrev pub awaits : ℕ → ℕ → Option Key → ℕ → Open → Bool
awaits client file None file_id one = false
awaits client file (Some key) file_id one =
    one.file_id == file_id && not one.connected && one.client == client && one.file == file && has_key key one

-- a reconnect fails in one way whatever is wrong (profile)
abbrev pub reconnect_finding : Server → ℕ → ℕ → Option Key → ℕ → Finding
reconnect_finding server client file own file_id =
    if list_any (awaits client file own file_id) server.opens
    then Finding.Needs []
    else Finding.Fails Status.ObjectNameNotFound

-- the connected open of this client with this FileId
abbrev pub connected_open : Server → ℕ → ℕ → Option Open
connected_open server client file_id =
    find (λ one. one.file_id == file_id && one.client == client && one.connected) server.opens

-- a write: its access, its end, then the other keys
abbrev pub write_finding : Server → Open → Patch → Finding
write_finding server one patch =
    if may_write one.access
    then (if is_within_limit patch
    then Finding.Needs (all_wants server (key_of_open one) one.file)
    else Finding.Fails Status.InvalidParameter)
    else Finding.Fails Status.AccessDenied

abbrev pub asked_finding : Server → ℕ → ℕ → Access → Share → Option LeaseOf → Option ℕ → Finding
asked_finding server client file access share lease None =
    create_finding server (own_key client lease) file access share
asked_finding server client file access share lease (Some file_id) =
    reconnect_finding server client file (own_key client lease) file_id

abbrev pub read_finding : Open → Finding
read_finding one = if may_read one.access then Finding.Needs [] else Finding.Fails Status.AccessDenied

-- a request by the open that it names (3.3.5.12, 3.3.5.13, 3.3.5.10)
abbrev pub by_open : Option Open → (Open → Finding) → Finding
by_open None found = Finding.Fails Status.FileClosed
by_open (Some one) found = found one

abbrev pub by_contexts : Option CreateAsk → (CreateAsk → Finding) → Finding
by_contexts None found = Finding.Fails Status.InvalidParameter
by_contexts (Some ask) found = found ask

unfoldable pub finding : Server → ℕ → FileRequest → Finding
finding server client (FileRequest.Create file access share contexts) =
    by_contexts contexts (λ ask. if has_file server file
    then asked_finding server client file access share ask.lease ask.reconnect
    else Finding.Fails Status.ObjectNameNotFound)
finding server client (FileRequest.Read file_id) =
    by_open (connected_open server client file_id) read_finding
finding server client (FileRequest.Write file_id number patch) =
    by_open (connected_open server client file_id) (λ one. write_finding server one patch)
finding server client (FileRequest.Close file_id) =
    by_open (connected_open server client file_id) (λ one. Finding.Needs [])
