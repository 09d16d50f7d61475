-- What is done at once: a request that has to ask nobody and to wait for nothing.
use Rattle.std.specs.Prelude.{◌≡◌, ◌⊎◌, ℕ, Bool, true, false, Result, Ok, Err, List, [], ◌∷◌, ◌&&◌, not}
use Rattle.std.specs.List.{list_any}
use Rattle.lease_model.specs.messages.Requests.{FileRequest}
use Rattle.lease_model.specs.server.Calls.{file_asked}
use Rattle.lease_model.specs.server.Findings.{Finding, finding}
use Rattle.lease_model.specs.server.Lanes.{as_held, is_behind}
use Rattle.lease_model.specs.server.Ready.{is_ready}
use Rattle.lease_model.specs.server.Naming.{key_of_open}
use Rattle.lease_model.specs.server.State.{Held, Lease, Open, Server}
use Rattle.lease_model.specs.values.Keys.{Key}
use Rattle.lease_model.specs.values.Sharing.{may_write}
use Rattle.lease_state.specs.declared.status.Status.{Status}
use Rattle.manager_model.specs.Decisions.{Decision}
use Rattle.manager_model.specs.Handling.{Handling, Manager, receive}
use Rattle.lease_manager.specs.Hindering.{is_hinderer}
use Rattle.lease_manager.specs.Requests.{patch_like}
use Rattle.lease_manager.specs.Table.{Table, manager_of, server_of}

-- a look at the request finds that it can be answered
abbrev pub is_answerable : FileRequest → (Key → Lease) → Finding → Bool
is_answerable request leases (Finding.Fails status) = false
is_answerable request leases (Finding.Needs wants) = is_ready request leases wants

-- it comes to a file, and waits behind none there
abbrev pub has_its_turn : Server → Held → Result ℕ Status → Bool
has_its_turn server one (Err status) = false
has_its_turn server one (Ok file) = not (is_behind server.rules one (server.held file))

-- The request can be answered at its first look and waits behind none: nothing has to be broken, nor waited for.
abbrev pub goes_at_once : Server → ℕ → FileRequest → Bool
goes_at_once server client request = is_answerable request server.leases (finding server client request)
    && has_its_turn server (as_held server client request) (file_asked server client request)

-- the open may write, and no lease of another key on its file hinders that
abbrev pub is_free : Server → Open → Bool
is_free server one =
    may_write one.access && not (list_any (is_hinderer server (key_of_open one) one.file) server.opens)

-- The request is told to go on, and nothing else is told; opens, leases and what waits stay.
pub record GoesOnly (manager : Manager) (tag client : ℕ) (after : Handling) : Type 0 where
  pub told : after.told ≡ Decision.GoesOn client tag ∷ []
  pub opens : after.manager.server.opens ≡ manager.server.opens
  pub leases : after.manager.server.leases ≡ manager.server.leases
  pub queues : after.manager.queues ≡ manager.queues

-- a write by the FileId that ends within the limit of a file
abbrev pub write_within : ℕ → FileRequest
write_within file_id = FileRequest.Write file_id 0 (patch_like true)

-- So it is of a request for which that is so.
abbrev pub GoesOnAsToldFor : Table → (ℕ → FileRequest) → Type 0
GoesOnAsToldFor table request_by = (client tag file_id : ℕ) → goes_at_once (server_of table) client (request_by file_id) ≡ true
    → GoesOnly (manager_of table) tag client (receive (manager_of table) client tag (request_by file_id))

abbrev pub ReadsGoOnAsTold : Table → Type 0
ReadsGoOnAsTold table = GoesOnAsToldFor table (λ file_id. FileRequest.Read file_id)

abbrev pub WritesGoOnAsTold : Table → Type 0
WritesGoOnAsTold table = GoesOnAsToldFor table write_within

-- The request isn't done: nothing is told, its client not being connected; or it is refused, or waits.
abbrev pub IsNotDone : ℕ → ℕ → List Decision → Type 0
IsNotDone tag client told = (told ≡ []) ⊎ (((status : Status) × (told ≡ Decision.Refused client tag status ∷ []))
    ⊎ (told ≡ Decision.Waits client tag ∷ []))

-- So it is of a read for which that isn't so.
abbrev pub ReadsElseAreNotDone : Table → Type 0
ReadsElseAreNotDone table = (client tag file_id : ℕ) → goes_at_once (server_of table) client (FileRequest.Read file_id) ≡ false
    → IsNotDone tag client (receive (manager_of table) client tag (FileRequest.Read file_id)).told
