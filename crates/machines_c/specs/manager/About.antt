-- The files that a call of a manager is about, by what it knows before: where changes are tried again that wait.
use Rattle.std.specs.Prelude.{ℕ, List, [], ◌∷◌, Option, Some, None, map, filter, find, if◌then◌else◌}
use Rattle.std.specs.List.{list_any}
use Rattle.lease_manager.specs.Filed.{has_id}
use Rattle.lease_manager.specs.Parting.{is_connected_of}
use Rattle.lease_model.specs.messages.Requests.{FileRequest}
use Rattle.lease_model.specs.server.Calls.{is_left_behind}
use Rattle.lease_model.specs.server.Queries as queries
use Rattle.lease_model.specs.server.State.{Open, has_key}
use Rattle.lease_model.specs.values.Keys.{Key}
use Rattle.lease_manager.specs.declared.values.number.FileNo.{FileNo}
use Rattle.manager_model.specs.Handling.{Manager, is_under}

abbrev pub nowhere : Manager → List ℕ
nowhere manager = []

abbrev pub at : ℕ → Manager → List ℕ
at file manager = file ∷ []

abbrev pub file_of : Option Open → List ℕ
file_of None = []
file_of (Some one) = one.file ∷ []

-- the file of the open of this FileId
abbrev pub at_open : ℕ → Manager → List ℕ
at_open file_id manager = file_of (find (has_id file_id) manager.server.opens)

-- the file of the key's opens
abbrev pub at_key : Key → Manager → List ℕ
at_key key manager = file_of (find (has_key key) manager.server.opens)

-- those of the client's connected opens
abbrev pub at_client : ℕ → Manager → List ℕ
at_client client manager = map (λ one. one.file) (filter (is_connected_of client) manager.server.opens)

-- ---- a call that does nothing is about none

abbrev pub if_present : ℕ → (Manager → List ℕ) → Manager → List ℕ
if_present client files manager = if manager.server.present client then files manager else []

abbrev pub if_breaking : Key → (Manager → List ℕ) → Manager → List ℕ
if_breaking key files manager = if queries.breaking manager.server key then files manager else []

abbrev pub if_left : ℕ → (Manager → List ℕ) → Manager → List ℕ
if_left file_id files manager = if list_any (is_left_behind file_id) manager.server.opens then files manager else []

abbrev pub if_waiting : ℕ → ℕ → ℕ → (Manager → List ℕ) → Manager → List ℕ
if_waiting file client tag files manager = if list_any (is_under client tag) (manager.queues file) then files manager else []

-- of the requests only a close is about any
abbrev pub closed_by : ℕ → FileRequest → Manager → List ℕ
closed_by client (FileRequest.Close file_id) manager = if_present client (at_open file_id) manager
closed_by client request manager = []

-- a break's timer that ran out is about the file of its lease
abbrev pub expired_at : Option Key → Manager → List ℕ
expired_at None manager = []
expired_at (Some key) manager = if_breaking key (at_key key) manager

-- a file that was looked for, as a list of none or one
abbrev pub listed : Option FileNo → List ℕ
listed None = []
listed (Some file) = file.0 ∷ []
