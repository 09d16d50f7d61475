-- What a host is told of opens that are no more.
use Rattle.std.specs.Prelude.{◌≡◌, ◌⊎◌, ℕ, ◌+◌, ◌≤◌, ◌<◌, Bool, false, List, ◌==◌}
use Rattle.std.specs.List.{count_by}
use Rattle.lease_laws.specs.server.Laws.{Among, IsSound}
use Rattle.lease_model.specs.messages.Requests.{FileRequest}
use Rattle.lease_model.specs.server.State.{Open, Server}
use Rattle.manager_model.specs.Bare.{bare_request}
use Rattle.manager_model.specs.Decisions.{Decision}
use Rattle.manager_model.specs.Handling.{Manager, Tagged, is_open}
use Rattle.manager_model.specs.Hosting.{AreAsked, Coming, HasFreeTag, asked_by, managed}

-- a request that waits
abbrev pub Waited : Manager → Tagged → Type 0
Waited manager one = (file : ℕ) × Among one (manager.queues file)

-- or one that comes
abbrev pub WasAsked : Manager → Coming → Tagged → Type 0
WasAsked manager coming one = Waited manager one ⊎ ((request : FileRequest)
    × (coming ≡ Coming.Asks one.held.client one.tag request) × (one.held.request ≡ bare_request request))

-- The open is told to have ended, or to be closed by one of these requests.
abbrev pub IsToldOf : (Tagged → Type 0) → List Decision → ℕ → Type 0
IsToldOf Asked told file_id = Among (Decision.Ended file_id) told
    ⊎ ((one : Tagged) × Asked one × (one.held.request ≡ FileRequest.Close file_id)
    × Among (Decision.Closed one.held.client one.tag) told)

-- So it is of each open that is there before a call and isn't after it.
abbrev pub EndsAreTold : Type 0
EndsAreTold = (manager : Manager) (coming : Coming) (one : Open) → Among one manager.server.opens
    → is_open (managed manager coming).manager.server one ≡ false
    → IsToldOf (WasAsked manager coming) (managed manager coming).told one.file_id

-- ---- and no other is

-- how many opens of a server have the FileId: of a sound one, one at most
abbrev pub opens_of : ℕ → Server → ℕ
opens_of file_id server = count_by (λ (one : Open). one.file_id == file_id) server.opens

-- how often it is told that one ended
abbrev pub is_end : ℕ → Decision → Bool
is_end file_id (Decision.Ended other) = other == file_id
is_end file_id decision = false

abbrev pub ends_of : ℕ → List Decision → ℕ
ends_of file_id told = count_by (is_end file_id) told

-- and how often that a close is done that was asked for it, where this is what was asked under each tag
abbrev pub is_close : FileRequest → ℕ → Bool
is_close (FileRequest.Close other) file_id = other == file_id
is_close request file_id = false

abbrev pub is_closed : (ℕ → FileRequest) → ℕ → Decision → Bool
is_closed requests file_id (Decision.Closed client tag) = is_close (requests tag) file_id
is_closed requests file_id decision = false

abbrev pub closes_of : (ℕ → FileRequest) → ℕ → List Decision → ℕ
closes_of requests file_id told = count_by (is_closed requests file_id) told

-- Of an open that was there one of these is so, once: it is there, or it is told that it ended, or that its close is done.
-- Of none that came since it is told that it ended.
abbrev pub EndsAreExact : Type 0
EndsAreExact = (requests : ℕ → FileRequest) (manager : Manager) (coming : Coming) (file_id : ℕ) → IsSound manager.server
    → ((file : ℕ) → AreAsked requests (manager.queues file)) → HasFreeTag manager coming
    → (file_id ≤ manager.server.last_id
    → opens_of file_id (managed manager coming).manager.server
    + ends_of file_id (managed manager coming).told
    + closes_of (asked_by requests coming) file_id (managed manager coming).told ≡ opens_of file_id manager.server)
    × (manager.server.last_id < file_id → ends_of file_id (managed manager coming).told ≡ 0)
