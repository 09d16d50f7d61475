-- What forgetting the bytes leaves as it is.
use Rattle.std.specs.Prelude.{◌≡◌, ℕ, ◌<◌, true, List, length}
use Rattle.lease_model.specs.server.Calls.{Call, called}
use Rattle.lease_model.specs.server.State.{Server}
use Rattle.manager_model.specs.Bare.{bare, bare_call, bare_progress}
use Rattle.lease_model.specs.messages.Requests.{FileRequest}
use Rattle.lease_state.specs.declared.rules.Rules.{Rules}
use Rattle.manager_model.specs.Hosting.{AreServer, Coming, HasFreeTag, HaveFreeTags, Host, asked_by, call_of, calls_along}
use Rattle.manager_model.specs.Hosting.{fresh_manager}
use Rattle.manager_model.specs.Hosting.{fresh_server, given_along, hosted, hosted_along, managed}
use Rattle.manager_model.specs.Handling.{Handling, Manager, all_passes, one_pass, passes, passes_for, passes_over}
use Rattle.manager_model.specs.Waiting.{AreWaitingFiles}

-- A call of a server without bytes makes of it, and gives out, what the call makes of the server, and gives out, without
-- the bytes.
abbrev pub BytesDecideNothing : Type 0
BytesDecideNothing = (server : Server) (call : Call)
    → called (bare server) (bare_call call) ≡ bare_progress (called server call)

-- ---- passes of a manager

-- A pass that answered a request leaves fewer to wait on its file,
abbrev pub PassesAnswer : Type 0
PassesAnswer = (file : ℕ) (now : Handling) → (one_pass file now).has_answered ≡ true
    → length ((one_pass file now).now.manager.queues file) < length (now.manager.queues file)

-- so with more passes than requests wait on a file, however many, the same is done.
abbrev pub PassesAreEnough : Type 0
PassesAreEnough = (count file : ℕ) (now : Handling) → length (now.manager.queues file) < count
    → passes_for count file now ≡ passes file now

-- Passes over all files are passes over those where requests wait.
abbrev pub FilesAreEnough : Type 0
FilesAreEnough = (files : List ℕ) (now : Handling) → AreWaitingFiles now.manager.server.files now.manager.queues files
    → all_passes now ≡ passes_over files now

-- ---- hosts

-- A manager and a host that does what it is told are the server: after whatever comes, and what was sent and noted of it is
-- what the server gives out, in its order.
abbrev pub HostsAreServers : Type 0
HostsAreServers = (requests : ℕ → FileRequest) (manager : Manager) (host : Host) (server : Server) (coming : Coming)
    → AreServer requests manager host server → HasFreeTag manager coming
    → AreServer (asked_by requests coming) (managed manager coming).manager
    (hosted (asked_by requests coming) host (managed manager coming)).host (called server (call_of manager coming)).server
    × ((hosted (asked_by requests coming) host (managed manager coming)).outs ≡ (called server (call_of manager coming)).outs)

-- So it is along every list of what comes, from the first on.
abbrev pub RunsOfHosts : Type 0
RunsOfHosts = (rules : Rules) (files : ℕ) (contents : ℕ → List ℕ) (handles : ℕ → ℕ) (requests : ℕ → FileRequest)
    (comings : List Coming) → HaveFreeTags (fresh_manager rules files) comings
    → hosted_along requests (fresh_manager rules files) (record { contents = contents; handles = handles }) comings
    ≡ given_along (fresh_server rules files contents) (calls_along (fresh_manager rules files) comings)
