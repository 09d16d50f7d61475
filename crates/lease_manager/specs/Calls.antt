-- A call of a manager is a call of its server: what it makes of the server, and what is told of what the server gives out.
use Rattle.std.specs.Prelude.{◌≡◌, List, [], ◌∷◌, flat_map}
use Rattle.lease_model.specs.server.Calls.{called}
use Rattle.lease_model.specs.server.Progress.{Progress}
use Rattle.manager_model.specs.Decisions.{Decision, told_of}
use Rattle.manager_model.specs.Handling.{Handling, IsTagged, Manager, receive}
use Rattle.manager_model.specs.Hosting.{Coming, call_of, managed}

-- Of what is told that which a server gives out, without tags: a server gives nothing out where a request begins to wait or is
-- taken back, or where an open ends or waits for its client.
abbrev pub untagged_of : Decision → List Decision
untagged_of (Decision.Opened client tag file_id answer) = Decision.Opened client 0 file_id answer ∷ []
untagged_of (Decision.GoesOn client tag) = Decision.GoesOn client 0 ∷ []
untagged_of (Decision.Closed client tag) = Decision.Closed client 0 ∷ []
untagged_of (Decision.Refused client tag status) = Decision.Refused client 0 status ∷ []
untagged_of (Decision.Waits client tag) = []
untagged_of (Decision.Withdrawn client tag) = []
untagged_of (Decision.Breaks client notice) = Decision.Breaks client notice ∷ []
untagged_of (Decision.Acknowledged client given) = Decision.Acknowledged client given ∷ []
untagged_of (Decision.NotAcknowledged client status) = Decision.NotAcknowledged client status ∷ []
untagged_of (Decision.Ended file_id) = []
untagged_of (Decision.LeftBehind file_id) = []

abbrev pub untagged : List Decision → List Decision
untagged told = flat_map untagged_of told

-- what a manager does with what comes, where a request comes as it is
abbrev pub handled_by : Manager → Coming → Handling
handled_by manager (Coming.Asks client tag request) = receive manager client tag request
handled_by manager coming = managed manager coming

-- A call of a manager and one of its server have gone so far alike.
--   server: the manager has that server
--   tagged: what waits on it is what waits in the manager
--   told: what is told is what the server gave out
pub record GoesAs (now : Handling) (progress : Progress) : Type 0 where
  pub server : now.manager.server ≡ progress.server
  pub tagged : IsTagged now.manager
  pub told : untagged now.told ≡ told_of 0 progress.outs

-- So each call goes, whatever tags requests come under.
abbrev pub ManagersAreServers : Type 0
ManagersAreServers = (manager : Manager) (coming : Coming) → IsTagged manager
    → GoesAs (handled_by manager coming) (called manager.server (call_of manager coming))
