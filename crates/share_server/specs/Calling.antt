-- A call under way: the manager made it, and its decisions are to be carried out.
use Rattle.std.specs.Prelude.{◌≡◌, ℕ, ◌<◌, List}
use Rattle.lease_manager.specs.Table as managed
use Rattle.lease_model.specs.messages.Requests.{FileRequest}
use Rattle.manager_model.specs.Decisions.{Decision}
use Rattle.manager_model.specs.Hosting.{Coming, HasFreeTag, asked_by, managed}
use Rattle.share_server.specs.Table.{IsServer, Kept, Table, host_of, requests_in}

-- What comes is asked by the host under a tag of its own.
pub record Comes (old : Table) (coming : Coming) (kept : Kept) : Type 0 where
  pub free : HasFreeTag (managed.manager_of old.manager) coming
  pub requests : requests_in kept.requests ≡ asked_by (requests_in old.kept.requests) coming
  pub host : host_of kept ≡ host_of old.kept
  pub later : (tag : ℕ) → tag < old.kept.next → tag < kept.next
  pub own : (client tag : ℕ) (request : FileRequest) → coming ≡ Coming.Asks client tag request → tag < kept.next

-- The manager of a server did with what came as the rules do, and told these decisions.
pub record IsUnderWay (manager : managed.Table) (told : List Decision) (kept : Kept) : Type 0 where
  pub old : Table
  pub coming : Coming
  pub is : IsServer old
  pub comes : Comes old coming kept
  pub same : managed.manager_of manager ≡ (managed (managed.manager_of old.manager) coming).manager
  pub said : told ≡ (managed (managed.manager_of old.manager) coming).told
