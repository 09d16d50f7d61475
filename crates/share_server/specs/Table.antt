-- What a server knows, and the server of the rules that this stands for.
use Rattle.std.specs.Prelude.{◌≡◌, ◌==◌, ℕ, ◌<◌, suc, List, [], ◌∷◌, map, if◌then◌else◌}
use Rattle.lease_laws.specs.server.Laws.{Among, IsSound}
use Rattle.lease_manager.specs.Table as managed
use Rattle.lease_model.specs.messages.Requests.{FileRequest}
use Rattle.lease_model.specs.messages.Replies.{Out}
use Rattle.lease_model.specs.server.Calls.{Call, called}
use Rattle.lease_model.specs.server.State.{Server, Open}
use Rattle.lease_model.specs.values.Tables.{numbered, put}
use Rattle.manager_model.specs.Answering.{IsOnce, answers}
use Rattle.manager_model.specs.Decisions.{Decision}
use Rattle.manager_model.specs.Handling.{Manager, Tagged, handling}
use Rattle.manager_model.specs.Hosting.{AreAsked, Host, Hosted, does_all, filled}

-- The files' contents, numbered from 1, of each open the file, what was asked under each tag and wasn't answered yet, and the
-- next tag.
pub record Kept : Type 0 where
  pub contents : List (List ℕ)
  pub handles : List (ℕ × ℕ)
  pub requests : List (ℕ × FileRequest)
  pub next : ℕ

-- what a server knows: what its manager knows, and what it keeps itself
pub record Table : Type 0 where
  pub manager : managed.Table
  pub kept : Kept

-- ---- maps as functions

-- the value at a number, and another one where it has none
abbrev pub at_number : {X : Type 0} → X → List (ℕ × X) → ℕ → X
at_number other [] n = other
at_number other (entry ∷ entries) n = if n == entry.0 then entry.1 else at_number other entries n

-- the file of an open, by its FileId; 0 is none
abbrev pub handles_in : List (ℕ × ℕ) → ℕ → ℕ
handles_in handles = at_number 0 handles

-- what nothing was asked under
abbrev pub no_request : FileRequest
no_request = FileRequest.Close 0

abbrev pub requests_in : List (ℕ × FileRequest) → ℕ → FileRequest
requests_in requests = at_number no_request requests

-- ---- what it stands for

-- the host that does what the manager decides
abbrev pub host_of : Kept → Host
host_of kept = record { contents = numbered [] kept.contents; handles = handles_in kept.handles }

abbrev pub hosted : (ℕ → List ℕ) → (ℕ → ℕ) → List Out → Hosted
hosted contents handles outs = record { host = record { contents = contents; handles = handles }; outs = outs }

abbrev pub hosted_of : Kept → List Out → Hosted
hosted_of kept outs = hosted (numbered [] kept.contents) (handles_in kept.handles) outs

-- the manager's server, with the bytes of its files and of what waits
abbrev pub server_from : (ℕ → FileRequest) → Manager → Host → Server
server_from requests manager host = record manager.server {
  contents = host.contents;
  held = λ file. map (filled requests) (manager.queues file);
}

abbrev pub server_of : Table → Server
server_of table = server_from (requests_in table.kept.requests) (managed.manager_of table.manager) (host_of table.kept)

-- The server is sound; what waits was asked under its tag, at most one request under each,
-- all of them below the next; and each open has a handle.
pub record IsServer (table : Table) : Type 0 where
  pub sound : IsSound (server_of table)
  pub asked : (file : ℕ) → AreAsked (requests_in table.kept.requests)
      (managed.queue_at table.manager.queues file)
  pub once : (tag : ℕ) → IsOnce tag (handling (managed.manager_of table.manager))
  pub below : (file : ℕ) (one : Tagged) → Among one (managed.queue_at table.manager.queues file) → one.tag < table.kept.next
  pub handles : (one : Open) → Among one table.manager.opens
      → handles_in table.kept.handles one.file_id ≡ one.file

-- ---- what a host does

-- what is kept of files with these contents, of which none is open
abbrev pub fresh_kept : List (List ℕ) → Kept
fresh_kept contents = record { contents = contents; handles = []; requests = []; next = 0 }

-- The request was asked under the next tag.
pub record HasAsked (request : FileRequest) (old new : Kept) : Type 0 where
  pub requests : requests_in new.requests ≡ put (requests_in old.requests) old.next request
  pub next : new.next ≡ suc old.next
  pub contents : new.contents ≡ old.contents
  pub handles : new.handles ≡ old.handles

-- The decisions were carried out, in their order, and what they don't answer is asked still.
pub record HasDone (told : List Decision) (old new : Kept) (before after : List Out) : Type 0 where
  pub done : hosted_of new after ≡ does_all (requests_in old.requests) told (hosted_of old before)
  pub left : (tag : ℕ) → answers tag told ≡ 0 → requests_in new.requests tag ≡ requests_in old.requests tag
  pub next : new.next ≡ old.next

-- Only handles of other opens than these went.
pub record HasLetGo (opens : List Open) (old new : Kept) : Type 0 where
  pub handles : (one : Open) → Among one opens → handles_in new.handles one.file_id ≡ handles_in old.handles one.file_id
  pub contents : new.contents ≡ old.contents
  pub requests : new.requests ≡ old.requests
  pub next : new.next ≡ old.next

-- The decisions were carried out, and no handle of these opens went.
pub record HasSettled (told : List Decision) (opens : List Open) (old new : Kept) (before after : List Out) : Type 0 where
  pub middle : Kept
  pub done : HasDone told old middle before after
  pub let_go : HasLetGo opens middle new

abbrev pub table_of : managed.Table → Kept → Table
table_of manager kept = record { manager = manager; kept = kept }

-- The table is that of the server after the call, and these are what it gave out.
pub record IsCalled (old : Table) (call : Call) (new : Table) (given : List Out) : Type 0 where
  pub server : server_of new ≡ (called (server_of old) call).server
  pub outs : given ≡ (called (server_of old) call).outs
  pub is : IsServer new
