-- What a host does for what it is told: the files of a server that stands on a manager. It keeps what it asked under each tag,
-- and of each open the file.
use Rattle.std.specs.Prelude.{◌≡◌, ◌==◌, ⊤, ℕ, ◌≤◌, false, Some, None, Option, List, [], ◌∷◌, ◌++◌, map}
use Rattle.lease_state.specs.Content.{patch as patched}
use Rattle.lease_laws.specs.server.Laws.{Among}
use Rattle.lease_model.specs.messages.Replies.{Reply, Out, CreateAnswer}
use Rattle.lease_model.specs.messages.Requests.{FileRequest, Request, LeaseOf}
use Rattle.lease_model.specs.server.Calls.{Call, called}
use Rattle.lease_state.specs.declared.rules.Rules.{Rules}
use Rattle.lease_model.specs.server.Progress.{refusal_of}
use Rattle.lease_model.specs.server.State.{Server, Open, Held, new_server_under}
use Rattle.lease_model.specs.values.Keys.{Key}
use Rattle.lease_model.specs.values.Tables.{put}
use Rattle.manager_model.specs.Bare.{bare, bare_held, bare_request}
use Rattle.manager_model.specs.Decisions.{Decision}
use Rattle.manager_model.specs.Handling.{Handling, Manager, Tagged, acknowledge, cut, expire, is_under, join, receive, scavenge}
use Rattle.manager_model.specs.Handling.{give_up, is_left, leave, withdraw}
use Rattle.lease_model.specs.server.GivingUp.{Extent}

-- A host: the bytes of its files, and of each open, by its FileId, the file.
pub record Host : Type 0 where
  pub contents : ℕ → List ℕ
  pub handles : ℕ → ℕ

-- what a host has done, and what it sent and noted of it
pub record Hosted : Type 0 where
  pub host : Host
  pub outs : List Out

abbrev pub notes : List Out → Hosted → Hosted
notes outs done = record { host = done.host; outs = done.outs ++ outs }

-- the file is opened by a create, and its open has this FileId
abbrev pub opened : ℕ → ℕ → ℕ → CreateAnswer → Option ℕ → Hosted → Hosted
opened client file file_id answer None done = record {
  host = record done.host { handles = put done.host.handles file_id file };
  outs = done.outs ++ Out.Opened file client ∷ Out.Sent client (Reply.Created file file_id (Some answer)) ∷ [];
}
opened client file file_id answer (Some again) done =
    notes (Out.Sent client (Reply.Created file file_id (Some answer)) ∷ []) done

abbrev pub opened_as : ℕ → ℕ → CreateAnswer → FileRequest → Hosted → Hosted
opened_as client file_id answer (FileRequest.Create file access share (Some ask)) done =
    opened client file file_id answer ask.reconnect done
opened_as client file_id answer request done = done

-- the read copies the bytes that are there, and the write puts its own over them
abbrev pub gone_on_with : ℕ → FileRequest → Hosted → Hosted
gone_on_with client (FileRequest.Read file_id) done =
    notes (Out.Sent client (Reply.ReadDone file_id (done.host.contents (done.host.handles file_id))) ∷ []) done
gone_on_with client (FileRequest.Write file_id number patch) done = record {
  host = record done.host {
    contents = put done.host.contents (done.host.handles file_id)
        (patched (done.host.contents (done.host.handles file_id)) patch);
  };
  outs = done.outs ++ Out.Changed (done.host.handles file_id) client number patch
      ∷ Out.Sent client (Reply.WriteDone file_id number) ∷ [];
}
gone_on_with client request done = done

abbrev pub closed_as : ℕ → FileRequest → Hosted → Hosted
closed_as client (FileRequest.Close file_id) done = notes (Out.Sent client (Reply.Closed file_id) ∷ []) done
closed_as client request done = done

-- What a host does for a decision, where this is what it asked under each tag.
abbrev pub does : (ℕ → FileRequest) → Decision → Hosted → Hosted
does requests (Decision.Opened client tag file_id answer) done = opened_as client file_id answer (requests tag) done
does requests (Decision.GoesOn client tag) done = gone_on_with client (requests tag) done
does requests (Decision.Closed client tag) done = closed_as client (requests tag) done
does requests (Decision.Refused client tag status) done =
    notes (Out.Sent client (refusal_of (requests tag) status) ∷ []) done
does requests (Decision.Waits client tag) done = done
does requests (Decision.Withdrawn client tag) done = done
does requests (Decision.Breaks client notice) done = notes (Out.Sent client (Reply.Break (Some notice)) ∷ []) done
does requests (Decision.Acknowledged client given) done = notes (Out.Sent client (Reply.AckDone (Some given)) ∷ []) done
does requests (Decision.NotAcknowledged client status) done = notes (Out.Sent client (Reply.AckFailed status) ∷ []) done
does requests (Decision.Ended file_id) done = done
does requests (Decision.LeftBehind file_id) done = done

-- and for all of them, in their order
unfoldable pub does_all : (ℕ → FileRequest) → List Decision → Hosted → Hosted
does_all requests [] done = done
does_all requests (decision ∷ decisions) done = does_all requests decisions (does requests decision done)

-- ---- what a manager and its host stand for

-- The host has the bytes of the server's files, and its handles are those of the opens.
pub record IsHostOf (host : Host) (server : Server) : Type 0 where
  pub contents : host.contents ≡ server.contents
  pub handles : (one : Open) → Among one server.opens → host.handles one.file_id ≡ one.file
  pub numbered : (one : Open) → Among one server.opens → one.file_id ≤ server.last_id

-- a request that waits, with its bytes
abbrev pub filled : (ℕ → FileRequest) → Tagged → Held
filled requests one = record { client = one.held.client; request = requests one.tag; lane = one.held.lane }

-- what waits is what was asked under the tags, without bytes
abbrev pub AreAsked : (ℕ → FileRequest) → List Tagged → Type 0
AreAsked requests [] = ⊤
AreAsked requests (one ∷ queue) = (one.held ≡ bare_held (filled requests one)) × AreAsked requests queue

-- A manager and its host are this server: the manager is the server without bytes, what waits is what the host asked under
-- the tags, and the host has the rest.
pub record AreServer (requests : ℕ → FileRequest) (manager : Manager) (host : Host) (server : Server) : Type 0 where
  pub without_bytes : manager.server ≡ bare server
  pub waiting : (file : ℕ) → server.held file ≡ map (filled requests) (manager.queues file)
  pub asked : (file : ℕ) → AreAsked requests (manager.queues file)
  pub hosts : IsHostOf host server

-- ---- calls

-- What comes to a manager, as its host knows it.
pub data Coming : Type 0 where
  Joins : (client : ℕ) → Coming
  Asks : (client tag : ℕ) (request : FileRequest) → Coming
  Acknowledges : (client : ℕ) (given : Option LeaseOf) → Coming
  IsCut : (client : ℕ) → Coming
  Expires : (key : Key) → Coming
  Scavenges : (file_id : ℕ) → Coming
  Withdraws : (file client tag : ℕ) → Coming
  GivesUp : (own : Option Key) (file : ℕ) (extent : Extent) → Coming
  Leaves : (client : ℕ) (file_ids tags : List ℕ) → Coming

-- the manager isn't told the bytes
abbrev pub managed : Manager → Coming → Handling
managed manager (Coming.Joins client) = join manager client
managed manager (Coming.Asks client tag request) = receive manager client tag (bare_request request)
managed manager (Coming.Acknowledges client given) = acknowledge manager client given
managed manager (Coming.IsCut client) = cut manager client
managed manager (Coming.Expires key) = expire manager key
managed manager (Coming.Scavenges file_id) = scavenge manager file_id
managed manager (Coming.Withdraws file client tag) = withdraw manager file client tag
managed manager (Coming.GivesUp own file extent) = give_up manager own file extent
managed manager (Coming.Leaves client file_ids tags) = leave manager client file_ids tags

-- The call of the server. What is withdrawn or left is marked where it waits, and it waits on the server where it waits here.
abbrev pub call_of : Manager → Coming → Call
call_of manager (Coming.Joins client) = Call.Join client
call_of manager (Coming.Asks client tag request) = Call.Receive client (Request.OnFile request)
call_of manager (Coming.Acknowledges client given) = Call.Receive client (Request.Acknowledge given)
call_of manager (Coming.IsCut client) = Call.Cut client
call_of manager (Coming.Expires key) = Call.Expire key
call_of manager (Coming.Scavenges file_id) = Call.Scavenge file_id
call_of manager (Coming.Withdraws file client tag) = Call.Withdraw file (map (is_under client tag) (manager.queues file))
call_of manager (Coming.GivesUp own file extent) = Call.GiveUp own file extent
call_of manager (Coming.Leaves client file_ids tags) =
    Call.Leave client file_ids (λ file. map (is_left client tags) (manager.queues file))

-- what the host has then asked under each tag
abbrev pub asked_by : (ℕ → FileRequest) → Coming → ℕ → FileRequest
asked_by requests (Coming.Asks client tag request) = put requests tag request
asked_by requests coming = requests

-- a tag under which a request waits isn't used for another one
abbrev pub HasFreeTag : Manager → Coming → Type 0
HasFreeTag manager (Coming.Asks client tag request) =
    (file : ℕ) (one : Tagged) → Among one (manager.queues file) → (one.tag == tag) ≡ false
HasFreeTag manager coming = ⊤

-- what the host has done once it did all that it was told, in order
abbrev pub hosted : (ℕ → FileRequest) → Host → Handling → Hosted
hosted requests host now = does_all requests now.told (record { host = host; outs = [] })

-- ---- whole runs

-- each request comes under a tag under which none waits
abbrev pub HaveFreeTags : Manager → List Coming → Type 0
HaveFreeTags manager [] = ⊤
HaveFreeTags manager (coming ∷ comings) =
    HasFreeTag manager coming × HaveFreeTags (managed manager coming).manager comings

-- what a host has sent and noted of each thing that came
abbrev pub hosted_along : (ℕ → FileRequest) → Manager → Host → List Coming → List (List Out)
hosted_along requests manager host [] = []
hosted_along requests manager host (coming ∷ comings) =
    (hosted (asked_by requests coming) host (managed manager coming)).outs
    ∷ hosted_along (asked_by requests coming) (managed manager coming).manager
    (hosted (asked_by requests coming) host (managed manager coming)).host comings

-- the calls of the server
abbrev pub calls_along : Manager → List Coming → List Call
calls_along manager [] = []
calls_along manager (coming ∷ comings) = call_of manager coming ∷ calls_along (managed manager coming).manager comings

-- what a server gives out for each
abbrev pub given_along : Server → List Call → List (List Out)
given_along server [] = []
given_along server (call ∷ calls) = (called server call).outs ∷ given_along (called server call).server calls

-- a server of these rules with these files, that no client has joined
abbrev pub fresh_server : Rules → ℕ → (ℕ → List ℕ) → Server
fresh_server rules files contents = record (new_server_under rules []) { files = files; contents = contents }

-- its manager, where nothing waits
abbrev pub fresh_manager : Rules → ℕ → Manager
fresh_manager rules files = record { server = fresh_server rules files (λ file. []); queues = λ file. [] }
