-- What the server does for a request that is ready, and with one that is refused.
use Rattle.std.specs.Prelude.{ℕ, Bool, Option, Some, None, [], ◌∷◌, ◌==◌}
use Rattle.lease_state.specs.declared.access.Access.{Access}
use Rattle.lease_state.specs.declared.access.Share.{Share}
use Rattle.lease_model.specs.server.Attempt.{Outcome}
use Rattle.lease_state.specs.declared.patch.Patch.{Patch}
use Rattle.lease_state.specs.Content.{patch as patched}
use Rattle.lease_model.specs.server.Grant.{granted, reconnected}
use Rattle.lease_model.specs.server.Progress.{Progress, stepped, opens_dropped, replied, refused}
use Rattle.lease_model.specs.messages.Replies.{Reply, Out}
use Rattle.lease_model.specs.messages.Requests.{FileRequest, CreateAsk, LeaseOf}
use Rattle.lease_model.specs.server.State.{Open}
use Rattle.lease_model.specs.values.Tables.{put}
use Rattle.lease_model.specs.server.Findings.{connected_open}

-- A write is done (MS-SMB2 3.3.5.13): the file is changed, and the reply follows directly.
abbrev pub changed : ℕ → ℕ → ℕ → ℕ → Patch → Progress → Progress
changed client file file_id number patch progress = stepped progress
    (record progress.server {
      contents = put progress.server.contents file (patched (progress.server.contents file) patch);
    })
    (Out.Changed file client number patch ∷ Out.Sent client (Reply.WriteDone file_id number) ∷ [])

-- a read gives the whole file (profile; 3.3.5.12)
abbrev pub read_done : ℕ → ℕ → ℕ → Progress → Progress
read_done client file file_id progress =
    replied client (Reply.ReadDone file_id (progress.server.contents file)) progress

-- an open is closed (3.3.5.10)
abbrev pub closed : ℕ → ℕ → Progress → Progress
closed client file_id progress = replied client (Reply.Closed file_id)
    (opens_dropped (λ one. one.file_id == file_id) progress)

abbrev pub created : ℕ → ℕ → Access → Share → Option LeaseOf → Bool → Option ℕ → Progress → Progress
created client file access share asked durable None progress =
    granted client file access share asked durable progress
created client file access share asked durable (Some file_id) progress =
    reconnected client file asked file_id progress

abbrev pub on_open : Option Open → (ℕ → Progress → Progress) → Progress → Progress
on_open None done progress = progress
on_open (Some one) done progress = done one.file progress

abbrev pub on_contexts : Option CreateAsk → (CreateAsk → Progress → Progress) → Progress → Progress
on_contexts None done progress = progress
on_contexts (Some ask) done progress = done ask progress

-- A request that is ready is answered. (A ready request has its open, or its contexts.)
unfoldable pub answered : ℕ → FileRequest → Progress → Progress
answered client (FileRequest.Create file access share contexts) progress = on_contexts contexts
    (λ ask. created client file access share ask.lease ask.durable ask.reconnect) progress
answered client (FileRequest.Read file_id) progress = on_open (connected_open progress.server client file_id)
    (λ file. read_done client file file_id) progress
answered client (FileRequest.Write file_id number patch) progress = on_open
    (connected_open progress.server client file_id)
    (λ file. changed client file file_id number patch) progress
answered client (FileRequest.Close file_id) progress = on_open (connected_open progress.server client file_id)
    (λ file. closed client file_id) progress

-- the end of a try that doesn't wait
abbrev pub concluded : ℕ → FileRequest → Progress → Outcome → Progress
concluded client request progress (Outcome.Refused status) = refused client request status progress
concluded client request progress Outcome.Waits = progress
concluded client request progress Outcome.Ready = answered client request progress
