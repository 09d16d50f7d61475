-- What servers and client machines write has bytes, and reading them gives it back.
use Rattle.std.specs.Prelude.{◌≡◌, ◌<◌, ◌^◌, ⊤, ℕ, List, [], ◌∷◌, length, Some, IfSome}
use Rattle.lease_model.specs.client.Calls.{ClientCall, client_called}
use Rattle.lease_model.specs.client.State.{Client, Phase}
use Rattle.lease_model.specs.messages.FromBytes.{request_of, reply_of}
use Rattle.lease_model.specs.messages.Replies.{Reply, Out}
use Rattle.lease_model.specs.messages.Requests.{FileRequest, Request}
use Rattle.lease_model.specs.messages.ToBytes.{request_written, reply_written, HasRequestBytes, HasReplyBytes}
use Rattle.lease_model.specs.server.Calls.{Call, called}
use Rattle.lease_model.specs.server.State.{Server, Open, Held}
use Rattle.lease_laws.specs.server.Laws.{Among, IsSound}
use Rattle.lease_laws.specs.server.Outs.{EachOut}
use Rattle.lease_laws.specs.server.Waiting.{WaitsWell}

-- ---- what has bytes is read back

abbrev pub RequestsAreReadBack : Type 0
RequestsAreReadBack = (request : Request) → HasRequestBytes request → request_of (request_written request) ≡ request

abbrev pub RepliesAreReadBack : Type 0
RepliesAreReadBack = (reply : Reply) → HasReplyBytes reply → reply_of (reply_written reply) ≡ reply

-- ---- replies of a server

-- a create names a key of 16 bytes, or none
abbrev pub HasFullKey : FileRequest → Type 0
HasFullKey (FileRequest.Create file access share (Some ask)) = IfSome ask.lease (λ lease. length lease.key ≡ 16)
HasFullKey request = ⊤

-- so do the opens and the held requests of a server
pub record HaveFullKeys (server : Server) : Type 0 where
  pub opens : (one : Open) (bytes : List ℕ) → Among one server.opens → one.lease_key ≡ Some bytes → length bytes ≡ 16
  pub held : (file : ℕ) (one : Held) → Among one (server.held file) → HasFullKey one.request

abbrev pub CallHasFullKey : Call → Type 0
CallHasFullKey (Call.Receive client (Request.OnFile request)) = HasFullKey request
CallHasFullKey call = ⊤

abbrev pub OutHasBytes : Out → Type 0
OutHasBytes (Out.Sent client reply) = HasReplyBytes reply
OutHasBytes out = ⊤

-- Where keys have 16 bytes, every reply has bytes, and keys have 16 bytes after the call.
abbrev pub RepliesHaveBytes : Type 0
RepliesHaveBytes = (server : Server) (call : Call) → IsSound server → WaitsWell server → HaveFullKeys server
    → CallHasFullKey call → EachOut OutHasBytes (called server call).outs × HaveFullKeys (called server call).server

-- ---- requests of a client machine

abbrev pub HasFileId : Phase → Type 0
HasFileId (Phase.Live live) = live.file_id < 2 ^ 64
HasFileId (Phase.Offline parted) = parted.file_id < 2 ^ 64
HasFileId (Phase.Reconnecting parted) = parted.file_id < 2 ^ 64
HasFileId phase = ⊤

-- its ClientGuid has 16 bytes, and the FileIds of its entries fit their field
pub record IsWriting (client : Client) : Type 0 where
  pub guid : length client.guid ≡ 16
  pub file_ids : (file : ℕ) → HasFileId (client.entries file).phase

abbrev pub CallHasFileId : ClientCall → Type 0
CallHasFileId (ClientCall.Taken (Reply.Created file file_id contexts)) = file_id < 2 ^ 64
CallHasFileId call = ⊤

abbrev pub EachRequest : (Request → Type 0) → List Request → Type 0
EachRequest Holds [] = ⊤
EachRequest Holds (request ∷ requests) = Holds request × EachRequest Holds requests

-- Every request of such a client has bytes, and it stays such a client.
abbrev pub RequestsHaveBytes : Type 0
RequestsHaveBytes = (client : Client) (call : ClientCall) → IsWriting client → CallHasFileId call
    → EachRequest HasRequestBytes (client_called client call).requests
    × IsWriting (client_called client call).client
