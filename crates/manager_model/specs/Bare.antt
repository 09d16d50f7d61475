-- A server without the bytes of its files. The server of the rules looks at no content before it answers, and of a write
-- only at whether it ends within the limit of a file. So what is left of a server and of what it is asked, when contents,
-- the bytes of writes and their numbers are forgotten, decides all the rest.
use Rattle.std.specs.Prelude.{suc, [], map, if◌then◌else◌}
use Rattle.lease_state.specs.declared.content.TheConstants.{FILE_LIMIT}
use Rattle.lease_state.specs.declared.patch.Patch.{Patch}
use Rattle.lease_model.specs.messages.Replies.{Reply, Out}
use Rattle.lease_model.specs.messages.Requests.{FileRequest, Request}
use Rattle.lease_model.specs.server.Calls.{Call}
use Rattle.lease_model.specs.server.Progress.{Progress}
use Rattle.lease_model.specs.server.State.{Server, Held}
use Rattle.lease_model.specs.values.Patches.{is_within_limit}

-- No bytes, at a place from which it is seen whether the patch ended within the limit.
abbrev pub bare_patch : Patch → Patch
bare_patch patch = record { offset = if is_within_limit patch then 0 else suc FILE_LIMIT; bytes = [] }

abbrev pub bare_request : FileRequest → FileRequest
bare_request (FileRequest.Create file access share contexts) = FileRequest.Create file access share contexts
bare_request (FileRequest.Read file_id) = FileRequest.Read file_id
bare_request (FileRequest.Write file_id number patch) = FileRequest.Write file_id 0 (bare_patch patch)
bare_request (FileRequest.Close file_id) = FileRequest.Close file_id

abbrev pub bare_held : Held → Held
bare_held one = record { client = one.client; request = bare_request one.request; lane = one.lane }

-- the server with empty files, and with bare requests waiting
abbrev pub bare : Server → Server
bare server = record server {
  contents = λ file. [];
  held = λ file. map bare_held (server.held file);
}

-- what is sent of files' bytes, and of the numbers of writes, isn't told
abbrev pub bare_reply : Reply → Reply
bare_reply (Reply.Created file file_id contexts) = Reply.Created file file_id contexts
bare_reply (Reply.CreateFailed file status) = Reply.CreateFailed file status
bare_reply (Reply.ReadDone file_id bytes) = Reply.ReadDone file_id []
bare_reply (Reply.ReadFailed file_id status) = Reply.ReadFailed file_id status
bare_reply (Reply.WriteDone file_id number) = Reply.WriteDone file_id 0
bare_reply (Reply.WriteFailed file_id number status) = Reply.WriteFailed file_id 0 status
bare_reply (Reply.Closed file_id) = Reply.Closed file_id
bare_reply (Reply.CloseFailed file_id status) = Reply.CloseFailed file_id status
bare_reply (Reply.Break notice) = Reply.Break notice
bare_reply (Reply.AckDone response) = Reply.AckDone response
bare_reply (Reply.AckFailed status) = Reply.AckFailed status

abbrev pub bare_out : Out → Out
bare_out (Out.Sent client reply) = Out.Sent client (bare_reply reply)
bare_out (Out.Opened file client) = Out.Opened file client
bare_out (Out.Changed file client number patch) = Out.Changed file client 0 (bare_patch patch)

abbrev pub bare_progress : Progress → Progress
bare_progress progress = record { server = bare progress.server; outs = map bare_out progress.outs }

abbrev pub bare_of : Request → Request
bare_of (Request.OnFile request) = Request.OnFile (bare_request request)
bare_of (Request.Acknowledge given) = Request.Acknowledge given

abbrev pub bare_call : Call → Call
bare_call (Call.Join client) = Call.Join client
bare_call (Call.Receive client request) = Call.Receive client (bare_of request)
bare_call (Call.Cut client) = Call.Cut client
bare_call (Call.Expire key) = Call.Expire key
bare_call (Call.Scavenge file_id) = Call.Scavenge file_id
bare_call (Call.Withdraw file marks) = Call.Withdraw file marks
bare_call (Call.GiveUp own file extent) = Call.GiveUp own file extent
bare_call (Call.Leave client file_ids marks) = Call.Leave client file_ids marks
