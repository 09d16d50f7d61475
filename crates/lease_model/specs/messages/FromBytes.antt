-- From real messages to those of the model: in place of bytes stands what a reader finds in them.
use Rattle.std.specs.Prelude.{ℕ, ◌==◌, ◌&&◌, List, length, nat_le, Option, Some, None, Result, Ok, Err, if◌then◌else◌}
use Rattle.std.specs.Option.{option_map}
use Rattle.std.specs.Int.RustNames.{bit_and}
use Rattle.lease_state.specs.State.{state_of_bits}
use Rattle.lease_state.specs.declared.request.Request as real_request
use Rattle.lease_state.specs.declared.reply.Reply as real_reply
use Rattle.lease_wire.specs.Field.{number_at, bytes_at}
use Rattle.lease_wire.specs.Gathering.{value_of}
use Rattle.lease_wire.specs.Names.{LeaseView, CreateView}
use Rattle.lease_wire.specs.declared.create.Direction.{Direction}
use Rattle.lease_wire.specs.declared.fault.WireFault.{WireFault}
use Rattle.lease_model.specs.messages.Replies as replies
use Rattle.lease_model.specs.messages.Replies.{LeaseGiven, CreateAnswer, BreakNotice}
use Rattle.lease_model.specs.messages.Requests as requests
use Rattle.lease_model.specs.messages.Requests.{LeaseOf, CreateAsk}

-- the create contexts of a request (MS-SMB2 2.2.13.2)
abbrev pub lease_wanted : LeaseView → LeaseOf
lease_wanted lease = record { key = lease.key; state = lease.state }

abbrev pub ask_found : Result CreateView WireFault → Option CreateAsk
ask_found (Ok v) = Some (record { lease = option_map lease_wanted v.lease; durable = v.durable; reconnect = v.reconnect })
ask_found (Err fault) = None

-- those of a response (2.2.14.2)
abbrev pub lease_read : LeaseView → LeaseGiven
lease_read lease = record { key = lease.key; state = lease.state; in_progress = lease.breaking }

abbrev pub answer_found : Result CreateView WireFault → Option CreateAnswer
answer_found (Ok v) = Some (record { lease = option_map lease_read v.lease; durable = v.durable })
answer_found (Err fault) = None

-- an acknowledgment (2.2.24.2) or its response (2.2.25.2), where the bytes begin with one
unfoldable pub acknowledged_in : List ℕ → Option LeaseOf
acknowledged_in bytes =
    if nat_le 36 (length bytes) && number_at 0 2 bytes == 36
    then Some (record { key = bytes_at 8 16 bytes; state = state_of_bits (number_at 24 4 bytes) })
    else None

-- a break notification (2.2.23.2), where the bytes begin with one
unfoldable pub notice_in : List ℕ → Option BreakNotice
notice_in bytes =
    if nat_le 44 (length bytes) && number_at 0 2 bytes == 44
    then Some (record {
      ack_required = bit_and (number_at 4 4 bytes) 1 == 1;
      key = bytes_at 8 16 bytes;
      current = state_of_bits (number_at 24 4 bytes);
      lowered = state_of_bits (number_at 28 4 bytes);
    })
    else None

-- a request of the model from a real one
abbrev pub request_of : real_request.Request → requests.Request
request_of (real_request.TheVariants.Create file access share contexts) =
    requests.Request.OnFile (requests.FileRequest.Create file.0 access share (ask_found (value_of Direction.Request contexts)))
request_of (real_request.TheVariants.Read fid) = requests.Request.OnFile (requests.FileRequest.Read fid.0)
request_of (real_request.TheVariants.Write fid number patch) = requests.Request.OnFile
    (requests.FileRequest.Write fid.0 number patch)
request_of (real_request.TheVariants.Close fid) = requests.Request.OnFile (requests.FileRequest.Close fid.0)
request_of (real_request.TheVariants.Ack bytes) = requests.Request.Acknowledge (acknowledged_in bytes)

-- a reply of the model from a real one
abbrev pub reply_of : real_reply.Reply → replies.Reply
reply_of (real_reply.TheVariants.Created file fid contexts) =
    replies.Reply.Created file.0 fid.0 (answer_found (value_of Direction.Reply contexts))
reply_of (real_reply.TheVariants.CreateFailed file status) = replies.Reply.CreateFailed file.0 status
reply_of (real_reply.TheVariants.ReadDone fid bytes) = replies.Reply.ReadDone fid.0 bytes
reply_of (real_reply.TheVariants.ReadFailed fid status) = replies.Reply.ReadFailed fid.0 status
reply_of (real_reply.TheVariants.WriteDone fid number) = replies.Reply.WriteDone fid.0 number
reply_of (real_reply.TheVariants.WriteFailed fid number status) = replies.Reply.WriteFailed fid.0 number status
reply_of (real_reply.TheVariants.Closed fid) = replies.Reply.Closed fid.0
reply_of (real_reply.TheVariants.CloseFailed fid status) = replies.Reply.CloseFailed fid.0 status
reply_of (real_reply.TheVariants.Break bytes) = replies.Reply.Break (notice_in bytes)
reply_of (real_reply.TheVariants.AckDone bytes) = replies.Reply.AckDone (acknowledged_in bytes)
reply_of (real_reply.TheVariants.AckFailed status) = replies.Reply.AckFailed status
