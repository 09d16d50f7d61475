-- What a server gave out, as structs hold it: fields that have no meaning there are 0, and so is all that is reserved.
use Rattle.std.specs.Prelude.{ℕ, List, [], length, replicate}
use Rattle.lease_state.specs.Status.{code_of}
use Rattle.lease_state.specs.declared.reply.Reply as reply
use Rattle.share_server.specs.declared.values.out.Out as out
use Rattle.machines_c.specs.declared.server.out.ServerOut.{ServerOut}

-- a message about an open
abbrev pub about : ℕ → ℕ → ServerOut
about kind file_id = record {
  file_id = file_id;
  number = 0;
  length = 0;
  kind = kind;
  status = 0;
  offset = 0;
  client = 0;
  file = 0;
  reserved = replicate 26 0;
}

-- a message to a client whose number isn't there yet
abbrev pub reply_fields : reply.Reply → ServerOut
reply_fields (reply.TheVariants.Created file fid contexts) = record (about 1 fid.0) { length = length contexts; file = file.0 }
reply_fields (reply.TheVariants.CreateFailed file status) = record (about 2 0) { status = code_of status; file = file.0 }
reply_fields (reply.TheVariants.ReadDone fid bytes) = record (about 3 fid.0) { length = length bytes }
reply_fields (reply.TheVariants.ReadFailed fid status) = record (about 4 fid.0) { status = code_of status }
reply_fields (reply.TheVariants.WriteDone fid number) = record (about 5 fid.0) { number = number }
reply_fields (reply.TheVariants.WriteFailed fid number status) =
    record (about 6 fid.0) { number = number; status = code_of status }
reply_fields (reply.TheVariants.Closed fid) = about 7 fid.0
reply_fields (reply.TheVariants.CloseFailed fid status) = record (about 8 fid.0) { status = code_of status }
reply_fields (reply.TheVariants.Break bytes) = record (about 9 0) { length = 44 }
reply_fields (reply.TheVariants.AckDone bytes) = record (about 10 0) { length = 36 }
reply_fields (reply.TheVariants.AckFailed status) = record (about 11 0) { status = code_of status }

abbrev pub reply_bytes : reply.Reply → List ℕ
reply_bytes (reply.TheVariants.Created file fid contexts) = contexts
reply_bytes (reply.TheVariants.ReadDone fid bytes) = bytes
reply_bytes (reply.TheVariants.Break bytes) = bytes
reply_bytes (reply.TheVariants.AckDone bytes) = bytes
reply_bytes other = []

abbrev pub out_fields : out.Out → ServerOut
out_fields (out.TheVariants.Sent client message) = record (reply_fields message) { client = client.0 }
out_fields (out.TheVariants.Opened file client) = record (about 12 0) { client = client.0; file = file.0 }
out_fields (out.TheVariants.Changed file client number patch) = record (about 13 0) {
  number = number;
  length = length patch.bytes;
  offset = patch.offset;
  client = client.0;
  file = file.0;
}

abbrev pub out_bytes : out.Out → List ℕ
out_bytes (out.TheVariants.Sent client message) = reply_bytes message
out_bytes (out.TheVariants.Opened file client) = []
out_bytes (out.TheVariants.Changed file client number patch) = patch.bytes
