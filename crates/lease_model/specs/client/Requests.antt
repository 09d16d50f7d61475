-- The requests that an entry sends, by the key of its file.
use Rattle.std.specs.Prelude.{ℕ, Some, None, false, List}
use Rattle.lease_state.specs.State.{State, nothing_cached}
use Rattle.lease_model.specs.client.Commands.{OpenTerms}
use Rattle.lease_model.specs.client.State.{Parted, Pending}
use Rattle.lease_model.specs.messages.Requests.{FileRequest, Request}

-- the create that opens a file (MS-SMB2 3.2.4.3): RqLs under the file's key, and DHnQ where durable is asked
abbrev pub open_request : List ℕ → ℕ → OpenTerms → Request
open_request key file terms = Request.OnFile (FileRequest.Create file terms.access terms.share (Some (record {
  lease = Some (record { key = key; state = terms.want });
  durable = terms.durable;
  reconnect = None;
})))

-- the create that reconnects (3.2.4.4): RqLs with the file's key and no state (profile), and DHnC of the FileId
abbrev pub again_request : List ℕ → ℕ → Parted → Request
again_request key file parted = Request.OnFile (FileRequest.Create file parted.access parted.share (Some (record {
  lease = Some (record { key = key; state = nothing_cached });
  durable = false;
  reconnect = Some parted.file_id;
})))

abbrev pub write_request : ℕ → Pending → Request
write_request file_id write = Request.OnFile (FileRequest.Write file_id write.number write.patch)

abbrev pub close_request : ℕ → Request
close_request file_id = Request.OnFile (FileRequest.Close file_id)

abbrev pub acknowledge_request : List ℕ → State → Request
acknowledge_request key state = Request.Acknowledge (Some (record { key = key; state = state }))
