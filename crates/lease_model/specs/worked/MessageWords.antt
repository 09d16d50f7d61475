-- Words for messages in worked examples.
use Rattle.std.specs.Prelude.{ℕ, Bool, true, false, Some, None, List}
use Rattle.lease_state.specs.State.{State, nothing_cached}
use Rattle.lease_state.specs.declared.access.Access.{Access}
use Rattle.lease_state.specs.declared.access.Share.{Share}
use Rattle.lease_state.specs.declared.patch.Patch.{Patch}
use Rattle.lease_model.specs.messages.Replies.{Reply}
use Rattle.lease_model.specs.messages.Requests.{FileRequest, Request, CreateAsk}

abbrev pub create_with : ℕ → Access → Share → CreateAsk → Request
create_with file access share ask = Request.OnFile (FileRequest.Create file access share (Some ask))

-- a create that asks for a lease under a key, and one that also asks for a durable open
abbrev pub keyed : ℕ → Access → Share → List ℕ → State → Request
keyed file access share key want = create_with file access share
    (record { lease = Some (record { key = key; state = want }); durable = false; reconnect = None })

abbrev pub keyed_durable : ℕ → Access → Share → List ℕ → State → Request
keyed_durable file access share key want = create_with file access share
    (record { lease = Some (record { key = key; state = want }); durable = true; reconnect = None })

-- the same without a key
abbrev pub plain : ℕ → Access → Share → Request
plain file access share = create_with file access share (record { lease = None; durable = false; reconnect = None })

abbrev pub plain_durable : ℕ → Access → Share → Request
plain_durable file access share =
    create_with file access share (record { lease = None; durable = true; reconnect = None })

-- a create that reconnects the open of a FileId, under a key or without one
abbrev pub reconnecting : ℕ → Access → Share → List ℕ → ℕ → Request
reconnecting file access share key file_id = create_with file access share (record {
  lease = Some (record { key = key; state = nothing_cached });
  durable = false;
  reconnect = Some file_id;
})

abbrev pub plain_reconnecting : ℕ → Access → Share → ℕ → Request
plain_reconnecting file access share file_id =
    create_with file access share (record { lease = None; durable = false; reconnect = Some file_id })

-- a create whose contexts have a fault
abbrev pub unreadable : ℕ → Access → Share → Request
unreadable file access share = Request.OnFile (FileRequest.Create file access share None)

abbrev pub read_of : ℕ → Request
read_of file_id = Request.OnFile (FileRequest.Read file_id)

abbrev pub write_of : ℕ → ℕ → Patch → Request
write_of file_id number patch = Request.OnFile (FileRequest.Write file_id number patch)

abbrev pub close_of : ℕ → Request
close_of file_id = Request.OnFile (FileRequest.Close file_id)

-- an acknowledgment, and its response
abbrev pub acknowledging : List ℕ → State → Request
acknowledging key state = Request.Acknowledge (Some (record { key = key; state = state }))

abbrev pub done_acknowledging : List ℕ → State → Reply
done_acknowledging key state = Reply.AckDone (Some (record { key = key; state = state }))

-- a reply that gives an open: its file, its FileId, the key with its lease's state, whether a break is in
-- progress, and whether the open is durable
abbrev pub created : ℕ → ℕ → List ℕ → State → Bool → Bool → Reply
created file file_id key state in_progress durable = Reply.Created file file_id (Some (record {
  lease = Some (record { key = key; state = state; in_progress = in_progress });
  durable = durable;
}))

abbrev pub created_plain : ℕ → ℕ → Reply
created_plain file file_id = Reply.Created file file_id (Some (record { lease = None; durable = false }))

-- a break notification: the key, the state, the state that it is to be lowered to, and whether it asks for
-- an acknowledgment
abbrev pub break_of : List ℕ → State → State → Bool → Reply
break_of key current lowered ack_required = Reply.Break (Some (record {
  ack_required = ack_required;
  key = key;
  current = current;
  lowered = lowered;
}))
