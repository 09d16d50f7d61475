-- A call of the server under way. It goes by small steps, each of which changes the state and
-- gives its outs at once.
use Rattle.std.specs.Prelude.{ℕ, Bool, Some, None, List, [], ◌∷◌, ◌++◌, if◌then◌else◌}
use Rattle.std.specs.List.{list_any}
use Rattle.lease_state.specs.State.{State, needs_acknowledgment}
use Rattle.lease_state.specs.declared.status.Status.{Status}
use Rattle.lease_model.specs.values.Keys.{Key}
use Rattle.lease_model.specs.values.Lists.{without}
use Rattle.lease_model.specs.messages.Replies.{Reply, Out}
use Rattle.lease_model.specs.messages.Requests.{FileRequest}
use Rattle.lease_model.specs.server.State.{Server, Open, Lease, Held, no_lease, has_key}
use Rattle.lease_model.specs.values.Tables.{put, put_key}

-- the server so far, and what it gave out so far, in order
pub record Progress : Type 0 where
  pub server : Server
  pub outs : List Out

abbrev pub begun : Server → Progress
begun server = record { server = server; outs = [] }

-- one small step: the server's new state, and what the step gives out
abbrev pub stepped : Progress → Server → List Out → Progress
stepped progress server outs = record { server = server; outs = progress.outs ++ outs }

-- Opens that pass the test are closed, and with its last open a lease is gone (MS-SMB2 3.3.5.10).
abbrev pub with_opens : Server → List Open → Server
with_opens server opens = record server {
  opens = opens;
  leases = λ key. if list_any (has_key key) opens then server.leases key else no_lease;
}

abbrev pub opens_dropped : (Open → Bool) → Progress → Progress
opens_dropped test progress =
    stepped progress (with_opens progress.server (without test progress.server.opens)) []

abbrev pub with_lease : Server → Key → Lease → Server
with_lease server key lease = record server { leases = put_key server.leases key lease }

abbrev pub break_notice : Key → State → State → Reply
break_notice key current lowered = Reply.Break (Some (record {
  ack_required = needs_acknowledgment current;
  key = key.bytes;
  current = current;
  lowered = lowered;
}))

-- A lease of reads alone is broken at once, and no acknowledgment is asked for (3.3.4.7).
abbrev pub lease_lowered : Key → State → Progress → Progress
lease_lowered key lowered progress = stepped progress
    (with_lease progress.server key (record { state = lowered; broken_to = None }))
    (Out.Sent key.client (break_notice key (progress.server.leases key).state lowered) ∷ [])

-- Any other keeps its state until the break is acknowledged (3.3.4.7).
abbrev pub break_begun : Key → State → Progress → Progress
break_begun key lowered progress = stepped progress
    (with_lease progress.server key
    (record { state = (progress.server.leases key).state; broken_to = Some lowered }))
    (Out.Sent key.client (break_notice key (progress.server.leases key).state lowered) ∷ [])

-- a request is held on a file, after those that are held there
abbrev pub request_held : ℕ → Held → Progress → Progress
request_held file one progress = stepped progress
    (record progress.server {
      held = put progress.server.held file (progress.server.held file ++ one ∷ []);
    }) []

-- the requests left on a file once one of them is about to be answered
abbrev pub held_left : ℕ → List Held → Progress → Progress
held_left file left progress =
    stepped progress (record progress.server { held = put progress.server.held file left }) []

-- the reply that refuses a request
abbrev pub refusal_of : FileRequest → Status → Reply
refusal_of (FileRequest.Create file access share contexts) status = Reply.CreateFailed file status
refusal_of (FileRequest.Read file_id) status = Reply.ReadFailed file_id status
refusal_of (FileRequest.Write file_id number patch) status = Reply.WriteFailed file_id number status
refusal_of (FileRequest.Close file_id) status = Reply.CloseFailed file_id status

-- a reply is sent, and nothing changes
abbrev pub replied : ℕ → Reply → Progress → Progress
replied client reply progress = stepped progress progress.server (Out.Sent client reply ∷ [])

abbrev pub refused : ℕ → FileRequest → Status → Progress → Progress
refused client request status progress = replied client (refusal_of request status) progress
