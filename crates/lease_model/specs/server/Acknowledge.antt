-- An acknowledgment of a lease break (MS-SMB2 3.3.5.22.2).
use Rattle.std.specs.Prelude.{ℕ, Option, Some, None, [], ◌∷◌, if◌then◌else◌}
use Rattle.lease_state.specs.State.{State, granted_form_of, is_state_within}
use Rattle.lease_state.specs.declared.status.Status.{Status}
use Rattle.lease_model.specs.values.Keys.{Key}
use Rattle.lease_model.specs.server.Progress.{Progress, stepped, with_lease, replied}
use Rattle.lease_model.specs.messages.Replies.{Reply, Out}
use Rattle.lease_model.specs.messages.Requests.{LeaseOf}
use Rattle.lease_model.specs.server.State.{has_lease}
use Rattle.lease_model.specs.server.Naming.{key_of}

-- the lease has the granted form of the acknowledged state, and isn't breaking
abbrev pub break_ended : Key → State → Progress → Progress
break_ended key state progress = stepped progress
    (with_lease progress.server key (record { state = granted_form_of state; broken_to = None }))
    (Out.Sent key.client (Reply.AckDone (Some (record {
      key = key.bytes;
      state = granted_form_of state;
    }))) ∷ [])

-- an acknowledged state is within the state broken to
abbrev pub judged : Key → State → Option State → Progress → Progress
judged key state None progress = replied key.client (Reply.AckFailed Status.Unsuccessful) progress
judged key state (Some lowered) progress =
    if is_state_within state lowered then break_ended key state progress
    else replied key.client (Reply.AckFailed Status.RequestNotAccepted) progress

unfoldable pub acknowledged : ℕ → Option LeaseOf → Progress → Progress
acknowledged client None progress = replied client (Reply.AckFailed Status.InvalidParameter) progress
acknowledged client (Some given) progress =
    if has_lease progress.server (key_of client given.key)
    then judged (key_of client given.key) given.state
    (progress.server.leases (key_of client given.key)).broken_to progress
    else replied client (Reply.AckFailed Status.ObjectNameNotFound) progress
