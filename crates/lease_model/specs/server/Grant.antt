-- A create that is ready: a new open, or a durable open connected again.
use Rattle.std.specs.Prelude.{ℕ, ◌+◌, Bool, true, false, Option, Some, None, List, [], ◌∷◌, ◌++◌, map, if◌then◌else◌, ◌==◌, ◌&&◌, ◌||◌, not}
use Rattle.lease_state.specs.Rules.{is_as_free}
use Rattle.lease_state.specs.State.{State, nothing_cached, granted_form_of, is_state_within}
use Rattle.lease_state.specs.declared.access.Access.{Access}
use Rattle.lease_state.specs.declared.access.Share.{Share}
use Rattle.lease_state.specs.declared.status.Status.{Status}
use Rattle.lease_model.specs.server.Allowed.{allowed}
use Rattle.lease_model.specs.values.Keys.{Key}
use Rattle.lease_model.specs.values.Limits.{last_file_id}
use Rattle.lease_model.specs.server.Progress.{Progress, stepped, with_lease, replied}
use Rattle.lease_model.specs.messages.Replies.{Reply, Out, LeaseGiven}
use Rattle.lease_model.specs.messages.Requests.{LeaseOf}
use Rattle.lease_model.specs.server.State.{Server, Open, Lease, no_lease, has_lease, is_breaking}
use Rattle.lease_model.specs.server.Naming.{key_of}

-- what a key is offered: nothing where its timer ran out (profile)
abbrev pub offered : Server → Key → ℕ → State → State
offered server key file want =
    if server.expired key then nothing_cached else allowed server (Some key) file want

-- A lease becomes what it is offered (as free), or does so only where it is new or all of the want is offered
-- (whole).
abbrev pub may_rise : Server → Key → ℕ → State → Bool
may_rise server key file want = is_as_free server.rules.rise || not (has_lease server key)
    || is_state_within (granted_form_of want) (offered server key file want)

-- The lease after a grant (profile): one that is breaking stays; one within the granted form of the
-- want, a new one too, becomes what is offered where it may; any other stays.
abbrev pub lease_granted : Server → Key → ℕ → State → Lease
lease_granted server key file want =
    if is_breaking (server.leases key) then server.leases key
    else (if is_state_within (server.leases key).state (granted_form_of want) && may_rise server key file want
    then record { state = offered server key file want; broken_to = None }
    else server.leases key)

-- the same for a create that may have no RqLs context
abbrev pub lease_after : Server → ℕ → ℕ → Option LeaseOf → Lease
lease_after server client file None = no_lease
lease_after server client file (Some asked) =
    lease_granted server (key_of client asked.key) file asked.state

abbrev pub lease_put : Server → ℕ → Option LeaseOf → Lease → Server
lease_put server client None lease = server
lease_put server client (Some asked) lease = with_lease server (key_of client asked.key) lease

-- the RqLs context of the reply (MS-SMB2 2.2.14.2.10)
abbrev pub lease_given : Option LeaseOf → Lease → Option LeaseGiven
lease_given None lease = None
lease_given (Some asked) lease =
    Some (record { key = asked.key; state = lease.state; in_progress = is_breaking lease })

abbrev pub asked_key : Option LeaseOf → Option (List ℕ)
asked_key None = None
asked_key (Some asked) = Some asked.key

-- The open is durable where that was asked and the lease then holds H (profile; 3.3.5.9.6).
abbrev pub new_open : Server → ℕ → ℕ → Access → Share → Option LeaseOf → Bool → Lease → Open
new_open server client file access share asked durable lease = record {
  file_id = server.last_id + 1;
  client = client;
  file = file;
  lease_key = asked_key asked;
  access = access;
  share = share;
  durable = durable && lease.state.handle;
  connected = true;
}

-- the small step of a grant, with the lease that it gives
abbrev pub granted_with : ℕ → ℕ → Access → Share → Option LeaseOf → Bool → Lease → Progress → Progress
granted_with client file access share asked durable lease progress = stepped progress
    (record (lease_put progress.server client asked lease) {
      opens = progress.server.opens
          ++ new_open progress.server client file access share asked durable lease ∷ [];
      last_id = progress.server.last_id + 1;
    })
    (Out.Opened file client
    ∷ Out.Sent client (Reply.Created file (progress.server.last_id + 1) (Some (record {
      lease = lease_given asked lease;
      durable = durable && lease.state.handle;
    })))
    ∷ [])

-- FileIds are 1, 2, 3 and so on, never used again (profile); after the last there is no grant.
abbrev pub granted : ℕ → ℕ → Access → Share → Option LeaseOf → Bool → Progress → Progress
granted client file access share asked durable progress =
    if progress.server.last_id == last_file_id
    then replied client (Reply.CreateFailed file Status.InsufficientResources) progress
    else granted_with client file access share asked durable
    (lease_after progress.server client file asked) progress

abbrev pub connected_again : ℕ → Open → Open
connected_again file_id one = if one.file_id == file_id then record one { connected = true } else one

-- the lease of the key that a create names
abbrev pub standing_lease : Server → ℕ → Option LeaseOf → Lease
standing_lease server client None = no_lease
standing_lease server client (Some asked) = server.leases (key_of client asked.key)

-- A durable open is connected again (3.3.5.9.7): nothing is opened, and the lease is told as it
-- stands.
abbrev pub reconnected : ℕ → ℕ → Option LeaseOf → ℕ → Progress → Progress
reconnected client file asked file_id progress = stepped progress
    (record progress.server { opens = map (connected_again file_id) progress.server.opens })
    (Out.Sent client (Reply.Created file file_id (Some (record {
      lease = lease_given asked (standing_lease progress.server client asked);
      durable = false;
    }))) ∷ [])
