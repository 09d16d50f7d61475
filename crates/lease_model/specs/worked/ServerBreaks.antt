-- Worked calls of a server: which leases are broken, in which order, what waits for that, and a timer that runs out.
use Rattle.std.specs.Prelude.{◌≡◌, true, false, List, [], ◌∷◌}
use Rattle.lease_state.specs.State.{nothing_cached}
use Rattle.lease_state.specs.declared.access.Access.{Access}
use Rattle.lease_state.specs.declared.access.Share.{Share}
use Rattle.lease_state.specs.declared.status.Status.{Status}
use Rattle.lease_model.specs.messages.Replies.{Reply, Out}
use Rattle.lease_model.specs.server.Calls.{Call}
use Rattle.lease_model.specs.worked.MessageWords.{keyed, plain, write_of, close_of, acknowledging, done_acknowledging, created}
use Rattle.lease_model.specs.worked.MessageWords.{created_plain, break_of}
use Rattle.lease_model.specs.worked.ServerWords.{outs_along, sample_named, three_joined}
use Rattle.lease_model.specs.worked.ValueWords.{R, RH, RWH, at, sample_key, later_key}

abbrev pub keys_in_order_calls : List Call
keys_in_order_calls =
    Call.Receive 2 (keyed 1 Access.ReadWrite Share.ReadWrite sample_key RH)
    ∷ Call.Receive 1 (keyed 1 Access.ReadWrite Share.ReadWrite later_key RH)
    ∷ Call.Receive 1 (keyed 1 Access.ReadWrite Share.ReadWrite sample_key RH)
    ∷ Call.Receive 1 (keyed 1 Access.Read Share.ReadWrite sample_key R)
    ∷ Call.Receive 3 (plain 1 Access.ReadWrite Share.ReadWrite)
    ∷ Call.Receive 3 (write_of 5 1 (at 0 (0x58 ∷ [])))
    ∷ []

-- Client 2 opens before client 1, and client 1 under the later of its two keys before the earlier, twice
-- under one of them. A write breaks each key once, in the order of the clients and then of the keys' bytes.
abbrev pub KeysInOrder : Type 0
KeysInOrder = outs_along three_joined keys_in_order_calls ≡
    (Out.Opened 1 2 ∷ Out.Sent 2 (created 1 1 sample_key RH false false) ∷ [])
    ∷ (Out.Opened 1 1 ∷ Out.Sent 1 (created 1 2 later_key RH false false) ∷ [])
    ∷ (Out.Opened 1 1 ∷ Out.Sent 1 (created 1 3 sample_key RH false false) ∷ [])
    ∷ (Out.Opened 1 1 ∷ Out.Sent 1 (created 1 4 sample_key RH false false) ∷ [])
    ∷ (Out.Opened 1 3 ∷ Out.Sent 3 (created_plain 1 5) ∷ [])
    ∷ (Out.Sent 1 (break_of sample_key RH nothing_cached true)
    ∷ Out.Sent 1 (break_of later_key RH nothing_cached true)
    ∷ Out.Sent 2 (break_of sample_key RH nothing_cached true) ∷ Out.Changed 1 3 1 (at 0 (0x58 ∷ []))
    ∷ Out.Sent 3 (Reply.WriteDone 5 1) ∷ [])
    ∷ []

abbrev pub own_lease_calls : List Call
own_lease_calls =
    Call.Receive 1 (keyed 1 Access.ReadWrite Share.ReadWrite sample_key RWH)
    ∷ Call.Receive 1 (plain 1 Access.ReadWrite Share.ReadWrite)
    ∷ Call.Receive 1 (acknowledging sample_key RH)
    ∷ []

-- A create without a key breaks the lease of its own client.
abbrev pub OwnLeaseBroken : Type 0
OwnLeaseBroken = outs_along three_joined own_lease_calls ≡
    (Out.Opened 1 1 ∷ Out.Sent 1 (created 1 1 sample_key RWH false false) ∷ [])
    ∷ (Out.Sent 1 (break_of sample_key RWH RH true) ∷ [])
    ∷ (Out.Sent 1 (done_acknowledging sample_key RH) ∷ Out.Opened 1 1 ∷ Out.Sent 1 (created_plain 1 2) ∷ [])
    ∷ []

abbrev pub reads_broken_calls : List Call
reads_broken_calls =
    Call.Receive 1 (keyed 1 Access.Read Share.ReadWrite sample_key R)
    ∷ Call.Receive 2 (plain 1 Access.ReadWrite Share.ReadWrite)
    ∷ Call.Receive 2 (write_of 2 1 (at 0 (0x58 ∷ [])))
    ∷ Call.Receive 1 (acknowledging sample_key nothing_cached)
    ∷ []

-- A lease of reads alone is broken at once, before the change; there is nothing to acknowledge.
abbrev pub ReadsBrokenAtOnce : Type 0
ReadsBrokenAtOnce = outs_along three_joined reads_broken_calls ≡
    (Out.Opened 1 1 ∷ Out.Sent 1 (created 1 1 sample_key R false false) ∷ [])
    ∷ (Out.Opened 1 2 ∷ Out.Sent 2 (created_plain 1 2) ∷ [])
    ∷ (Out.Sent 1 (break_of sample_key R nothing_cached false) ∷ Out.Changed 1 2 1 (at 0 (0x58 ∷ []))
    ∷ Out.Sent 2 (Reply.WriteDone 2 1) ∷ [])
    ∷ (Out.Sent 1 (Reply.AckFailed Status.Unsuccessful) ∷ [])
    ∷ []

abbrev pub one_break_calls : List Call
one_break_calls =
    Call.Receive 1 (keyed 1 Access.Read Share.ReadWrite sample_key RH)
    ∷ Call.Receive 2 (plain 1 Access.ReadWrite Share.ReadWrite)
    ∷ Call.Receive 2 (write_of 2 1 (at 0 (0x58 ∷ [])))
    ∷ Call.Receive 2 (write_of 2 2 (at 1 (0x59 ∷ [])))
    ∷ Call.Receive 3 (plain 1 Access.Read Share.Nothing)
    ∷ Call.Receive 1 (acknowledging sample_key nothing_cached)
    ∷ []

-- Two writes and one break: the change stands after the break, and the second write sends none. The
-- create of client 3, which shares nothing, waits for the acknowledgment, and then meets a sharing violation.
abbrev pub OneBreakForTwoWrites : Type 0
OneBreakForTwoWrites = outs_along three_joined one_break_calls ≡
    (Out.Opened 1 1 ∷ Out.Sent 1 (created 1 1 sample_key RH false false) ∷ [])
    ∷ (Out.Opened 1 2 ∷ Out.Sent 2 (created_plain 1 2) ∷ [])
    ∷ (Out.Sent 1 (break_of sample_key RH nothing_cached true) ∷ Out.Changed 1 2 1 (at 0 (0x58 ∷ []))
    ∷ Out.Sent 2 (Reply.WriteDone 2 1) ∷ [])
    ∷ (Out.Changed 1 2 2 (at 1 (0x59 ∷ [])) ∷ Out.Sent 2 (Reply.WriteDone 2 2) ∷ [])
    ∷ []
    ∷ (Out.Sent 1 (done_acknowledging sample_key nothing_cached)
    ∷ Out.Sent 3 (Reply.CreateFailed 1 Status.SharingViolation) ∷ [])
    ∷ []

abbrev pub held_write_calls : List Call
held_write_calls =
    Call.Receive 1 (keyed 1 Access.Read Share.ReadWrite sample_key RH)
    ∷ Call.Receive 3 (plain 1 Access.ReadWrite Share.ReadWrite)
    ∷ Call.Receive 2 (plain 1 Access.Read Share.Nothing)
    ∷ Call.Receive 3 (write_of 2 1 (at 0 (0x58 ∷ [])))
    ∷ Call.Receive 1 (acknowledging sample_key R)
    ∷ []

-- A lease that is breaking from RH to R holds a write. The acknowledgment lets it go: what is left of the
-- lease is broken before the change.
abbrev pub WriteHeldByBreakToReads : Type 0
WriteHeldByBreakToReads = outs_along three_joined held_write_calls ≡
    (Out.Opened 1 1 ∷ Out.Sent 1 (created 1 1 sample_key RH false false) ∷ [])
    ∷ (Out.Opened 1 3 ∷ Out.Sent 3 (created_plain 1 2) ∷ [])
    ∷ (Out.Sent 1 (break_of sample_key RH R true) ∷ [])
    ∷ []
    ∷ (Out.Sent 1 (done_acknowledging sample_key R)
    ∷ Out.Sent 2 (Reply.CreateFailed 1 Status.SharingViolation)
    ∷ Out.Sent 1 (break_of sample_key R nothing_cached false) ∷ Out.Changed 1 3 1 (at 0 (0x58 ∷ []))
    ∷ Out.Sent 3 (Reply.WriteDone 2 1) ∷ [])
    ∷ []

abbrev pub one_conflict_calls : List Call
one_conflict_calls =
    Call.Receive 1 (keyed 1 Access.Read Share.ReadWrite sample_key RH)
    ∷ Call.Receive 2 (keyed 1 Access.Write Share.ReadWrite sample_key RH)
    ∷ Call.Receive 3 (plain 1 Access.Read Share.Read)
    ∷ Call.Receive 2 (acknowledging sample_key R)
    ∷ []

-- Clients 1 and 2 have RH. The create of client 3, which doesn't share writes, conflicts with the open of
-- client 2 alone, and breaks the handles of that one; client 1 is sent nothing.
abbrev pub OneConflictBroken : Type 0
OneConflictBroken = outs_along three_joined one_conflict_calls ≡
    (Out.Opened 1 1 ∷ Out.Sent 1 (created 1 1 sample_key RH false false) ∷ [])
    ∷ (Out.Opened 1 2 ∷ Out.Sent 2 (created 1 2 sample_key RH false false) ∷ [])
    ∷ (Out.Sent 2 (break_of sample_key RH R true) ∷ [])
    ∷ (Out.Sent 2 (done_acknowledging sample_key R)
    ∷ Out.Sent 3 (Reply.CreateFailed 1 Status.SharingViolation) ∷ [])
    ∷ []

abbrev pub held_in_order_calls : List Call
held_in_order_calls =
    Call.Join 4
    ∷ Call.Receive 4 (keyed 1 Access.Read Share.ReadWrite sample_key RH)
    ∷ Call.Receive 4 (keyed 1 Access.Write Share.ReadWrite later_key RH)
    ∷ Call.Receive 1 (plain 1 Access.Read Share.Read)
    ∷ Call.Receive 2 (plain 1 Access.Read Share.Read)
    ∷ Call.Receive 3 (plain 1 Access.Read Share.Write)
    ∷ Call.Receive 4 (acknowledging sample_key R)
    ∷ Call.Receive 4 (close_of 2)
    ∷ []

-- The creates of clients 1 and 2 wait for one key of client 4, that of client 3 for the other. With the
-- acknowledgment of that other key the last alone is answered, and refused. The first two wait on in their
-- order: once the open that they wait for is closed, client 1 is given its open before client 2.
abbrev pub HeldInOrder : Type 0
HeldInOrder = outs_along three_joined held_in_order_calls ≡
    []
    ∷ (Out.Opened 1 4 ∷ Out.Sent 4 (created 1 1 sample_key RH false false) ∷ [])
    ∷ (Out.Opened 1 4 ∷ Out.Sent 4 (created 1 2 later_key RH false false) ∷ [])
    ∷ (Out.Sent 4 (break_of later_key RH R true) ∷ [])
    ∷ []
    ∷ (Out.Sent 4 (break_of sample_key RH R true) ∷ [])
    ∷ (Out.Sent 4 (done_acknowledging sample_key R)
    ∷ Out.Sent 3 (Reply.CreateFailed 1 Status.SharingViolation) ∷ [])
    ∷ (Out.Sent 4 (Reply.Closed 2)
    ∷ Out.Opened 1 1 ∷ Out.Sent 1 (created_plain 1 3) ∷ Out.Opened 1 2 ∷ Out.Sent 2 (created_plain 1 4) ∷ [])
    ∷ []

abbrev pub expired_calls : List Call
expired_calls =
    Call.Receive 1 (keyed 1 Access.ReadWrite Share.ReadWrite sample_key RWH)
    ∷ Call.Receive 2 (plain 1 Access.ReadWrite Share.ReadWrite)
    ∷ Call.Expire sample_named
    ∷ Call.Cut 2
    ∷ Call.Join 2
    ∷ Call.Receive 1 (keyed 1 Access.ReadWrite Share.ReadWrite sample_key RWH)
    ∷ Call.Cut 1
    ∷ Call.Join 1
    ∷ Call.Receive 1 (keyed 1 Access.ReadWrite Share.ReadWrite sample_key RWH)
    ∷ []

-- The timer of a break runs out, and the create that waited for it is answered. From then on the key is
-- granted nothing, also once another client has connected again, until its own client has.
abbrev pub ExpiredUntilJoined : Type 0
ExpiredUntilJoined = outs_along three_joined expired_calls ≡
    (Out.Opened 1 1 ∷ Out.Sent 1 (created 1 1 sample_key RWH false false) ∷ [])
    ∷ (Out.Sent 1 (break_of sample_key RWH RH true) ∷ [])
    ∷ (Out.Opened 1 2 ∷ Out.Sent 2 (created_plain 1 2) ∷ [])
    ∷ []
    ∷ []
    ∷ (Out.Opened 1 1 ∷ Out.Sent 1 (created 1 3 sample_key nothing_cached false false) ∷ [])
    ∷ []
    ∷ []
    ∷ (Out.Opened 1 1 ∷ Out.Sent 1 (created 1 4 sample_key RWH false false) ∷ [])
    ∷ []
