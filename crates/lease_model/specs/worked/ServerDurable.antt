-- Worked calls of a server: when an open is durable, which reconnects are refused, what a scavenge closes, and what a client
-- leaves.
use Rattle.std.specs.Prelude.{◌≡◌, ◌==◌, true, false, List, [], ◌∷◌, if◌then◌else◌}
use Rattle.lease_state.specs.State.{nothing_cached}
use Rattle.lease_state.specs.declared.access.Access.{Access}
use Rattle.lease_state.specs.declared.access.Share.{Share}
use Rattle.lease_state.specs.declared.status.Status.{Status}
use Rattle.lease_model.specs.messages.Replies.{Reply, Out}
use Rattle.lease_model.specs.server.Calls.{Call, called}
use Rattle.lease_model.specs.server.Progress.{begun}
use Rattle.lease_model.specs.server.State.{Server}
use Rattle.lease_model.specs.worked.MessageWords.{keyed, keyed_durable, plain, plain_durable, reconnecting, plain_reconnecting}
use Rattle.lease_model.specs.worked.MessageWords.{acknowledging, break_of, created, created_plain, done_acknowledging, read_of, write_of}
use Rattle.lease_model.specs.worked.ServerWords.{server_after, outs_along, three_joined}
use Rattle.lease_model.specs.worked.ValueWords.{R, RH, RWH, at, sample_key, later_key}

abbrev pub durable_while_breaking_calls : List Call
durable_while_breaking_calls =
    Call.Receive 1 (keyed_durable 1 Access.ReadWrite Share.ReadWrite sample_key R)
    ∷ Call.Receive 1 (keyed 1 Access.ReadWrite Share.ReadWrite sample_key RH)
    ∷ Call.Receive 2 (plain 1 Access.ReadWrite Share.ReadWrite)
    ∷ Call.Receive 2 (write_of 3 1 (at 0 (0x58 ∷ [])))
    ∷ Call.Receive 1 (keyed_durable 1 Access.ReadWrite Share.ReadWrite sample_key RH)
    ∷ Call.Receive 1 (plain_durable 1 Access.ReadWrite Share.ReadWrite)
    ∷ []

-- An open is durable where that is asked and its lease holds H: not under R, not without a lease, but also
-- under a lease that is breaking to nothing, since it still holds H.
abbrev pub DurableWhileBreaking : Type 0
DurableWhileBreaking = outs_along three_joined durable_while_breaking_calls ≡
    (Out.Opened 1 1 ∷ Out.Sent 1 (created 1 1 sample_key R false false) ∷ [])
    ∷ (Out.Opened 1 1 ∷ Out.Sent 1 (created 1 2 sample_key RH false false) ∷ [])
    ∷ (Out.Opened 1 2 ∷ Out.Sent 2 (created_plain 1 3) ∷ [])
    ∷ (Out.Sent 1 (break_of sample_key RH nothing_cached true) ∷ Out.Changed 1 2 1 (at 0 (0x58 ∷ []))
    ∷ Out.Sent 2 (Reply.WriteDone 3 1) ∷ [])
    ∷ (Out.Opened 1 1 ∷ Out.Sent 1 (created 1 4 sample_key RH true true) ∷ [])
    ∷ (Out.Opened 1 1 ∷ Out.Sent 1 (created_plain 1 5) ∷ [])
    ∷ []

abbrev pub reconnects_calls : List Call
reconnects_calls =
    Call.Receive 1 (keyed_durable 1 Access.ReadWrite Share.ReadWrite sample_key RWH)
    ∷ Call.Receive 1 (reconnecting 1 Access.ReadWrite Share.ReadWrite sample_key 1)
    ∷ Call.Cut 1
    ∷ Call.Join 1
    ∷ Call.Receive 2 (reconnecting 1 Access.ReadWrite Share.ReadWrite sample_key 1)
    ∷ Call.Receive 1 (reconnecting 2 Access.ReadWrite Share.ReadWrite sample_key 1)
    ∷ Call.Receive 1 (reconnecting 1 Access.ReadWrite Share.ReadWrite later_key 1)
    ∷ Call.Receive 1 (plain_reconnecting 1 Access.ReadWrite Share.ReadWrite 1)
    ∷ Call.Receive 1 (reconnecting 1 Access.ReadWrite Share.ReadWrite sample_key 2)
    ∷ Call.Receive 1 (reconnecting 1 Access.Read Share.Nothing sample_key 1)
    ∷ Call.Receive 1 (reconnecting 1 Access.ReadWrite Share.ReadWrite sample_key 1)
    ∷ []

-- A reconnect is refused while the open is connected, by another client, on another file, under another
-- key, without a key, and of another FileId. It then connects the open again as it was, whatever else the
-- create asks for; once more is refused.
abbrev pub RefusedReconnects : Type 0
RefusedReconnects = outs_along three_joined reconnects_calls ≡
    (Out.Opened 1 1 ∷ Out.Sent 1 (created 1 1 sample_key RWH false true) ∷ [])
    ∷ (Out.Sent 1 (Reply.CreateFailed 1 Status.ObjectNameNotFound) ∷ [])
    ∷ []
    ∷ []
    ∷ (Out.Sent 2 (Reply.CreateFailed 1 Status.ObjectNameNotFound) ∷ [])
    ∷ (Out.Sent 1 (Reply.CreateFailed 2 Status.ObjectNameNotFound) ∷ [])
    ∷ (Out.Sent 1 (Reply.CreateFailed 1 Status.ObjectNameNotFound) ∷ [])
    ∷ (Out.Sent 1 (Reply.CreateFailed 1 Status.ObjectNameNotFound) ∷ [])
    ∷ (Out.Sent 1 (Reply.CreateFailed 1 Status.ObjectNameNotFound) ∷ [])
    ∷ (Out.Sent 1 (created 1 1 sample_key RWH false false) ∷ [])
    ∷ (Out.Sent 1 (Reply.CreateFailed 1 Status.ObjectNameNotFound) ∷ [])
    ∷ []

-- a server on which client 1 has a durable open, and is connected
abbrev pub durable_connected : Server
durable_connected = server_after three_joined
    (Call.Receive 1 (keyed_durable 1 Access.ReadWrite Share.ReadWrite sample_key RWH) ∷ [])

abbrev pub scavenge_calls : List Call
scavenge_calls =
    Call.Scavenge 1
    ∷ Call.Receive 1 (read_of 1)
    ∷ Call.Cut 1
    ∷ Call.Scavenge 1
    ∷ Call.Join 1
    ∷ Call.Receive 1 (reconnecting 1 Access.ReadWrite Share.ReadWrite sample_key 1)
    ∷ []

-- A scavenge of a connected open changes nothing and gives nothing out: the open can still be read. Once its
-- client's connection is lost, a scavenge closes it, and it can't be connected again.
abbrev pub ConnectedNotScavenged : Type 0
ConnectedNotScavenged =
    (called durable_connected (Call.Scavenge 1) ≡ begun durable_connected)
    × (outs_along durable_connected scavenge_calls ≡
    []
    ∷ (Out.Sent 1 (Reply.ReadDone 1 (0x61 ∷ 0x62 ∷ 0x63 ∷ [])) ∷ [])
    ∷ []
    ∷ []
    ∷ []
    ∷ (Out.Sent 1 (Reply.CreateFailed 1 Status.ObjectNameNotFound) ∷ [])
    ∷ [])

abbrev pub asked_in_vain_calls : List Call
asked_in_vain_calls =
    Call.Receive 1 (keyed_durable 1 Access.ReadWrite Share.ReadWrite sample_key R)
    ∷ Call.Receive 1 (keyed 1 Access.ReadWrite Share.ReadWrite sample_key RH)
    ∷ Call.Cut 1
    ∷ Call.Join 1
    ∷ Call.Receive 1 (reconnecting 1 Access.ReadWrite Share.ReadWrite sample_key 1)
    ∷ Call.Receive 1 (reconnecting 1 Access.ReadWrite Share.ReadWrite sample_key 2)
    ∷ []

-- An open whose create was answered without durability isn't kept, though it was asked for and the lease holds H later.
abbrev pub AskedInVain : Type 0
AskedInVain = outs_along three_joined asked_in_vain_calls ≡
    (Out.Opened 1 1 ∷ Out.Sent 1 (created 1 1 sample_key R false false) ∷ [])
    ∷ (Out.Opened 1 1 ∷ Out.Sent 1 (created 1 2 sample_key RH false false) ∷ [])
    ∷ []
    ∷ []
    ∷ (Out.Sent 1 (Reply.CreateFailed 1 Status.ObjectNameNotFound) ∷ [])
    ∷ (Out.Sent 1 (Reply.CreateFailed 1 Status.ObjectNameNotFound) ∷ [])
    ∷ []

abbrev pub leaving_calls : List Call
leaving_calls =
    Call.Receive 1 (keyed_durable 1 Access.ReadWrite Share.ReadWrite sample_key RWH)
    ∷ Call.Receive 1 (plain 2 Access.ReadWrite Share.ReadWrite)
    ∷ Call.Receive 1 (plain 2 Access.ReadWrite Share.ReadWrite)
    ∷ Call.Receive 2 (plain 2 Access.ReadWrite Share.ReadWrite)
    ∷ Call.Leave 1 (1 ∷ 2 ∷ 4 ∷ []) (λ file. [])
    ∷ Call.Receive 1 (read_of 1)
    ∷ Call.Receive 1 (read_of 2)
    ∷ Call.Receive 1 (read_of 3)
    ∷ Call.Receive 2 (read_of 4)
    ∷ Call.Receive 1 (reconnecting 1 Access.ReadWrite Share.ReadWrite sample_key 1)
    ∷ []

-- A client leaves a durable open, another one, and one that isn't its own: the first is kept and connected again, the second
-- is closed, and those that it didn't leave, or that are another's, stay as they were.
abbrev pub LeftAndKept : Type 0
LeftAndKept = outs_along three_joined leaving_calls ≡
    (Out.Opened 1 1 ∷ Out.Sent 1 (created 1 1 sample_key RWH false true) ∷ [])
    ∷ (Out.Opened 2 1 ∷ Out.Sent 1 (created_plain 2 2) ∷ [])
    ∷ (Out.Opened 2 1 ∷ Out.Sent 1 (created_plain 2 3) ∷ [])
    ∷ (Out.Opened 2 2 ∷ Out.Sent 2 (created_plain 2 4) ∷ [])
    ∷ []
    ∷ (Out.Sent 1 (Reply.ReadFailed 1 Status.FileClosed) ∷ [])
    ∷ (Out.Sent 1 (Reply.ReadFailed 2 Status.FileClosed) ∷ [])
    ∷ (Out.Sent 1 (Reply.ReadDone 3 []) ∷ [])
    ∷ (Out.Sent 2 (Reply.ReadDone 4 []) ∷ [])
    ∷ (Out.Sent 1 (created 1 1 sample_key RWH false false) ∷ [])
    ∷ []

abbrev pub waiting_for_nobody_calls : List Call
waiting_for_nobody_calls =
    Call.Receive 1 (keyed 1 Access.ReadWrite Share.ReadWrite sample_key RWH)
    ∷ Call.Receive 2 (plain 1 Access.ReadWrite Share.ReadWrite)
    ∷ Call.Receive 3 (plain 1 Access.ReadWrite Share.ReadWrite)
    ∷ Call.Leave 2 [] (λ file. if file == 1 then true ∷ [] else [])
    ∷ Call.Receive 1 (acknowledging sample_key RH)
    ∷ []

-- The create of a client that has left is answered to nobody; another's is answered.
abbrev pub LeftWhileWaiting : Type 0
LeftWhileWaiting = outs_along three_joined waiting_for_nobody_calls ≡
    (Out.Opened 1 1 ∷ Out.Sent 1 (created 1 1 sample_key RWH false false) ∷ [])
    ∷ (Out.Sent 1 (break_of sample_key RWH RH true) ∷ [])
    ∷ []
    ∷ []
    ∷ (Out.Sent 1 (done_acknowledging sample_key RH) ∷ Out.Opened 1 3 ∷ Out.Sent 3 (created_plain 1 2) ∷ [])
    ∷ []
