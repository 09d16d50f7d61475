-- Worked calls of a server: what is refused, in which order, and that nothing is broken for it.
use Rattle.std.specs.Prelude.{◌≡◌, ◌+◌, ◌-◌, ℕ, None, false, List, [], ◌∷◌}
use Rattle.lease_state.specs.declared.access.Access.{Access}
use Rattle.lease_state.specs.declared.access.Share.{Share}
use Rattle.lease_state.specs.declared.content.TheConstants.{FILE_LIMIT}
use Rattle.lease_state.specs.declared.status.Status.{Status}
use Rattle.lease_model.specs.messages.Replies.{Reply, Out}
use Rattle.lease_model.specs.server.Calls.{Call, called}
use Rattle.lease_model.specs.worked.MessageWords.{keyed, plain, unreadable, read_of, write_of, close_of, created, created_plain}
use Rattle.lease_model.specs.worked.ServerWords.{server_after, outs_along, sample_named, three_joined}
use Rattle.lease_model.specs.server.State.{Server}
use Rattle.lease_model.specs.values.Limits.{last_file_id}
use Rattle.lease_model.specs.worked.ValueWords.{R, RH, at, sample_key}

abbrev pub refused_on_arrival_calls : List Call
refused_on_arrival_calls =
    Call.Receive 1 (unreadable 9 Access.ReadWrite Share.ReadWrite)
    ∷ Call.Receive 1 (unreadable 1 Access.ReadWrite Share.ReadWrite)
    ∷ Call.Receive 1 (plain 9 Access.ReadWrite Share.ReadWrite)
    ∷ Call.Receive 1 (read_of 1)
    ∷ Call.Receive 1 (write_of 1 1 (at 0 (0x58 ∷ [])))
    ∷ Call.Receive 1 (close_of 1)
    ∷ Call.Receive 2 (plain 1 Access.ReadWrite Share.ReadWrite)
    ∷ Call.Receive 1 (read_of 1)
    ∷ Call.Receive 1 (write_of 1 2 (at 0 (0x58 ∷ [])))
    ∷ Call.Receive 1 (close_of 1)
    ∷ []

-- Faulty contexts go before an unknown file. A FileId that isn't that of a connected open of the client
-- is closed, whoever else has it.
abbrev pub RefusedOnArrival : Type 0
RefusedOnArrival = outs_along three_joined refused_on_arrival_calls ≡
    (Out.Sent 1 (Reply.CreateFailed 9 Status.InvalidParameter) ∷ [])
    ∷ (Out.Sent 1 (Reply.CreateFailed 1 Status.InvalidParameter) ∷ [])
    ∷ (Out.Sent 1 (Reply.CreateFailed 9 Status.ObjectNameNotFound) ∷ [])
    ∷ (Out.Sent 1 (Reply.ReadFailed 1 Status.FileClosed) ∷ [])
    ∷ (Out.Sent 1 (Reply.WriteFailed 1 1 Status.FileClosed) ∷ [])
    ∷ (Out.Sent 1 (Reply.CloseFailed 1 Status.FileClosed) ∷ [])
    ∷ (Out.Opened 1 2 ∷ Out.Sent 2 (created_plain 1 1) ∷ [])
    ∷ (Out.Sent 1 (Reply.ReadFailed 1 Status.FileClosed) ∷ [])
    ∷ (Out.Sent 1 (Reply.WriteFailed 1 2 Status.FileClosed) ∷ [])
    ∷ (Out.Sent 1 (Reply.CloseFailed 1 Status.FileClosed) ∷ [])
    ∷ []

abbrev pub denied_calls : List Call
denied_calls =
    Call.Receive 1 (keyed 1 Access.ReadWrite Share.ReadWrite sample_key RH)
    ∷ Call.Receive 2 (plain 1 Access.Read Share.ReadWrite)
    ∷ Call.Receive 2 (write_of 2 1 (at 0 (0x58 ∷ [])))
    ∷ Call.Receive 2 (write_of 2 2 (at FILE_LIMIT (0x58 ∷ [])))
    ∷ Call.Receive 2 (plain 1 Access.Write Share.ReadWrite)
    ∷ Call.Receive 2 (read_of 3)
    ∷ Call.Receive 2 (write_of 3 3 (at FILE_LIMIT (0x58 ∷ [])))
    ∷ Call.Receive 2 (write_of 3 4 (at (FILE_LIMIT + 1) []))
    ∷ []

-- Client 1 has RH, and no break is sent to it: a write without write access is denied, also where it ends
-- past the limit; a read without read access is denied; a write that ends past the limit is invalid, also
-- one of no bytes.
abbrev pub DeniedBreaksNothing : Type 0
DeniedBreaksNothing = outs_along three_joined denied_calls ≡
    (Out.Opened 1 1 ∷ Out.Sent 1 (created 1 1 sample_key RH false false) ∷ [])
    ∷ (Out.Opened 1 2 ∷ Out.Sent 2 (created_plain 1 2) ∷ [])
    ∷ (Out.Sent 2 (Reply.WriteFailed 2 1 Status.AccessDenied) ∷ [])
    ∷ (Out.Sent 2 (Reply.WriteFailed 2 2 Status.AccessDenied) ∷ [])
    ∷ (Out.Opened 1 2 ∷ Out.Sent 2 (created_plain 1 3) ∷ [])
    ∷ (Out.Sent 2 (Reply.ReadFailed 3 Status.AccessDenied) ∷ [])
    ∷ (Out.Sent 2 (Reply.WriteFailed 3 3 Status.InvalidParameter) ∷ [])
    ∷ (Out.Sent 2 (Reply.WriteFailed 3 4 Status.InvalidParameter) ∷ [])
    ∷ []

-- a server on which client 1 has R, once this FileId was given
abbrev pub with_last_id : ℕ → Server
with_last_id last_id = record (server_after three_joined
    (Call.Receive 1 (keyed 1 Access.ReadWrite Share.ReadWrite sample_key R) ∷ [])) { last_id = last_id }

abbrev pub more_wanted : Call
more_wanted = Call.Receive 1 (keyed 1 Access.ReadWrite Share.ReadWrite sample_key RH)

-- The last FileId is given. After it a create is refused, and its key's lease stays as it was.
abbrev pub FileIdsUsedUp : Type 0
FileIdsUsedUp =
    (outs_along (with_last_id (last_file_id - 1)) (more_wanted ∷ more_wanted ∷ []) ≡
    (Out.Opened 1 1 ∷ Out.Sent 1 (created 1 last_file_id sample_key RH false false) ∷ [])
    ∷ (Out.Sent 1 (Reply.CreateFailed 1 Status.InsufficientResources) ∷ [])
    ∷ [])
    × ((called (with_last_id last_file_id) more_wanted).server.leases sample_named
    ≡ record { state = R; broken_to = None })
