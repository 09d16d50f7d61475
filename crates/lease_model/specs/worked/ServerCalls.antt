-- Worked calls of a server: a lease that is broken for another client, acknowledgments, and passes.
use Rattle.std.specs.Prelude.{◌≡◌, ℕ, true, false, None, Some, List, [], ◌∷◌, map, take}
use Rattle.lease_state.specs.State.{State, state_of_bits, nothing_cached}
use Rattle.lease_state.specs.declared.access.Access.{Access}
use Rattle.lease_state.specs.declared.access.Share.{Share}
use Rattle.lease_state.specs.declared.status.Status.{Status}
use Rattle.lease_model.specs.messages.Replies.{Reply, Out}
use Rattle.lease_model.specs.messages.Requests.{Request}
use Rattle.lease_model.specs.server.Allowed.{allowed}
use Rattle.lease_model.specs.server.Calls.{Call}
use Rattle.lease_model.specs.server.State.{Server}
use Rattle.lease_model.specs.worked.MessageWords.{keyed, plain, write_of, close_of, acknowledging, done_acknowledging, created}
use Rattle.lease_model.specs.worked.MessageWords.{created_plain, break_of}
use Rattle.lease_model.specs.worked.ServerWords.{server_after, outs_along, sample_named, two_files}
use Rattle.lease_model.specs.worked.ValueWords.{R, RH, RWH, at, sample_key}

-- a create that asks for a lease under the sample key, and the reply that gives it
abbrev pub leased : ℕ → Access → Share → State → Request
leased file access share want = keyed file access share sample_key want

abbrev pub created_leased : ℕ → ℕ → State → Reply
created_leased file file_id state = created file file_id sample_key state false false

abbrev pub shared_calls : List Call
shared_calls =
    Call.Join 1
    ∷ Call.Join 2
    ∷ Call.Receive 1 (leased 1 Access.ReadWrite Share.ReadWrite RWH)
    ∷ Call.Receive 2 (plain 1 Access.Read Share.ReadWrite)
    ∷ Call.Receive 1 (acknowledging sample_key RH)
    ∷ []

abbrev pub later_calls : List Call
later_calls =
    Call.Receive 2 (write_of 2 1 (at 0 (0x59 ∷ [])))
    ∷ Call.Receive 2 (close_of 2)
    ∷ Call.Receive 2 (close_of 2)
    ∷ Call.Receive 1 (leased 1 Access.ReadWrite Share.ReadWrite RWH)
    ∷ Call.Receive 1 (leased 2 Access.ReadWrite Share.ReadWrite RWH)
    ∷ Call.Receive 1 (leased 3 Access.ReadWrite Share.ReadWrite RWH)
    ∷ []

-- One open list: a break, its acknowledgment and the held create, then refusals.
abbrev pub SharedCalls : Type 0
SharedCalls = outs_along two_files shared_calls ≡
    []
    ∷ []
    ∷ (Out.Opened 1 1 ∷ Out.Sent 1 (created_leased 1 1 RWH) ∷ [])
    ∷ (Out.Sent 1 (break_of sample_key RWH RH true) ∷ [])
    ∷ (Out.Sent 1 (done_acknowledging sample_key RH) ∷ Out.Opened 1 2 ∷ Out.Sent 2 (created_plain 1 2) ∷ [])
    ∷ []

abbrev pub SharedAllowed : Type 0
SharedAllowed =
    allowed (server_after two_files shared_calls) (Some sample_named) 1 RWH ≡ RH

abbrev pub LaterCalls : Type 0
LaterCalls = outs_along (server_after two_files shared_calls) later_calls ≡
    (Out.Sent 2 (Reply.WriteFailed 2 1 Status.AccessDenied) ∷ [])
    ∷ (Out.Sent 2 (Reply.Closed 2) ∷ [])
    ∷ (Out.Sent 2 (Reply.CloseFailed 2 Status.FileClosed) ∷ [])
    ∷ (Out.Opened 1 1 ∷ Out.Sent 1 (created_leased 1 3 RWH) ∷ [])
    ∷ (Out.Sent 1 (Reply.CreateFailed 2 Status.InvalidParameter) ∷ [])
    ∷ (Out.Sent 1 (Reply.CreateFailed 3 Status.ObjectNameNotFound) ∷ [])
    ∷ []

-- a lease that is breaking from RWH to RH
abbrev pub breaking_calls : List Call
breaking_calls =
    Call.Join 1
    ∷ Call.Join 2
    ∷ Call.Receive 1 (leased 1 Access.ReadWrite Share.ReadWrite RWH)
    ∷ Call.Receive 2 (leased 1 Access.ReadWrite Share.ReadWrite RWH)
    ∷ []

abbrev pub acknowledging_calls : List Call
acknowledging_calls =
    Call.Receive 1 (acknowledging sample_key RWH)
    ∷ Call.Receive 1 (Request.Acknowledge None)
    ∷ Call.Receive 1 (acknowledging [] RH)
    ∷ Call.Receive 1 (acknowledging sample_key RH)
    ∷ Call.Receive 1 (acknowledging sample_key RH)
    ∷ []

-- Acknowledgments above the state broken to, unreadable, of an unknown key, as it should be (the
-- create that waited is answered), and once more.
abbrev pub Acknowledgments : Type 0
Acknowledgments = outs_along (server_after two_files breaking_calls) acknowledging_calls ≡
    (Out.Sent 1 (Reply.AckFailed Status.RequestNotAccepted) ∷ [])
    ∷ (Out.Sent 1 (Reply.AckFailed Status.InvalidParameter) ∷ [])
    ∷ (Out.Sent 1 (Reply.AckFailed Status.ObjectNameNotFound) ∷ [])
    ∷ (Out.Sent 1 (done_acknowledging sample_key RH)
    ∷ Out.Opened 1 2 ∷ Out.Sent 2 (created_leased 1 2 RH) ∷ [])
    ∷ (Out.Sent 1 (Reply.AckFailed Status.Unsuccessful) ∷ [])
    ∷ []

-- what a create on a file without opens is given for these bits
abbrev pub given_for : ℕ → List (List Out)
given_for bits = outs_along two_files
    (Call.Join 1 ∷ Call.Receive 1 (leased 1 Access.ReadWrite Share.ReadWrite (state_of_bits bits)) ∷ [])

abbrev pub given : State → List (List Out)
given state = [] ∷ (Out.Opened 1 1 ∷ Out.Sent 1 (created_leased 1 1 state) ∷ []) ∷ []

-- A state without R is granted nothing; of all bits the three that have a name are granted.
abbrev pub OddStates : Type 0
OddStates = (given_for 2 ∷ given_for 4 ∷ given_for 6 ∷ given_for 0xffffffff ∷ []) ≡
    given nothing_cached ∷ given nothing_cached ∷ given nothing_cached ∷ given RWH ∷ []

-- Once the plain open is closed, the lease's client could have RWH for its key, and another client
-- RH. Closing one of the two opens changes nothing; closing both leaves the file to anybody.
abbrev pub after_closing : List ℕ → Server
after_closing file_ids = server_after (server_after (server_after two_files shared_calls) later_calls)
    (map (λ file_id. Call.Receive 1 (close_of file_id)) file_ids)

abbrev pub LaterAllowed : Type 0
LaterAllowed =
    (allowed (after_closing []) (Some sample_named) 1 RWH
    ∷ allowed (after_closing []) None 1 RWH
    ∷ allowed (after_closing (1 ∷ [])) (Some sample_named) 1 RWH
    ∷ allowed (after_closing (1 ∷ [])) None 1 RWH
    ∷ allowed (after_closing (1 ∷ 3 ∷ [])) None 1 RWH ∷ [])
    ≡ RWH ∷ RH ∷ RWH ∷ RH ∷ RWH ∷ []

-- clients 2 and 3 have RH, and client 1 wants the file for itself alone
abbrev pub waiting_calls : List Call
waiting_calls =
    Call.Join 1
    ∷ Call.Join 2
    ∷ Call.Join 3
    ∷ Call.Receive 2 (leased 1 Access.ReadWrite Share.ReadWrite RH)
    ∷ Call.Receive 3 (leased 1 Access.ReadWrite Share.ReadWrite RH)
    ∷ Call.Receive 1 (plain 1 Access.ReadWrite Share.Nothing)
    ∷ Call.Receive 2 (write_of 1 1 (at 0 (0x58 ∷ [])))
    ∷ Call.Receive 2 (close_of 1)
    ∷ Call.Receive 3 (acknowledging sample_key R)
    ∷ []

-- The create of client 1 waits for two leases, the write of client 2 for one of them, and the close
-- of client 2 after its write. With the acknowledgment of client 3 a first pass answers the write,
-- for which the lease of reads that is left there is broken at once, and the close; a second pass
-- finds nobody left who could give up handles, and refuses the create.
abbrev pub TwoPasses : Type 0
TwoPasses = outs_along two_files waiting_calls ≡
    []
    ∷ []
    ∷ []
    ∷ (Out.Opened 1 2 ∷ Out.Sent 2 (created_leased 1 1 RH) ∷ [])
    ∷ (Out.Opened 1 3 ∷ Out.Sent 3 (created_leased 1 2 RH) ∷ [])
    ∷ (Out.Sent 2 (break_of sample_key RH R true) ∷ Out.Sent 3 (break_of sample_key RH R true) ∷ [])
    ∷ []
    ∷ []
    ∷ (Out.Sent 3 (done_acknowledging sample_key R)
    ∷ Out.Sent 3 (break_of sample_key R nothing_cached false)
    ∷ Out.Changed 1 2 1 (at 0 (0x58 ∷ []))
    ∷ Out.Sent 2 (Reply.WriteDone 1 1)
    ∷ Out.Sent 2 (Reply.Closed 1)
    ∷ Out.Sent 1 (Reply.CreateFailed 1 Status.SharingViolation)
    ∷ [])
    ∷ []

-- Of those that wait the write is taken back: it is never done, and the close that waited behind it is answered. Later one
-- waits, and a mark at another place marks none.
abbrev pub TakenBack : Type 0
TakenBack = outs_along (server_after two_files (take 8 waiting_calls))
    (Call.Withdraw 1 (false ∷ true ∷ [])
    ∷ Call.Withdraw 1 (false ∷ true ∷ [])
    ∷ Call.Receive 3 (acknowledging sample_key R)
    ∷ [])
    ≡
    (Out.Sent 2 (Reply.Closed 1) ∷ [])
    ∷ []
    ∷ (Out.Sent 3 (done_acknowledging sample_key R)
    ∷ Out.Sent 1 (Reply.CreateFailed 1 Status.SharingViolation) ∷ [])
    ∷ []
