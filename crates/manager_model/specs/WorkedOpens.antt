-- Worked calls of a manager that show what it keeps of an open: its access, its share, and whether it is connected.
use Rattle.std.specs.Prelude.{◌≡◌, ℕ, true, false, Some, None, List, [], ◌∷◌}
use Rattle.lease_state.specs.declared.access.Access.{Access}
use Rattle.lease_state.specs.declared.access.Share.{Share}
use Rattle.lease_state.specs.declared.status.Status.{Status}
use Rattle.lease_model.specs.messages.Requests.{FileRequest}
use Rattle.lease_model.specs.worked.ValueWords.{RWH, later_key, sample_key}
use Rattle.manager_model.specs.Decisions.{Decision}
use Rattle.manager_model.specs.Hosting.{Coming}
use Rattle.manager_model.specs.Worked.{first_manager, lease_of, told_along}

-- a create of file 1 without a key
abbrev pub bare_create : Access → Share → FileRequest
bare_create access share =
    FileRequest.Create 1 access share (Some (record { lease = None; durable = false; reconnect = None }))

-- its answer
abbrev pub opened : ℕ → ℕ → ℕ → Decision
opened client tag file_id = Decision.Opened client tag file_id (record { lease = None; durable = false })

-- Client 1 reads, and lets others do each thing in turn: read, write, neither, both. Client 2 wants to read, and then to write.
abbrev pub share_calls : List Coming
share_calls =
    Coming.Joins 1 ∷ Coming.Joins 2
    ∷ Coming.Asks 1 1 (bare_create Access.Read Share.Read)
    ∷ Coming.Asks 2 2 (bare_create Access.Read Share.ReadWrite)
    ∷ Coming.Asks 2 3 (bare_create Access.Write Share.ReadWrite)
    ∷ Coming.Asks 1 4 (FileRequest.Close 1)
    ∷ Coming.Asks 2 5 (FileRequest.Close 2)
    ∷ Coming.Asks 1 6 (bare_create Access.Read Share.Write)
    ∷ Coming.Asks 2 7 (bare_create Access.Read Share.ReadWrite)
    ∷ Coming.Asks 2 8 (bare_create Access.Write Share.ReadWrite)
    ∷ Coming.Asks 1 9 (FileRequest.Close 3)
    ∷ Coming.Asks 2 10 (FileRequest.Close 4)
    ∷ Coming.Asks 1 11 (bare_create Access.Read Share.Nothing)
    ∷ Coming.Asks 2 12 (bare_create Access.Read Share.ReadWrite)
    ∷ Coming.Asks 2 13 (bare_create Access.Write Share.ReadWrite)
    ∷ Coming.Asks 1 14 (FileRequest.Close 5)
    ∷ Coming.Asks 1 15 (bare_create Access.Read Share.ReadWrite)
    ∷ Coming.Asks 2 16 (bare_create Access.Read Share.ReadWrite)
    ∷ Coming.Asks 2 17 (bare_create Access.Write Share.ReadWrite)
    ∷ Coming.Asks 1 18 (FileRequest.Close 6)
    ∷ Coming.Asks 2 19 (FileRequest.Close 7)
    ∷ Coming.Asks 2 20 (FileRequest.Close 8)
    ∷ []

-- It may do what the share of client 1 lets it do, and nothing else.
abbrev pub SharesKeepOthersOut : Type 0
SharesKeepOthersOut = told_along first_manager share_calls ≡
    [] ∷ []
    ∷ (opened 1 1 1 ∷ [])
    ∷ (opened 2 2 2 ∷ [])
    ∷ (Decision.Refused 2 3 Status.SharingViolation ∷ [])
    ∷ (Decision.Closed 1 4 ∷ [])
    ∷ (Decision.Closed 2 5 ∷ [])
    ∷ (opened 1 6 3 ∷ [])
    ∷ (Decision.Refused 2 7 Status.SharingViolation ∷ [])
    ∷ (opened 2 8 4 ∷ [])
    ∷ (Decision.Closed 1 9 ∷ [])
    ∷ (Decision.Closed 2 10 ∷ [])
    ∷ (opened 1 11 5 ∷ [])
    ∷ (Decision.Refused 2 12 Status.SharingViolation ∷ [])
    ∷ (Decision.Refused 2 13 Status.SharingViolation ∷ [])
    ∷ (Decision.Closed 1 14 ∷ [])
    ∷ (opened 1 15 6 ∷ [])
    ∷ (opened 2 16 7 ∷ [])
    ∷ (opened 2 17 8 ∷ [])
    ∷ (Decision.Closed 1 18 ∷ [])
    ∷ (Decision.Closed 2 19 ∷ [])
    ∷ (Decision.Closed 2 20 ∷ [])
    ∷ []

-- Client 1 does each thing in turn: reads, writes, both. Client 2 lets others only read, and then only write.
abbrev pub access_calls : List Coming
access_calls =
    Coming.Joins 1 ∷ Coming.Joins 2
    ∷ Coming.Asks 1 1 (bare_create Access.Read Share.ReadWrite)
    ∷ Coming.Asks 2 2 (bare_create Access.Read Share.Read)
    ∷ Coming.Asks 2 3 (FileRequest.Close 2)
    ∷ Coming.Asks 2 4 (bare_create Access.Read Share.Write)
    ∷ Coming.Asks 1 5 (FileRequest.Close 1)
    ∷ Coming.Asks 1 6 (bare_create Access.Write Share.ReadWrite)
    ∷ Coming.Asks 2 7 (bare_create Access.Read Share.Read)
    ∷ Coming.Asks 2 8 (bare_create Access.Read Share.Write)
    ∷ Coming.Asks 1 9 (FileRequest.Close 3)
    ∷ Coming.Asks 2 10 (FileRequest.Close 4)
    ∷ Coming.Asks 1 11 (bare_create Access.ReadWrite Share.ReadWrite)
    ∷ Coming.Asks 2 12 (bare_create Access.Read Share.Read)
    ∷ Coming.Asks 2 13 (bare_create Access.Read Share.Write)
    ∷ Coming.Asks 1 14 (FileRequest.Close 5)
    ∷ []

-- It may, where that is all that client 1 does, and only there.
abbrev pub AccessesKeepOthersOut : Type 0
AccessesKeepOthersOut = told_along first_manager access_calls ≡
    [] ∷ []
    ∷ (opened 1 1 1 ∷ [])
    ∷ (opened 2 2 2 ∷ [])
    ∷ (Decision.Closed 2 3 ∷ [])
    ∷ (Decision.Refused 2 4 Status.SharingViolation ∷ [])
    ∷ (Decision.Closed 1 5 ∷ [])
    ∷ (opened 1 6 3 ∷ [])
    ∷ (Decision.Refused 2 7 Status.SharingViolation ∷ [])
    ∷ (opened 2 8 4 ∷ [])
    ∷ (Decision.Closed 1 9 ∷ [])
    ∷ (Decision.Closed 2 10 ∷ [])
    ∷ (opened 1 11 5 ∷ [])
    ∷ (Decision.Refused 2 12 Status.SharingViolation ∷ [])
    ∷ (Decision.Refused 2 13 Status.SharingViolation ∷ [])
    ∷ (Decision.Closed 1 14 ∷ [])
    ∷ []

-- a create that asks for a durable open, with all of a lease
abbrev pub durable_create : ℕ → List ℕ → FileRequest
durable_create file key = FileRequest.Create file Access.ReadWrite Share.ReadWrite
    (Some (record { lease = Some (record { key = key; state = RWH }); durable = true; reconnect = None }))

-- one that connects it again
abbrev pub reconnect : ℕ → List ℕ → ℕ → FileRequest
reconnect file key file_id = FileRequest.Create file Access.ReadWrite Share.ReadWrite
    (Some (record { lease = Some (record { key = key; state = RWH }); durable = false; reconnect = Some file_id }))

-- Client 1 has durable opens of two files, is cut, comes back, and connects the first again.
abbrev pub reconnect_calls : List Coming
reconnect_calls =
    Coming.Joins 1
    ∷ Coming.Asks 1 1 (durable_create 1 sample_key)
    ∷ Coming.Asks 1 2 (durable_create 2 later_key)
    ∷ Coming.IsCut 1
    ∷ Coming.Joins 1
    ∷ Coming.Asks 1 3 (reconnect 1 sample_key 1)
    ∷ Coming.Asks 1 4 (FileRequest.Read 1)
    ∷ Coming.Asks 1 5 (FileRequest.Read 2)
    ∷ Coming.Asks 1 6 (reconnect 2 later_key 2)
    ∷ Coming.Asks 1 7 (FileRequest.Read 2)
    ∷ []

-- Each is there once it was connected again itself, and not before.
abbrev pub EachIsConnectedAlone : Type 0
EachIsConnectedAlone = told_along first_manager reconnect_calls ≡
    []
    ∷ (Decision.Opened 1 1 1 (record (lease_of sample_key RWH) { durable = true }) ∷ [])
    ∷ (Decision.Opened 1 2 2 (record (lease_of later_key RWH) { durable = true }) ∷ [])
    ∷ (Decision.LeftBehind 1 ∷ Decision.LeftBehind 2 ∷ [])
    ∷ []
    ∷ (Decision.Opened 1 3 1 (lease_of sample_key RWH) ∷ [])
    ∷ (Decision.GoesOn 1 4 ∷ [])
    ∷ (Decision.Refused 1 5 Status.FileClosed ∷ [])
    ∷ (Decision.Opened 1 6 2 (lease_of later_key RWH) ∷ [])
    ∷ (Decision.GoesOn 1 7 ∷ [])
    ∷ []
