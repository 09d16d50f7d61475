-- Worked calls of a manager, and what its host does.
use Rattle.std.specs.Prelude.{◌≡◌, ℕ, true, false, Some, None, List, [], ◌∷◌}
use Rattle.lease_state.specs.State.{State, nothing_cached}
use Rattle.lease_state.specs.declared.access.Access.{Access}
use Rattle.lease_state.specs.declared.access.Share.{Share}
use Rattle.lease_state.specs.declared.status.Status.{Status}
use Rattle.lease_model.specs.messages.Replies.{CreateAnswer, BreakNotice}
use Rattle.lease_model.specs.messages.Requests.{FileRequest, LeaseOf}
use Rattle.lease_model.specs.server.GivingUp.{Extent}
use Rattle.lease_model.specs.worked.ServerWords.{two_files}
use Rattle.lease_model.specs.worked.ValueWords.{RH, RWH, at, later_key, sample_key, third_guid}
use Rattle.manager_model.specs.Bare.{bare}
use Rattle.manager_model.specs.Decisions.{Decision}
use Rattle.manager_model.specs.Handling.{Manager}
use Rattle.manager_model.specs.Hosting.{Coming, Host, asked_by, hosted, managed}

-- The manager of a server with two files, and its host: `abc` is in file 1.
abbrev pub first_manager : Manager
first_manager = record { server = bare two_files; queues = λ file. [] }

abbrev pub first_host : Host
first_host = record { contents = two_files.contents; handles = λ file_id. 0 }

abbrev pub asks_nothing : ℕ → FileRequest
asks_nothing tag = FileRequest.Close 0

-- what each of these calls tells
unfoldable pub told_along : Manager → List Coming → List (List Decision)
told_along manager [] = []
told_along manager (coming ∷ comings) =
    (managed manager coming).told ∷ told_along (managed manager coming).manager comings

unfoldable pub manager_after : Manager → List Coming → Manager
manager_after manager [] = manager
manager_after manager (coming ∷ comings) = manager_after (managed manager coming).manager comings

-- the host after it did all that it was told
unfoldable pub host_after : (ℕ → FileRequest) → Manager → Host → List Coming → Host
host_after requests manager host [] = host
host_after requests manager host (coming ∷ comings) = host_after (asked_by requests coming)
    (managed manager coming).manager (hosted (asked_by requests coming) host (managed manager coming)).host comings

-- a create under a key, and the lease that it is told
abbrev pub create_on : ℕ → List ℕ → State → FileRequest
create_on file key want = FileRequest.Create file Access.ReadWrite Share.ReadWrite
    (Some (record { lease = Some (record { key = key; state = want }); durable = false; reconnect = None }))

abbrev pub create_under : List ℕ → State → FileRequest
create_under key want = create_on 1 key want

-- sixteen bytes 33
abbrev pub other_key : List ℕ
other_key = third_guid

abbrev pub lease_of : List ℕ → State → CreateAnswer
lease_of key state = record {
  lease = Some (record { key = key; state = state; in_progress = false });
  durable = false;
}

abbrev pub break_to : List ℕ → State → State → BreakNotice
break_to key current lowered = record { ack_required = true; key = key; current = current; lowered = lowered }

abbrev pub acknowledged : List ℕ → State → LeaseOf
acknowledged key state = record { key = key; state = state }

-- Client 1 has the lease. Client 2 asks for one, and waits until client 1 has flushed its write and acknowledged the break.
abbrev pub shared_calls : List Coming
shared_calls =
    Coming.Joins 1 ∷ Coming.Joins 2
    ∷ Coming.Asks 1 10 (create_under sample_key RWH)
    ∷ Coming.Asks 2 20 (create_under later_key RWH)
    ∷ Coming.Asks 1 11 (FileRequest.Write 1 7 (at 0 (0x58 ∷ [])))
    ∷ Coming.Acknowledges 1 (Some (acknowledged sample_key RH))
    ∷ Coming.Asks 2 21 (FileRequest.Read 2)
    ∷ Coming.Asks 2 22 (FileRequest.Close 9)
    ∷ []

abbrev pub SharedIsTold : Type 0
SharedIsTold = told_along first_manager shared_calls ≡
    [] ∷ []
    ∷ (Decision.Opened 1 10 1 (lease_of sample_key RWH) ∷ [])
    ∷ (Decision.Breaks 1 (break_to sample_key RWH RH) ∷ Decision.Waits 2 20 ∷ [])
    ∷ (Decision.GoesOn 1 11 ∷ [])
    ∷ (Decision.Acknowledged 1 (acknowledged sample_key RH) ∷ Decision.Opened 2 20 2 (lease_of later_key RH) ∷ [])
    ∷ (Decision.GoesOn 2 21 ∷ [])
    ∷ (Decision.Refused 2 22 Status.FileClosed ∷ [])
    ∷ []

-- the write stands in the file
abbrev pub WriteIsThere : Type 0
WriteIsThere = (host_after asks_nothing first_manager first_host shared_calls).contents 1 ≡ 0x58 ∷ 0x62 ∷ 0x63 ∷ []

-- The create that waits is withdrawn: it waits no longer, and nothing is told of it once the break is acknowledged.
abbrev pub waiting_calls : List Coming
waiting_calls =
    Coming.Joins 1 ∷ Coming.Joins 2
    ∷ Coming.Asks 1 10 (create_under sample_key RWH)
    ∷ Coming.Asks 2 20 (create_under later_key RWH)
    ∷ []

abbrev pub WithdrawnIsTold : Type 0
WithdrawnIsTold = told_along (manager_after first_manager waiting_calls)
    (Coming.Withdraws 1 2 20 ∷ Coming.Acknowledges 1 (Some (acknowledged sample_key RH)) ∷ [])
    ≡ (Decision.Withdrawn 2 20 ∷ []) ∷ (Decision.Acknowledged 1 (acknowledged sample_key RH) ∷ []) ∷ []

-- one that doesn't wait isn't
abbrev pub NoneIsWithdrawn : Type 0
NoneIsWithdrawn = told_along (manager_after first_manager waiting_calls) (Coming.Withdraws 1 2 21 ∷ []) ≡ [] ∷ []

-- A durable open is left behind when its client is cut. It ends when another client opens the file, whose own open isn't
-- durable, and ends when that client is cut.
abbrev pub left_calls : List Coming
left_calls =
    Coming.Joins 1 ∷ Coming.Joins 2
    ∷ Coming.Asks 1 10 (FileRequest.Create 1 Access.ReadWrite Share.ReadWrite
    (Some (record { lease = Some (record { key = sample_key; state = RWH }); durable = true; reconnect = None })))
    ∷ Coming.IsCut 1
    ∷ Coming.Asks 2 20 (create_under later_key RWH)
    ∷ Coming.IsCut 2
    ∷ []

abbrev pub LeftIsTold : Type 0
LeftIsTold = told_along first_manager left_calls ≡
    [] ∷ []
    ∷ (Decision.Opened 1 10 1 (record (lease_of sample_key RWH) { durable = true }) ∷ [])
    ∷ (Decision.LeftBehind 1 ∷ [])
    ∷ (Decision.Ended 1 ∷ Decision.Opened 2 20 2 (lease_of later_key RWH) ∷ [])
    ∷ (Decision.Ended 2 ∷ [])
    ∷ []

-- A client leaves a durable open, one that isn't, and a create that waits, and stays: the first waits for it, the second ends,
-- and
-- of the create nothing is told once the other client has closed its open. Another of its creates is answered.
abbrev pub leaving_calls : List Coming
leaving_calls =
    Coming.Joins 1 ∷ Coming.Joins 2
    ∷ Coming.Asks 1 10 (FileRequest.Create 1 Access.ReadWrite Share.ReadWrite
    (Some (record { lease = Some (record { key = sample_key; state = RWH }); durable = true; reconnect = None })))
    ∷ Coming.Asks 1 11 (FileRequest.Create 2 Access.ReadWrite Share.ReadWrite
    (Some (record { lease = None; durable = false; reconnect = None })))
    ∷ Coming.Leaves 1 (1 ∷ 2 ∷ []) []
    ∷ Coming.Asks 2 20 (create_on 2 later_key RWH)
    ∷ Coming.Asks 1 12 (create_on 2 sample_key RWH)
    ∷ Coming.Asks 1 13 (create_on 2 other_key RWH)
    ∷ Coming.Leaves 1 [] (12 ∷ 20 ∷ [])
    ∷ Coming.Asks 2 21 (FileRequest.Close 3)
    ∷ []

abbrev pub LeavingIsTold : Type 0
LeavingIsTold = told_along first_manager leaving_calls ≡
    [] ∷ []
    ∷ (Decision.Opened 1 10 1 (record (lease_of sample_key RWH) { durable = true }) ∷ [])
    ∷ (Decision.Opened 1 11 2 (record { lease = None; durable = false }) ∷ [])
    ∷ (Decision.Ended 2 ∷ Decision.LeftBehind 1 ∷ [])
    ∷ (Decision.Opened 2 20 3 (lease_of later_key RWH) ∷ [])
    ∷ (Decision.Refused 1 12 Status.InvalidParameter ∷ [])
    ∷ (Decision.Breaks 2 (break_to later_key RWH RH) ∷ Decision.Waits 1 13 ∷ [])
    ∷ []
    ∷ (Decision.Closed 2 21 ∷ Decision.Opened 1 13 4 (lease_of other_key RWH) ∷ [])
    ∷ []

-- What a program of the host's is about to change is given up by one break; a key that is spared gives up nothing.
abbrev pub giving_up_calls : List Coming
giving_up_calls =
    Coming.Joins 1
    ∷ Coming.Asks 1 10 (create_under sample_key RWH)
    ∷ Coming.GivesUp (Some (record { client = 1; bytes = sample_key })) 1 Extent.All
    ∷ Coming.GivesUp None 1 Extent.All
    ∷ Coming.Acknowledges 1 (Some (acknowledged sample_key nothing_cached))
    ∷ Coming.GivesUp None 1 Extent.All
    ∷ []

abbrev pub GivingUpIsTold : Type 0
GivingUpIsTold = told_along first_manager giving_up_calls ≡
    []
    ∷ (Decision.Opened 1 10 1 (lease_of sample_key RWH) ∷ [])
    ∷ []
    ∷ (Decision.Breaks 1 (break_to sample_key RWH nothing_cached) ∷ [])
    ∷ (Decision.Acknowledged 1 (acknowledged sample_key nothing_cached) ∷ [])
    ∷ []
    ∷ []
