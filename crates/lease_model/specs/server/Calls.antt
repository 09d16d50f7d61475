-- The calls of the server: a client's connection comes or goes, a request comes or is taken back, a timer runs out, a client
-- leaves some of its opens, other keys give up what they hold.
-- A call that doesn't apply changes nothing and gives nothing out.
use Rattle.std.specs.Prelude.{ℕ, Bool, true, false, Option, Some, None, List, [], map, Result, Ok, Err, if◌then◌else◌, ◌==◌, ◌&&◌}
use Rattle.std.specs.Prelude.{not}
use Rattle.std.specs.List.{list_any}
use Rattle.lease_state.specs.declared.status.Status.{Status}
use Rattle.lease_model.specs.server.Acknowledge.{acknowledged}
use Rattle.lease_model.specs.server.Answers.{concluded}
use Rattle.lease_model.specs.server.Attempt.{Outcome, tried}
use Rattle.lease_model.specs.server.GivingUp.{Extent, others_broken}
use Rattle.lease_model.specs.values.Keys.{Key}
use Rattle.lease_model.specs.values.Lists.{without, unmarked, has_marked}
use Rattle.lease_model.specs.server.Passes.{all_passes}
use Rattle.lease_model.specs.server.Progress.{Progress, begun, stepped, opens_dropped, request_held, held_left, refused}
use Rattle.lease_model.specs.messages.Requests.{FileRequest, Request, CreateAsk}
use Rattle.lease_model.specs.server.State.{Server, Open, Held, has_file, has_key, is_breaking}
use Rattle.lease_model.specs.server.Lanes.{as_held, is_behind}
use Rattle.lease_model.specs.values.Tables.{put, put_key}
use Rattle.lease_model.specs.server.Findings.{connected_open}
use Rattle.lease_model.specs.server.Naming.{lease_of_open}

-- the file of a request, or the status that refuses it as it comes
abbrev pub file_of_open : Option Open → Result ℕ Status
file_of_open None = Err Status.FileClosed
file_of_open (Some one) = Ok one.file

abbrev pub file_of_create : Server → ℕ → Option CreateAsk → Result ℕ Status
file_of_create server file None = Err Status.InvalidParameter
file_of_create server file (Some ask) = if has_file server file then Ok file else Err Status.ObjectNameNotFound

abbrev pub file_asked : Server → ℕ → FileRequest → Result ℕ Status
file_asked server client (FileRequest.Create file access share contexts) = file_of_create server file contexts
file_asked server client (FileRequest.Read file_id) = file_of_open (connected_open server client file_id)
file_asked server client (FileRequest.Write file_id number patch) =
    file_of_open (connected_open server client file_id)
file_asked server client (FileRequest.Close file_id) = file_of_open (connected_open server client file_id)

abbrev pub after_first_try : ℕ → Held → Progress → Outcome → Progress
after_first_try file one progress Outcome.Waits = request_held file one progress
after_first_try file one progress outcome = concluded one.client one.request progress outcome

-- A request waits after an earlier one that it waits behind (profile), and else is tried.
abbrev pub arrived_before : Held → Progress → Result ℕ Status → Progress
arrived_before one progress (Err status) = refused one.client one.request status progress
arrived_before one progress (Ok file) =
    if is_behind progress.server.rules one (progress.server.held file)
    then request_held file one progress
    else after_first_try file one
    (tried one.client one.request progress).progress (tried one.client one.request progress).outcome

abbrev pub arrived_on : ℕ → FileRequest → Progress → Result ℕ Status → Progress
arrived_on client request progress asked = arrived_before (as_held progress.server client request) progress asked

abbrev pub first_tried : ℕ → FileRequest → Progress → Progress
first_tried client request progress =
    arrived_on client request progress (file_asked progress.server client request)

-- after a close held requests are tried again, whatever became of it
abbrev pub file_request_arrived : ℕ → FileRequest → Progress → Progress
file_request_arrived client (FileRequest.Close file_id) progress =
    all_passes (first_tried client (FileRequest.Close file_id) progress)
file_request_arrived client request progress = first_tried client request progress

-- A request of a connected client comes (MS-SMB2 3.3.5). Acknowledgments never wait, and after each of
-- them held requests are tried again.
unfoldable pub arrived : ℕ → Request → Progress → Progress
arrived client (Request.Acknowledge given) progress = all_passes (acknowledged client given progress)
arrived client (Request.OnFile request) progress = file_request_arrived client request progress

unfoldable pub receive : Server → ℕ → Request → Progress
receive server client request =
    if server.present client then arrived client request (begun server) else begun server

-- A client connects (3.3.5.1), and its keys are no longer expired (profile).
abbrev pub joined : ℕ → Progress → Progress
joined client progress = stepped progress (record progress.server {
  present = put progress.server.present client true;
  expired = λ key. if key.client == client then false else progress.server.expired key;
}) []

unfoldable pub join : Server → ℕ → Progress
join server client = if server.present client then begun server else joined client (begun server)

-- Own (3.3.7.1): an open outlives its client's connection where it is durable, its lease holds H,
-- and the lease isn't breaking.
abbrev pub outlives_connection : Server → Open → Bool
outlives_connection server one =
    one.durable && (lease_of_open server one).state.handle && not (is_breaking (lease_of_open server one))

-- connected opens of the client that don't outlive the connection
abbrev pub is_lost : Server → ℕ → Open → Bool
is_lost server client one = one.client == client && one.connected && not (outlives_connection server one)

abbrev pub disconnected : ℕ → Open → Open
disconnected client one = if one.client == client then record one { connected = false } else one

abbrev pub opens_disconnected : ℕ → Progress → Progress
opens_disconnected client progress = stepped progress
    (record progress.server { opens = map (disconnected client) progress.server.opens }) []

-- the connection and the client's held requests are forgotten
abbrev pub client_forgotten : ℕ → Progress → Progress
client_forgotten client progress = stepped progress (record progress.server {
  present = put progress.server.present client false;
  held = λ file. without (λ one. one.client == client) (progress.server.held file);
}) []

-- A client's connection is lost (3.3.7.1).
unfoldable pub cut : Server → ℕ → Progress
cut server client =
    if server.present client
    then all_passes (client_forgotten client (opens_disconnected client
    (opens_dropped (is_lost server client) (begun server))))
    else begun server

-- the opens of the client that have one of these FileIds
abbrev pub is_named : ℕ → List ℕ → Open → Bool
is_named client file_ids one = one.client == client && list_any (λ file_id. one.file_id == file_id) file_ids

-- those that end when they are left: connected ones that don't outlive a connection
abbrev pub is_lost_of : Server → (Open → Bool) → Open → Bool
is_lost_of server test one = test one && one.connected && not (outlives_connection server one)

abbrev pub parted : (Open → Bool) → Open → Open
parted test one = if test one then record one { connected = false } else one

abbrev pub opens_parted : (Open → Bool) → Progress → Progress
opens_parted test progress = stepped progress
    (record progress.server { opens = map (parted test) progress.server.opens }) []

-- on each file the requests that are marked, place by place, wait no longer
abbrev pub requests_left : (ℕ → List Bool) → Progress → Progress
requests_left marks progress = stepped progress
    (record progress.server { held = λ file. unmarked (marks file) (progress.server.held file) }) []

-- A client leaves some of its opens (own): the connection or the session that made them goes, and the client stays, by another
-- one. They stay or end as they would were the client cut (3.3.7.1), and requests that are marked wait no longer.
unfoldable pub leave : Server → ℕ → List ℕ → (ℕ → List Bool) → Progress
leave server client file_ids marks =
    if server.present client
    then all_passes (requests_left marks (opens_parted (is_named client file_ids)
    (opens_dropped (is_lost_of server (is_named client file_ids)) (begun server))))
    else begun server

abbrev pub key_expired : Key → Progress → Progress
key_expired key progress =
    stepped progress (record progress.server { expired = put_key progress.server.expired key true }) []

-- The timer of a lease break runs out (3.3.6.5; profile): all opens of the lease are closed.
unfoldable pub expire : Server → Key → Progress
expire server key =
    if is_breaking (server.leases key)
    then all_passes (key_expired key (opens_dropped (has_key key) (begun server)))
    else begun server

abbrev pub is_left_behind : ℕ → Open → Bool
is_left_behind file_id one = one.file_id == file_id && not one.connected

-- The timer of a durable open runs out (3.3.6.2): a disconnected open is closed.
unfoldable pub scavenge : Server → ℕ → Progress
scavenge server file_id =
    if list_any (is_left_behind file_id) server.opens
    then all_passes (opens_dropped (is_left_behind file_id) (begun server))
    else begun server

-- Requests that wait are taken back (3.3.5.16): those on the file that are marked, place by place, wait no longer. What
-- waits behind them is tried again.
unfoldable pub withdraw : Server → ℕ → List Bool → Progress
withdraw server file marks =
    if has_marked marks (server.held file)
    then all_passes (held_left file (unmarked marks (server.held file)) (begun server))
    else begun server

-- Other keys on a file give up what they hold (own). Then what waits is tried again.
unfoldable pub give_up : Server → Option Key → ℕ → Extent → Progress
give_up server own file extent = all_passes (others_broken server own file extent)

-- any call
pub data Call : Type 0 where
  Join : (client : ℕ) → Call
  Receive : (client : ℕ) (request : Request) → Call
  Cut : (client : ℕ) → Call
  Expire : (key : Key) → Call
  Scavenge : (file_id : ℕ) → Call
  Withdraw : (file : ℕ) (marks : List Bool) → Call
  GiveUp : (own : Option Key) (file : ℕ) (extent : Extent) → Call
  Leave : (client : ℕ) (file_ids : List ℕ) (marks : ℕ → List Bool) → Call

abbrev pub called : Server → Call → Progress
called server (Call.Join client) = join server client
called server (Call.Receive client request) = receive server client request
called server (Call.Cut client) = cut server client
called server (Call.Expire key) = expire server key
called server (Call.Scavenge file_id) = scavenge server file_id
called server (Call.Withdraw file marks) = withdraw server file marks
called server (Call.GiveUp own file extent) = give_up server own file extent
called server (Call.Leave client file_ids marks) = leave server client file_ids marks
