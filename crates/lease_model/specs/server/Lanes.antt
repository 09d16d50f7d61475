-- Which requests of a client on a file have their turn one after another (own). A server may choose: all of them
-- do, or those of one lane.
use Rattle.std.specs.Prelude.{ℕ, Bool, Option, Some, None, List, ◌==◌, ◌&&◌, ◌||◌}
use Rattle.std.specs.List.{list_any}
use Rattle.lease_state.specs.Rules.{is_by_client}
use Rattle.lease_state.specs.declared.rules.Rules.{Rules}
use Rattle.lease_model.specs.messages.Requests.{FileRequest, CreateAsk, LeaseOf}
use Rattle.lease_model.specs.server.Findings.{connected_open}
use Rattle.lease_model.specs.server.State.{Server, Open, Held, Lane, same_lane}

-- the lane of a create
abbrev pub lane_under : Option LeaseOf → Lane
lane_under None = Lane.Alone
lane_under (Some asked) = Lane.Leased asked.key

abbrev pub lane_of_create : Option CreateAsk → Lane
lane_of_create None = Lane.Alone
lane_of_create (Some ask) = lane_under ask.lease

-- the lane of a request by the open that it names
abbrev pub lane_by : ℕ → Option (List ℕ) → Lane
lane_by file_id None = Lane.Opened file_id
lane_by file_id (Some key) = Lane.Leased key

abbrev pub lane_of_open : ℕ → Option Open → Lane
lane_of_open file_id None = Lane.Opened file_id
lane_of_open file_id (Some one) = lane_by file_id one.lease_key

abbrev pub lane_of : Server → ℕ → FileRequest → Lane
lane_of server client (FileRequest.Create file access share contexts) = lane_of_create contexts
lane_of server client (FileRequest.Read file_id) = lane_of_open file_id (connected_open server client file_id)
lane_of server client (FileRequest.Write file_id number patch) =
    lane_of_open file_id (connected_open server client file_id)
lane_of server client (FileRequest.Close file_id) = lane_of_open file_id (connected_open server client file_id)

abbrev pub held_of : ℕ → FileRequest → Lane → Held
held_of client request lane = record { client = client; request = request; lane = lane }

-- a request as it would be held now
abbrev pub as_held : Server → ℕ → FileRequest → Held
as_held server client request = held_of client request (lane_of server client request)

-- A request waits behind an earlier one of its client on the file, whichever that is (by client), or one of its
-- lane (by key).
abbrev pub waits_behind : Rules → Held → Held → Bool
waits_behind rules one earlier =
    earlier.client == one.client && (is_by_client rules.order || same_lane earlier.lane one.lane)

-- it waits behind some of these
abbrev pub is_behind : Rules → Held → List Held → Bool
is_behind rules one held = list_any (waits_behind rules one) held
