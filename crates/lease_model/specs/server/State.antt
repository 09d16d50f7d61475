-- What a server knows (MS-SMB2 3.3.1.4, 3.3.1.10, 3.3.1.12, in the profile's terms).
use Rattle.std.specs.Prelude.{ℕ, Bool, false, Option, Some, None, List, [], length, take, nat_le, ◌&&◌, ◌==◌, is_some, bytes_eq}
use Rattle.std.specs.List.{list_any}
use Rattle.lease_state.specs.Rules.{profile_rules}
use Rattle.lease_state.specs.State.{State, nothing_cached}
use Rattle.lease_state.specs.declared.access.Access.{Access}
use Rattle.lease_state.specs.declared.access.Share.{Share}
use Rattle.lease_state.specs.declared.rules.Rules.{Rules}
use Rattle.lease_model.specs.values.Keys.{Key}
use Rattle.lease_model.specs.values.Limits.{last_file_number}
use Rattle.lease_model.specs.values.Tables.{numbered}
use Rattle.lease_model.specs.messages.Requests.{FileRequest}

-- An open of a file (3.3.1.10). `lease_key` is None for an open without RqLs. A durable open
-- outlives its connection, and is then there but not connected.
pub record Open : Type 0 where
  pub file_id : ℕ
  pub client : ℕ
  pub file : ℕ
  pub lease_key : Option (List ℕ)
  pub access : Access
  pub share : Share
  pub durable : Bool
  pub connected : Bool

-- A lease (3.3.1.12): its state and, while it is breaking, the state that it is broken to.
pub record Lease : Type 0 where
  pub state : State
  pub broken_to : Option State

abbrev pub is_breaking : Lease → Bool
is_breaking lease = is_some lease.broken_to

-- a key without an open has this
abbrev pub no_lease : Lease
no_lease = record { state = nothing_cached; broken_to = None }

-- Requests of one client on a file under one lease key are of one lane, and so are those by the FileId of an open
-- without a key. A create without a key is alone.
pub data Lane : Type 0 where
  Leased : (key : List ℕ) → Lane
  Opened : (file_id : ℕ) → Lane
  Alone : Lane

abbrev pub same_lane : Lane → Lane → Bool
same_lane (Lane.Leased key) (Lane.Leased other) = bytes_eq key other
same_lane (Lane.Opened file_id) (Lane.Opened other) = file_id == other
same_lane _ _ = false

-- a request that waits for a lease break, with its client, and its lane as it was when the request came
pub record Held : Type 0 where
  pub client : ℕ
  pub request : FileRequest
  pub lane : Lane

-- `rules` are those that the server was given, and stay. Files are those from 1 to `files`. `held` has for each file the requests
-- that wait there, in order of
-- arrival; `present` are the clients whose connection the server has; `expired` are the keys whose break
-- timer ran out since their client joined; `last_id` is the FileId given last.
pub record Server : Type 0 where
  pub rules : Rules
  pub files : ℕ
  pub contents : ℕ → List ℕ
  pub opens : List Open
  pub leases : Key → Lease
  pub held : ℕ → List Held
  pub present : ℕ → Bool
  pub expired : Key → Bool
  pub last_id : ℕ

-- those of these contents that have a number
abbrev pub with_number : List (List ℕ) → List (List ℕ)
with_number contents = take last_file_number contents

-- A server of these rules with these contents, numbered from 1. A file that isn't there has no bytes.
unfoldable pub new_server_under : Rules → List (List ℕ) → Server
new_server_under rules contents = record {
  rules = rules;
  files = length (with_number contents);
  contents = numbered [] (with_number contents);
  opens = [];
  leases = λ key. no_lease;
  held = λ file. [];
  present = λ client. false;
  expired = λ key. false;
  last_id = 0;
}

-- one of the profile's rules
abbrev pub new_server : List (List ℕ) → Server
new_server contents = new_server_under profile_rules contents

abbrev pub has_file : Server → ℕ → Bool
has_file server file = nat_le 1 file && nat_le file server.files

-- the open has this key: its client's, under this LeaseKey
abbrev pub is_key : Key → ℕ → Option (List ℕ) → Bool
is_key key client None = false
is_key key client (Some bytes) = key.client == client && bytes_eq key.bytes bytes

abbrev pub has_key : Key → Open → Bool
has_key key one = is_key key one.client one.lease_key

-- an open without a key counts as a key of its own (profile): it has the key of no request
abbrev pub has_own_key : Option Key → Open → Bool
has_own_key None one = false
has_own_key (Some key) one = has_key key one

-- a lease exists while an open has its key
abbrev pub has_lease : Server → Key → Bool
has_lease server key = list_any (has_key key) server.opens
