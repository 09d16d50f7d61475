-- What a manager knows as plain lists, and the manager that they stand for.
use Rattle.std.specs.Prelude.{◌≡◌, ℕ, Bool, true, false, List, [], ◌∷◌, if◌then◌else◌, ◌==◌, bytes_eq}
use Rattle.std.specs.List.{list_any}
use Rattle.lease_laws.specs.server.Laws.{Among}
use Rattle.lease_manager.specs.declared.values.number.ClientNo.{ClientNo}
use Rattle.lease_state.specs.declared.rules.Rules.{Rules}
use Rattle.lease_model.specs.values.Keys.{Key, key_eq}
use Rattle.lease_model.specs.values.Tables.{put}
use Rattle.lease_model.specs.server.State.{Server, Open, Lease, Held, no_lease}
use Rattle.manager_model.specs.Handling.{Manager, Tagged, held_in, is_of}
use Rattle.lease_model.specs.values.Lists.{without}

-- a file, and what waits there, in order of arrival
pub record Queue : Type 0 where
  pub file : ℕ
  pub waiting : List Tagged

pub record KeyedLease : Type 0 where
  pub key : Key
  pub lease : Lease

-- a client, and those of its keys whose break timer ran out since it joined
pub record Expired : Type 0 where
  pub client : ℕ
  pub keys : List (List ℕ)

-- `rules` are those that the manager was given, `files` is the last number of a file. `queues` are of files where requests wait;
-- `present` are the clients
-- whose connection is there, `expired` are of clients that have such keys.
pub record Table : Type 0 where
  pub rules : Rules
  pub files : ℕ
  pub queues : List Queue
  pub opens : List Open
  pub leases : List KeyedLease
  pub present : List ClientNo
  pub expired : List Expired
  pub last_id : ℕ

-- the client of this number is among these
abbrev pub is_among : List ClientNo → ℕ → Bool
is_among clients client = list_any (λ one. one.0 == client) clients

-- the client of each request is one of these
abbrev pub AreOf : List ClientNo → List Tagged → Type 0
AreOf clients queue = (one : Tagged) → Among one queue → is_among clients one.held.client ≡ true

-- what waits on a file
abbrev pub queue_at : List Queue → ℕ → List Tagged
queue_at [] file = []
queue_at (one ∷ queues) file = if file == one.file then one.waiting else queue_at queues file

abbrev pub held_at : List Queue → ℕ → List Held
held_at queues file = held_in (queue_at queues file)

-- the first lease of the key; a key that isn't there has none
abbrev pub lease_at : List KeyedLease → Key → Lease
lease_at [] key = no_lease
lease_at (one ∷ leases) key = if key_eq key one.key then one.lease else lease_at leases key

-- the key is among those of its client
abbrev pub is_expired : List Expired → Key → Bool
is_expired [] key = false
is_expired (one ∷ expired) key =
    if key.client == one.client then list_any (bytes_eq key.bytes) one.keys else is_expired expired key

-- the server that the lists stand for
abbrev pub server_of : Table → Server
server_of table = record {
  rules = table.rules;
  files = table.files;
  contents = λ file. [];
  opens = table.opens;
  leases = lease_at table.leases;
  held = held_at table.queues;
  present = is_among table.present;
  expired = is_expired table.expired;
  last_id = table.last_id;
}

-- the manager that they stand for
abbrev pub manager_of : Table → Manager
manager_of table = record { server = server_of table; queues = queue_at table.queues }

-- these wait on the file, in place of those that did
abbrev pub requeued : Manager → ℕ → List Tagged → Manager
requeued manager file queue = record {
  server = record manager.server { held = put manager.server.held file (held_in queue) };
  queues = put manager.queues file queue;
}

-- the client's connection is gone, and its requests wait no longer
abbrev pub client_gone : ℕ → Manager → Manager
client_gone client manager = record {
  server = record manager.server {
    present = put manager.server.present client false;
    held = λ file. held_in (without (is_of client) (manager.queues file));
  };
  queues = λ file. without (is_of client) (manager.queues file);
}

-- the requests that pass the test wait no longer
abbrev pub requests_gone : (Tagged → Bool) → Manager → Manager
requests_gone test manager = record {
  server = record manager.server { held = λ file. held_in (without test (manager.queues file)) };
  queues = λ file. without test (manager.queues file);
}
