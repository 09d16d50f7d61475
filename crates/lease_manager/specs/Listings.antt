-- Leases and requests that wait, as a host lists them.
use Rattle.std.specs.Prelude.{◌≡◌, ◌≤◌, ⊤, ℕ, true, List, [], ◌∷◌, ◌==◌, filter, map, flat_map}
use Rattle.std.specs.Option.{option_map}
use Rattle.lease_laws.specs.server.Laws.{Among}
use Rattle.lease_model.specs.messages.Requests.{FileRequest}
use Rattle.lease_model.specs.server.State.{Lease, Open, Server, has_key, has_lease}
use Rattle.lease_model.specs.values.Keys.{Key, key_before}
use Rattle.lease_state.specs.State.{state_of}
use Rattle.manager_model.specs.Handling.{Tagged}
use Rattle.lease_manager.specs.Requests.{request_like}
use Rattle.lease_manager.specs.Table.{Queue, Table, queue_at}
use Rattle.lease_manager.specs.Tallies.{count}
use Rattle.lease_manager.specs.declared.tables.summaries.LeaseRecord.{LeaseRecord}
use Rattle.lease_manager.specs.declared.tables.summaries.Summaries.{Summaries}
use Rattle.lease_manager.specs.declared.values.listed.ListedLease.{ListedLease}
use Rattle.lease_manager.specs.declared.values.listed.ListedRequest.{ListedRequest}
use Rattle.lease_manager.specs.declared.values.number.FileNo.{FileNo}

-- ---- leases

abbrev pub key_listed : ListedLease → Key
key_listed one = record { client = one.client.0; bytes = one.key.0 }

abbrev pub lease_listed : ListedLease → Lease
lease_listed one = record { state = state_of one.state; broken_to = option_map state_of one.broken_to }

-- The lease of a key that opens of the server have: what the key holds, how many opens have it, and the file of each of them.
pub record IsListed (server : Server) (one : ListedLease) : Type 0 where
  pub is_there : has_lease server (key_listed one) ≡ true
  pub lease : lease_listed one ≡ server.leases (key_listed one)
  pub opens : one.opens ≡ count (has_key (key_listed one)) server.opens
  pub on_file : (other : Open) → Among other server.opens → has_key (key_listed one) other ≡ true → other.file ≡ one.file.0

-- the key of each stands before those of all after it: by their clients' numbers, then by their bytes
abbrev pub AreInOrderOfKeys : List ListedLease → Type 0
AreInOrderOfKeys [] = ⊤
AreInOrderOfKeys (one ∷ leases) =
    ((other : ListedLease) → Among other leases → key_before (key_listed one) (key_listed other) ≡ true) × AreInOrderOfKeys leases

-- The leases of a server, each once, in order of their keys.
pub record AreLeases (server : Server) (leases : List ListedLease) : Type 0 where
  pub in_order : AreInOrderOfKeys leases
  pub each : (one : ListedLease) → Among one leases → IsListed server one
  pub all : (key : Key) → has_lease server key ≡ true → Among key (map key_listed leases)

-- ---- requests

-- a request that waits on a file
pub record Waiting : Type 0 where
  pub file : ℕ
  pub client : ℕ
  pub tag : ℕ
  pub request : FileRequest

abbrev pub waiting_of : ListedRequest → Waiting
waiting_of one = record { file = one.file.0; client = one.client.0; tag = one.tag.0; request = request_like one.ask }

abbrev pub waiting_on : ℕ → Tagged → Waiting
waiting_on file one = record { file = file; client = one.held.client; tag = one.tag; request = one.held.request }

-- file by file
abbrev pub waiting_in : List Queue → List Waiting
waiting_in queues = flat_map (λ (queue : Queue). map (waiting_on queue.file) queue.waiting) queues

-- the file of each is that of none after it, or comes before theirs
abbrev pub AreInOrderOfFiles : List Waiting → Type 0
AreInOrderOfFiles [] = ⊤
AreInOrderOfFiles (one ∷ requests) =
    ((other : Waiting) → Among other requests → one.file ≤ other.file) × AreInOrderOfFiles requests

-- The requests that wait, in order of their files; those on a file are what waits there, in order of arrival.
pub record AreWaiting (table : Table) (requests : List Waiting) : Type 0 where
  pub in_order : AreInOrderOfFiles requests
  pub on_file : (file : ℕ) → filter (λ (one : Waiting). one.file == file) requests
      ≡ map (waiting_on file) (queue_at table.queues file)

-- ---- what the tables have

-- entries of the map of queues, as queues
abbrev pub queues_of : List (FileNo × List Tagged) → List Queue
queues_of entries = map (λ (entry : FileNo × List Tagged). record { file = entry.0.0; waiting = entry.1 }) entries

-- a record, as it is listed
abbrev pub lease_by : Key → LeaseRecord → ListedLease
lease_by key known = record {
  client = record { 0 = key.client };
  key = record { 0 = key.bytes };
  file = known.file;
  state = known.lease.state;
  broken_to = known.lease.broken_to;
  opens = known.tally.opens;
}

abbrev pub entry_listed : Key × LeaseRecord → ListedLease
entry_listed entry = lease_by entry.0 entry.1

abbrev pub leases_in : Summaries → List ListedLease
leases_in summaries = map entry_listed summaries.leases.entries
