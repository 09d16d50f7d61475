-- What holds of every manager, whatever was asked of it, by its opens, its leases and what waits.
use Rattle.std.specs.Prelude.{◌≡◌, ◌≢◌, ◌++◌, ◌∷◌, ℕ, List, [], true, false, Some}
use Rattle.lease_laws.specs.server.Laws.{Among, HasToWait, IsSound}
use Rattle.lease_laws.specs.server.Waiting.{WaitsWell}
use Rattle.lease_model.specs.server.Lanes.{is_behind}
use Rattle.lease_model.specs.server.Naming.{lease_of_open}
use Rattle.lease_model.specs.server.State.{Lease, Open, has_file, has_key, is_breaking}
use Rattle.lease_model.specs.values.Keys.{Key}
use Rattle.lease_model.specs.values.LeaseStates.{same_state}
use Rattle.lease_state.specs.Access.{conflict}
use Rattle.lease_state.specs.State.{State, is_state_within}
use Rattle.lease_manager.specs.Table.{Table, queue_at, server_of}
use Rattle.manager_model.specs.Handling.{Tagged, held_in}

-- The laws of servers hold of its server.
pub record IsManager (table : Table) : Type 0 where
  pub sound : IsSound (server_of table)
  pub waits : WaitsWell (server_of table)

-- Where a key's lease caches writes, each open on a file that the key has an open on has that key.
abbrev pub HasOneWriter : Table → Type 0
HasOneWriter table = (key : Key) (one other : Open) → ((server_of table).leases key).state.write ≡ true
    → Among one (server_of table).opens → has_key key one ≡ true
    → Among other (server_of table).opens → other.file ≡ one.file → has_key key other ≡ true

-- Two opens on a file don't conflict: the access of each is within the share of the other.
abbrev pub HasNoConflict : Table → Type 0
HasNoConflict table = (one other : Open) → Among one (server_of table).opens → Among other (server_of table).opens
    → other.file ≡ one.file → other.file_id ≢ one.file_id
    → conflict one.access one.share other.access other.share ≡ false

-- an open that outlives its client's connection, under this lease
pub record Lasts (one : Open) (lease : Lease) : Type 0 where
  pub is_durable : one.durable ≡ true
  pub holds_handle : lease.state.handle ≡ true
  pub is_settled : is_breaking lease ≡ false

-- An open that isn't connected is durable, and its lease holds H and isn't breaking.
abbrev pub KeepsWhatLasts : Table → Type 0
KeepsWhatLasts table = (one : Open) → Among one (server_of table).opens → one.connected ≡ false
    → Lasts one (lease_of_open (server_of table) one)

-- a part of the state, and less
pub record IsLess (lowered : State) (state : State) : Type 0 where
  pub is_part : is_state_within lowered state ≡ true
  pub is_less : same_state lowered state ≡ false

-- A state that a lease is broken to is a proper part of its state.
abbrev pub BreaksToLess : Table → Type 0
BreaksToLess table = (key : Key) (lowered : State) → ((server_of table).leases key).broken_to ≡ Some lowered
    → IsLess lowered ((server_of table).leases key).state

-- The client of an open that is connected is connected, and the open's file is one of the manager's.
pub record StandsWell (table : Table) (one : Open) : Type 0 where
  pub client : one.connected ≡ true → (server_of table).present one.client ≡ true
  pub file : has_file (server_of table) one.file ≡ true

abbrev pub OpensStandWell : Table → Type 0
OpensStandWell table = (one : Open) → Among one (server_of table).opens → StandsWell table one

-- The client of a request that waits is connected.
abbrev pub WaitersAreConnected : Table → Type 0
WaitersAreConnected table = (file : ℕ) (one : Tagged) → Among one (queue_at table.queues file)
    → (server_of table).present one.held.client ≡ true

-- What waits on a file waits behind an earlier request there, or for the break of another key's lease: a create for one that
-- is breaking, a write for one that is breaking to something. (No other request waits but behind one.)
abbrev pub WaitersWaitForBreaks : Table → Type 0
WaitersWaitForBreaks table = (file : ℕ) (before : List Tagged) (one : Tagged) (behind : List Tagged)
    → queue_at table.queues file ≡ before ++ one ∷ behind → is_behind table.rules one.held (held_in before) ≡ false
    → HasToWait (server_of table) one.held.client one.held.request

-- On a file of which no lease is breaking nothing waits.
abbrev pub NothingWaitsIdly : Table → Type 0
NothingWaitsIdly table = (file : ℕ) → ((key : Key) (one : Open) → Among one (server_of table).opens → one.file ≡ file
    → has_key key one ≡ true → is_breaking ((server_of table).leases key) ≡ false)
    → queue_at table.queues file ≡ []
