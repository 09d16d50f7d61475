-- What holds of every server, whatever was asked of it, by its opens and its leases.
use Rattle.std.specs.Prelude.{◌≡◌, ◌≢◌, true, false, Some}
use Rattle.lease_laws.specs.server.Laws.{Among}
use Rattle.lease_model.specs.server.Naming.{lease_of_open}
use Rattle.lease_model.specs.server.State.{Open, Lease, is_breaking, has_key}
use Rattle.lease_model.specs.values.Keys.{Key}
use Rattle.lease_model.specs.values.LeaseStates.{same_state}
use Rattle.lease_state.specs.Access.{conflict}
use Rattle.lease_state.specs.State.{State, is_state_within}
use Rattle.share_server.specs.Table.{Table, server_of}

-- Where a key's lease caches writes, each open on a file that the key has an open on has that key.
abbrev pub HasOneWriter : Table → Type 0
HasOneWriter server = (key : Key) (one other : Open) → ((server_of server).leases key).state.write ≡ true
    → Among one (server_of server).opens → has_key key one ≡ true
    → Among other (server_of server).opens → other.file ≡ one.file → has_key key other ≡ true

-- Two opens on a file don't conflict: the access of each is within the share of the other.
abbrev pub HasNoConflict : Table → Type 0
HasNoConflict server = (one other : Open) → Among one (server_of server).opens → Among other (server_of server).opens
    → other.file ≡ one.file → other.file_id ≢ one.file_id
    → conflict one.access one.share other.access other.share ≡ false

-- an open that outlives its client's connection, under this lease
pub record Lasts (one : Open) (lease : Lease) : Type 0 where
  pub is_durable : one.durable ≡ true
  pub holds_handle : lease.state.handle ≡ true
  pub is_settled : is_breaking lease ≡ false

-- An open that isn't connected is durable, and its lease holds H and isn't breaking.
abbrev pub KeepsWhatLasts : Table → Type 0
KeepsWhatLasts server = (one : Open) → Among one (server_of server).opens → one.connected ≡ false
    → Lasts one (lease_of_open (server_of server) one)

-- a part of the state, and less
pub record IsLess (lowered : State) (state : State) : Type 0 where
  pub is_part : is_state_within lowered state ≡ true
  pub is_less : same_state lowered state ≡ false

-- A state that a lease is broken to is a proper part of its state.
abbrev pub BreaksToLess : Table → Type 0
BreaksToLess server = (key : Key) (lowered : State) → ((server_of server).leases key).broken_to ≡ Some lowered
    → IsLess lowered ((server_of server).leases key).state
