-- The laws of every server: they hold of the first one, and every call keeps them.
use Rattle.std.specs.Prelude.{◌≡◌, ℕ, ◌≤◌, ◌<◌, ◌≢◌, ◌⊎◌, Bool, true, false, Option, Some, List, [], ◌∷◌, ⊤}
use Rattle.std.specs.List.{list_any}
use Rattle.lease_state.specs.Access.{conflict}
use Rattle.lease_state.specs.State.{State, granted_form_of, needs_acknowledgment, is_state_within}
use Rattle.lease_model.specs.server.Ready.{breaks_to_some}
use Rattle.lease_model.specs.values.Keys.{Key}
use Rattle.lease_model.specs.values.LeaseStates.{same_state}
use Rattle.lease_model.specs.messages.Requests.{FileRequest}
use Rattle.lease_model.specs.server.State.{Server, Open, Lease, no_lease, is_breaking, has_key, has_own_key}
use Rattle.lease_model.specs.server.Naming.{own_key, key_of_open}
use Rattle.lease_model.specs.server.Findings.{connected_open}

-- the element is on the list
abbrev pub Among : {X : Type 0} → X → List X → Type 0
Among x [] = ⊥
Among x (y ∷ ys) = (x ≡ y) ⊎ Among x ys

-- the opens stand in the order of their FileIds, and no two have one FileId
abbrev pub AreInOrder : List Open → Type 0
AreInOrder [] = ⊤
AreInOrder (one ∷ opens) =
    ((other : Open) → Among other opens → one.file_id < other.file_id) × AreInOrder opens

-- A state that a lease may be broken to: a granted form and a proper part of the lease's state,
-- which holds more than reads.
pub record IsBrokenTo (state : State) (lowered : State) : Type 0 where
  pub is_part : is_state_within lowered state ≡ true
  pub is_less : same_state lowered state ≡ false
  pub is_granted_form : granted_form_of lowered ≡ lowered
  pub is_acknowledged : needs_acknowledgment state ≡ true

-- what any lease is
pub record IsLawful (lease : Lease) : Type 0 where
  pub is_granted_form : granted_form_of lease.state ≡ lease.state
  pub is_broken_so : (lowered : State) → lease.broken_to ≡ Some lowered → IsBrokenTo lease.state lowered

-- An open that outlives its connection is durable and has a key, whose lease holds H and isn't
-- breaking.
pub record IsLasting (leases : Key → Lease) (one : Open) : Type 0 where
  pub is_durable : one.durable ≡ true
  pub key : Key
  pub has_the_key : has_key key one ≡ true
  pub holds_handle : (leases key).state.handle ≡ true
  pub is_settled : is_breaking (leases key) ≡ false

-- The laws of a server, by its opens, its leases, the keys whose timer ran out, and the FileId
-- given last; the rest of a server is free.
--   one_writer: a key that holds W is the key of every open on a file that it has an open on
--   no_conflict: two opens on a file don't conflict
--   disconnected: an open without its client's connection is one that outlives it
--   lawful: each lease is lawful
--   one_file: the opens of a key are on one file
--   no_open: a key without an open has no lease
--   numbered: FileIds are from 1 to the last one given
--   in_order: opens stand in the order of their FileIds, each of which one open has
--   timed_out: a key whose timer ran out holds nothing and isn't breaking
pub record AreSound (opens : List Open) (leases : Key → Lease) (expired : Key → Bool) (last_id : ℕ) : Type 0
  where
    pub one_writer : (key : Key) (one other : Open) → (leases key).state.write ≡ true
        → Among one opens → has_key key one ≡ true
        → Among other opens → other.file ≡ one.file → has_key key other ≡ true
    pub no_conflict : (one other : Open) → Among one opens → Among other opens
        → other.file ≡ one.file → other.file_id ≢ one.file_id → conflict one.access one.share other.access other.share ≡ false
    pub disconnected : (one : Open) → Among one opens → one.connected ≡ false → IsLasting leases one
    pub lawful : (key : Key) → IsLawful (leases key)
    pub one_file : (key : Key) (one other : Open) → Among one opens → has_key key one ≡ true
        → Among other opens → has_key key other ≡ true → other.file ≡ one.file
    pub no_open : (key : Key) → list_any (has_key key) opens ≡ false → leases key ≡ no_lease
    pub numbered : (one : Open) → Among one opens → (1 ≤ one.file_id) × (one.file_id ≤ last_id)
    pub in_order : AreInOrder opens
    pub timed_out : (key : Key) → expired key ≡ true → leases key ≡ no_lease

abbrev pub IsSound : Server → Type 0
IsSound server = AreSound server.opens server.leases server.expired server.last_id

-- On the file an open has another key than the one, and its lease passes the test.
pub record IsBlockedBy (test : Lease → Bool) (server : Server) (own : Option Key) (file : ℕ) : Type 0 where
  pub key : Key
  pub is_in_the_way : test (server.leases key) ≡ true
  pub one : Open
  pub is_there : Among one server.opens
  pub is_on_file : one.file ≡ file
  pub has_the_key : has_key key one ≡ true
  pub is_other : has_own_key own one ≡ false

-- another key on the file is breaking, or is breaking to something
abbrev pub IsBlocked : Server → Option Key → ℕ → Type 0
IsBlocked = IsBlockedBy (λ lease. is_breaking lease)

abbrev pub IsWriteBlocked : Server → Option Key → ℕ → Type 0
IsWriteBlocked = IsBlockedBy (λ lease. breaks_to_some lease)

-- the same for a write by an open of its client
pub record IsOpenBlocked (server : Server) (client : ℕ) (file_id : ℕ) : Type 0 where
  pub one : Open
  pub is_open : connected_open server client file_id ≡ Some one
  pub is_blocked : IsWriteBlocked server (key_of_open one) one.file

-- A request that has to wait is blocked: on its file another key is breaking, for a write to something. (It
-- may be one that the request no longer needs broken, once disconnected opens of the key were closed.)
abbrev pub HasToWait : Server → ℕ → FileRequest → Type 0
HasToWait server client (FileRequest.Create file access share (Some ask)) = IsBlocked server
    (own_key client ask.lease) file
HasToWait server client (FileRequest.Write file_id number patch) = IsOpenBlocked server client file_id
HasToWait server client request = ⊥
