-- What a client machine knows (MS-SMB2 3.2.1, in the profile's terms).
use Rattle.std.specs.Prelude.{ℕ, Bool, false, Option, List, [], ◌∷◌, ◌++◌, take, map, nat_le, ◌&&◌}
use Rattle.lease_state.specs.State.{State, nothing_cached}
use Rattle.lease_state.specs.declared.access.Access.{Access}
use Rattle.lease_state.specs.declared.access.Share.{Share}
use Rattle.lease_state.specs.declared.patch.Patch.{Patch}
use Rattle.lease_state.specs.Content.{patches}

-- a write that isn't answered: buffered is one that was answered Done before it was sent
pub record Pending : Type 0 where
  pub number : ℕ
  pub patch : Patch
  pub buffered : Bool

-- the access and the share of a create that is under way
pub record Asked : Type 0 where
  pub access : Access
  pub share : Share

-- A live entry: the open that it stands for, what the client believes of the lease, how many
-- handles applications have on it, how many Reads are unanswered, the file as last known, and the
-- buffered writes that aren't sent. With no handle it is parked. While it is asking for more, a second
-- create under its key is under way.
pub record LiveEntry : Type 0 where
  pub file_id : ℕ
  pub access : Access
  pub share : Share
  pub durable : Bool
  pub belief : State
  pub handles : ℕ
  pub reads : ℕ
  pub base : Option (List ℕ)
  pub unsent : List Pending
  pub asking : Option Asked

-- what an entry keeps while it is offline or reconnecting: its open, and buffered writes
pub record Parted : Type 0 where
  pub file_id : ℕ
  pub access : Access
  pub share : Share
  pub handles : ℕ
  pub writes : List Pending

pub data Phase : Type 0 where
  Closed : Phase
  Opening : (access : Access) (share : Share) → Phase
  Live : (live : LiveEntry) → Phase
  Offline : (parted : Parted) → Phase
  Reconnecting : (parted : Parted) → Phase

-- the entry of a file, in every phase with its sent, unanswered writes in order
pub record Entry : Type 0 where
  pub phase : Phase
  pub sent : List Pending

-- A client: files are those from 1 to `files`; `is_online` holds from a connect to the next
-- notice; `last_number` is that of its last write.
pub record Client : Type 0 where
  pub guid : List ℕ
  pub files : ℕ
  pub is_online : Bool
  pub last_number : ℕ
  pub entries : ℕ → Entry

abbrev pub closed_entry : List Pending → Entry
closed_entry sent = record { phase = Phase.Closed; sent = sent }

abbrev pub live_entry : LiveEntry → List Pending → Entry
live_entry live sent = record { phase = Phase.Live live; sent = sent }

unfoldable pub new_client : List ℕ → ℕ → Client
new_client guid files = record {
  guid = guid;
  files = files;
  is_online = false;
  last_number = 0;
  entries = λ file. closed_entry [];
}

-- The LeaseKey of a file: twelve bytes of the ClientGuid, and the file's number in four (profile).
unfoldable pub lease_key : List ℕ → ℕ → List ℕ
lease_key guid file = take 12 guid ++ file ∷ 0 ∷ 0 ∷ 0 ∷ []

abbrev pub knows_file : Client → ℕ → Bool
knows_file client file = nat_le 1 file && nat_le file client.files

-- the belief of an entry that isn't live is none
abbrev pub belief_in : Phase → State
belief_in (Phase.Live live) = live.belief
belief_in phase = nothing_cached

abbrev pub belief_of : Entry → State
belief_of entry = belief_in entry.phase

abbrev pub belief : Client → ℕ → State
belief client file = belief_of (client.entries file)

abbrev pub patches_of : List Pending → List Patch
patches_of writes = map (λ write. write.patch) writes

-- what an application sees: the base with the unanswered writes, the sent ones first
abbrev pub view : List ℕ → List Pending → List Pending → List ℕ
view base sent unsent = patches base (patches_of (sent ++ unsent))
