-- What is kept of one open, and its 48 bytes (own).
use Rattle.std.specs.Prelude.{◌≡◌, ℕ, ◌<◌, ◌^◌, List, [], ◌∷◌, ◌++◌, length}
use Rattle.byteorder.specs.Endian.{little_bytes}
use Rattle.lease_manager.specs.declared.values.kept.KeptOpen.{KeptOpen}
use Rattle.lease_state.specs.Access.{uses_of, allowed_by, bits_of_uses}
use Rattle.lease_state.specs.State.{State, state_of, bits_of_state}
use Rattle.lease_state.specs.declared.access.Access.{Access}
use Rattle.lease_state.specs.declared.access.Share.{Share}

-- what an open says: its state is what the lease caches, whatever other bits stand in the number
pub record Entry : Type 0 where
  pub file_id : ℕ
  pub client : ℕ
  pub file : ℕ
  pub key : List ℕ
  pub access : Access
  pub share : Share
  pub state : State

abbrev pub entry_of : KeptOpen → Entry
entry_of one = record {
  file_id = one.file_id.0;
  client = one.client.0;
  file = one.file.0;
  key = one.key.0;
  access = one.access;
  share = one.share;
  state = state_of one.state;
}

-- the access, the share and the state in a byte each, as numbers of MS-SMB2 2.2.13 and 2.2.13.2, and five bytes of 0
abbrev pub rights_bytes : Access → Share → State → List ℕ
rights_bytes access share state =
    bits_of_uses (uses_of access) ∷ bits_of_uses (allowed_by share) ∷ bits_of_state state ∷ 0 ∷ 0 ∷ 0 ∷ 0 ∷ 0 ∷ []

-- the numbers of the open, low byte first, its key, and its rights
unfoldable pub entry_bytes : Entry → List ℕ
entry_bytes v =
    little_bytes 8 v.file_id ++ (little_bytes 8 v.client ++ (little_bytes 8 v.file ++ (v.key
    ++ rights_bytes v.access v.share v.state)))

-- a key has 16 bytes
abbrev pub HasKey : Entry → Type 0
HasKey v = length v.key ≡ 16

-- the numbers are those of 64 bits, and the key has 16 bytes
pub record IsBorne (v : Entry) : Type 0 where
  pub file_id : v.file_id < 2 ^ 64
  pub client : v.client < 2 ^ 64
  pub file : v.file < 2 ^ 64
  pub key : HasKey v

-- the state's number has no bit that names nothing
abbrev pub IsNamed : KeptOpen → Type 0
IsNamed one = bits_of_state (state_of one.state) ≡ one.state.0
