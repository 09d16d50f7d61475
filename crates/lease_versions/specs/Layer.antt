-- What a server knows of leases and durable opens of version 2, apart from what its lease manager knows.
use Rattle.std.specs.Prelude.{ℕ, Bool, Option, None, List, if◌then◌else◌, ◌&&◌, ◌==◌}
use Rattle.lease_state.specs.State.{State}
use Rattle.lease_model.specs.values.Keys.{Key}
use Rattle.lease_wire_v2.specs.Names.{SecondView}

-- A create that isn't answered: what version 2 adds to its RqLs context, the CreateGuid of its DH2Q or DH2C, and whether it
-- connects an open again.
pub record AskedCreate : Type 0 where
  pub second : Option SecondView
  pub guid : Option (List ℕ)
  pub reconnects : Bool

pub data Asked : Type 0 where
  Create : (ask : AskedCreate) → Asked
  Close : (file_id : ℕ) → Asked

-- A lease: what version 2 adds to its context, none for version 1; the state that its client knows, whether a break of it isn't
-- acknowledged, and how many opens it has.
pub record Lease : Type 0 where
  pub second : Option SecondView
  pub state : State
  pub breaking : Bool
  pub opens : ℕ

-- An open: its client, the key of its lease, and its CreateGuid (MS-SMB2 3.3.1.10).
pub record Open : Type 0 where
  pub client : ℕ
  pub key : Option (List ℕ)
  pub guid : Option (List ℕ)

-- requests by their clients and tags, leases by their keys, opens by their FileIds
pub record Layer : Type 0 where
  pub asked : ℕ → ℕ → Option Asked
  pub leases : Key → Option Lease
  pub opens : ℕ → Option Open

abbrev pub nothing_known : Layer
nothing_known = record { asked = λ client tag. None; leases = λ key. None; opens = λ file_id. None }

unfoldable pub put_asked : (ℕ → ℕ → Option Asked) → ℕ → ℕ → Option Asked → ℕ → ℕ → Option Asked
put_asked table client tag new c t = if c == client && t == tag then new else table c t
