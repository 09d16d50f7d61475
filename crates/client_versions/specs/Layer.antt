-- What a client knows of leases and durable opens of version 2, apart from what its machine knows.
use Rattle.std.specs.Prelude.{ℕ, Option, None, List, if◌then◌else◌, bytes_eq}
use Rattle.lease_state.specs.State.{State}

-- Of a lease: the newest epoch that a message had, and the newest state that one told (MS-SMB2 3.2.1.5).
pub record Known : Type 0 where
  pub epoch : ℕ
  pub state : State

-- leases by their LeaseKeys, CreateGuids by the FileIds of their opens (3.2.1.6)
pub record Layer : Type 0 where
  pub leases : List ℕ → Option Known
  pub guids : ℕ → Option (List ℕ)

abbrev pub nothing_known : Layer
nothing_known = record { leases = λ key. None; guids = λ file_id. None }

unfoldable pub put_known : (List ℕ → Option Known) → List ℕ → Option Known → List ℕ → Option Known
put_known table place new key = if bytes_eq place key then new else table key
