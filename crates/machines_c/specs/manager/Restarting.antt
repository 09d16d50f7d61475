-- What a host keeps over a restart, as C is given it.
use Rattle.std.specs.Prelude.{◌≡◌, ℕ, List, length}
use Rattle.kept_opens.specs.Managers.{IsExport}
use Rattle.lease_model.specs.server.State.{Server}
use Rattle.machines_c.specs.handles.Outcomes.{IsFilled}

-- The bytes of what the server keeps are written to the front of a room that holds them, and how many they are.
pub record IsExportedTo (server : Server) (size : ℕ) (old new : List ℕ) : Type 0 where
  pub bytes : List ℕ
  pub is_export : IsExport server bytes
  pub sized : size ≡ length bytes
  pub filled : IsFilled bytes old new
