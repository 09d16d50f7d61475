-- What a client keeps of the bytes of a file that is open.
use Rattle.std.specs.Prelude.{ℕ, Option, List}
use Rattle.lease_model.specs.client.State.{Pending}

-- the file as last known, and the buffered writes that aren't sent
pub record File : Type 0 where
  pub base : Option (List ℕ)
  pub unsent : List Pending
