-- The handles of an open, and the create that asks for one more.
use Rattle.std.specs.Prelude.{ℕ, Option}
use Rattle.lease_model.specs.client.State.{Asked}

pub record Handles : Type 0 where
  pub count : ℕ
  pub asking : Option Asked
