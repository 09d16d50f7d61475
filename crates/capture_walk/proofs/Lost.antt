-- The earliest of positions, whichever comes first.
use Rattle.std.proofs.Common.{◌≡◌, ℕ, Option, Some, None, arith}
use Rattle.capture_walk.specs.Chains.{earliest}
use Rattle.capture_walk.specs.Index.{either_lost}

pub lost_more : (client file : Option ℕ) (since : ℕ)
    → either_lost (Some (earliest client since)) file ≡ Some (earliest (either_lost client file) since)
lost_more None None since = grind arith
lost_more None (Some b) since = grind arith
lost_more (Some a) None since = grind arith
lost_more (Some a) (Some b) since = grind arith

pub remade_more : (client file : Option ℕ) (since : ℕ)
    → either_lost client (Some (earliest file since)) ≡ Some (earliest (either_lost client file) since)
remade_more None None since = grind arith
remade_more None (Some b) since = grind arith
remade_more (Some a) None since = grind arith
remade_more (Some a) (Some b) since = grind arith
