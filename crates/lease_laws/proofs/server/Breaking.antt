-- Leases that are breaking to something, and to nothing.
use Rattle.lease_laws.proofs.Words.{◌≡◌, Option, State, false, is_some, leaves_nothing, leaves_something}
use Rattle.std.proofs.Common.{arith}
use Rattle.lease_laws.proofs.Words.{true}

-- what is breaking to something is breaking
pub some_breaks : (broken_to : Option State) → leaves_something broken_to ≡ true → is_some broken_to ≡ true
some_breaks broken_to s = grind arith

-- a break that leaves something doesn't leave nothing
pub to_nothing : (broken_to : Option State) → is_some broken_to ≡ true → leaves_something broken_to ≡ false
    → leaves_nothing broken_to ≡ true
to_nothing broken_to b s = grind arith
