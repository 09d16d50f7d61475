use Rattle.lease_laws.proofs.Words.{◌++◌, ◌≡◌, length}
use Rattle.leasecheck.specs.Arguments.{digits_in}
use Rattle.leasecheck.proofs.hexadecimal.digits_in.Given as goal

-- the digits so far and those of what is left are all
abbrev pub invariant-loop-rest : goal.invariant-loop-rest
invariant-loop-rest l = l.digits.items ++ digits_in l.rest ≡ digits_in l.text

abbrev pub decreases-loop-rest : goal.decreases-loop-rest
decreases-loop-rest l = length l.rest
