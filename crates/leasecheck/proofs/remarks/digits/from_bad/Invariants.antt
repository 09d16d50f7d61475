use Rattle.lease_laws.proofs.Words.{length}
use Rattle.leasecheck.proofs.remarks.digits.from_bad.Given as goal

abbrev pub decreases-loop-rest : goal.decreases-loop-rest
decreases-loop-rest l = length l.rest
