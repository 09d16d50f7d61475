use Rattle.lease_laws.proofs.Words.{length}
use Rattle.lease_world.proofs.world.contents.digest_of.Given as goal

abbrev pub decreases-loop-rest : goal.decreases-loop-rest
decreases-loop-rest l = length l.rest
