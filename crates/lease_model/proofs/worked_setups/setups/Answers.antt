use Rattle.std.proofs.Common.{refl}
use Rattle.lease_model.proofs.WorldComputes.{the_world}
use Rattle.lease_model.proofs.worked_setups.setups.Goals as goal

pub returns-clause-allowed : goal.returns-clause-allowed
unfolding the_world
returns-clause-allowed c = refl

pub returns-clause-nothing_there : goal.returns-clause-nothing_there
unfolding the_world
returns-clause-nothing_there c = (refl, refl, refl, refl, refl)
