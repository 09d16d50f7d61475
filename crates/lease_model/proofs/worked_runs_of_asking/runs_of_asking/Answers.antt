use Rattle.std.proofs.Common.{refl}
use Rattle.lease_model.proofs.WorldComputes.{the_world}
use Rattle.lease_model.proofs.worked_runs_of_asking.runs_of_asking.Goals as goal

pub returns-clause-promotion : goal.returns-clause-promotion
unfolding the_world
returns-clause-promotion c = (refl, refl, refl)

pub returns-clause-while_broken : goal.returns-clause-while_broken
unfolding the_world
returns-clause-while_broken c = (refl, refl)

pub returns-clause-timer : goal.returns-clause-timer
unfolding the_world
returns-clause-timer c = (refl, refl)

pub returns-clause-timer_after : goal.returns-clause-timer_after
unfolding the_world
returns-clause-timer_after c = (refl, refl, refl, refl)
