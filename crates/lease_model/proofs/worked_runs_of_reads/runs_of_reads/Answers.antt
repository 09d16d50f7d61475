use Rattle.std.proofs.Common.{refl}
use Rattle.lease_model.proofs.WorldComputes.{the_world}
use Rattle.lease_model.proofs.worked_runs_of_reads.runs_of_reads.Goals as goal

pub returns-clause-staleness : goal.returns-clause-staleness
unfolding the_world
returns-clause-staleness c = (refl, refl, refl)

pub returns-clause-own_writes : goal.returns-clause-own_writes
unfolding the_world
returns-clause-own_writes c = (refl, refl)

pub returns-clause-no_event : goal.returns-clause-no_event
unfolding the_world
returns-clause-no_event c = (refl, refl)
