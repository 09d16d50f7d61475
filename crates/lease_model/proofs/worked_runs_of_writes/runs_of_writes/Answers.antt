use Rattle.std.proofs.Common.{refl}
use Rattle.lease_model.proofs.WorldComputes.{the_world}
use Rattle.lease_model.proofs.worked_runs_of_writes.runs_of_writes.Goals as goal

pub returns-clause-crossing_writes : goal.returns-clause-crossing_writes
unfolding the_world
returns-clause-crossing_writes c = (refl, refl, refl)

pub returns-clause-two_writes : goal.returns-clause-two_writes
unfolding the_world
returns-clause-two_writes c = (refl, refl, refl)

pub returns-clause-break_to_reads : goal.returns-clause-break_to_reads
unfolding the_world
returns-clause-break_to_reads c = (refl, refl, refl)
