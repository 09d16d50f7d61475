use Rattle.std.proofs.Common.{refl}
use Rattle.lease_model.proofs.WorldComputes.{the_world}
use Rattle.lease_model.proofs.worked_runs_of_others.runs_of_others.Goals as goal

pub returns-clause-two_files_held : goal.returns-clause-two_files_held
unfolding the_world
returns-clause-two_files_held c = (refl, refl)

pub returns-clause-strayed : goal.returns-clause-strayed
unfolding the_world
returns-clause-strayed c = (refl, refl, refl)
