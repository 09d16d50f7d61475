use Rattle.std.proofs.Common.{refl}
use Rattle.lease_model.proofs.WorldComputes.{the_world}
use Rattle.lease_model.proofs.worked_runs_of_breaks.runs_of_breaks.Goals as goal

pub returns-clause-whole_break : goal.returns-clause-whole_break
unfolding the_world
returns-clause-whole_break c = (refl, refl, refl)

pub returns-clause-late_break : goal.returns-clause-late_break
unfolding the_world
returns-clause-late_break c = (refl, refl)

pub returns-clause-late_break_after : goal.returns-clause-late_break_after
unfolding the_world
returns-clause-late_break_after c = (refl, refl)

pub returns-clause-parked_handle_break : goal.returns-clause-parked_handle_break
unfolding the_world
returns-clause-parked_handle_break c = (refl, refl)

pub returns-clause-used_handle_break : goal.returns-clause-used_handle_break
unfolding the_world
returns-clause-used_handle_break c = (refl, refl, refl)

pub returns-clause-timer : goal.returns-clause-timer
unfolding the_world
returns-clause-timer c = (refl, refl, refl, refl)
