use Rattle.std.proofs.Common.{refl}
use Rattle.manager_model.proofs.Computes.{the_manager}
use Rattle.manager_model.proofs.worked.managers_keep_opens.Goals as goal

pub returns-clause-shares : goal.returns-clause-shares
unfolding the_manager
returns-clause-shares c = refl

pub returns-clause-accesses : goal.returns-clause-accesses
unfolding the_manager
returns-clause-accesses c = refl

pub returns-clause-connected : goal.returns-clause-connected
unfolding the_manager
returns-clause-connected c = refl
