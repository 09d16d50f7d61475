use Rattle.std.proofs.Common.{refl}
use Rattle.manager_model.proofs.Computes.{the_manager}
use Rattle.manager_model.proofs.worked.managers_withdraw.Goals as goal

pub returns-clause-told : goal.returns-clause-told
unfolding the_manager
returns-clause-told c = refl

pub returns-clause-none : goal.returns-clause-none
unfolding the_manager
returns-clause-none c = refl
