use Rattle.std.proofs.Common.{refl}
use Rattle.manager_model.proofs.Computes.{the_manager}
use Rattle.manager_model.proofs.worked.managers_tell_by_tags.Goals as goal

pub returns-clause-told : goal.returns-clause-told
unfolding the_manager
returns-clause-told c = refl

pub returns-clause-bytes : goal.returns-clause-bytes
unfolding the_manager
returns-clause-bytes c = refl
