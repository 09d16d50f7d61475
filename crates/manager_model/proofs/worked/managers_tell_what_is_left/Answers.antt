use Rattle.std.proofs.Common.{refl}
use Rattle.manager_model.proofs.Computes.{the_manager}
use Rattle.manager_model.proofs.worked.managers_tell_what_is_left.Goals as goal

pub returns : goal.returns
unfolding the_manager
returns c = refl
