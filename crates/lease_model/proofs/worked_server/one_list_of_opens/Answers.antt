use Rattle.std.proofs.Common.{refl}
use Rattle.lease_model.proofs.ServerComputes.{the_server}
use Rattle.lease_model.proofs.worked_server.one_list_of_opens.Goals as goal

pub returns-clause-shared : goal.returns-clause-shared
unfolding the_server
returns-clause-shared c = refl

pub returns-clause-allowed : goal.returns-clause-allowed
unfolding the_server
returns-clause-allowed c = refl

pub returns-clause-later : goal.returns-clause-later
unfolding the_server
returns-clause-later c = refl

pub returns-clause-later_allowed : goal.returns-clause-later_allowed
unfolding the_server
returns-clause-later_allowed c = refl
