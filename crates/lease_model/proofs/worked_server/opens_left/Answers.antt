use Rattle.std.proofs.Common.{refl}
use Rattle.lease_model.proofs.ServerComputes.{the_server}
use Rattle.lease_model.proofs.worked_server.opens_left.Goals as goal

pub returns-clause-opens : goal.returns-clause-opens
unfolding the_server
returns-clause-opens c = refl

pub returns-clause-waiting : goal.returns-clause-waiting
unfolding the_server
returns-clause-waiting c = refl
