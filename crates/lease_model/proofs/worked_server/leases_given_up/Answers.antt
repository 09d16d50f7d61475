use Rattle.std.proofs.Common.{refl}
use Rattle.lease_model.proofs.ServerComputes.{the_server}
use Rattle.lease_model.proofs.worked_server.leases_given_up.Goals as goal

pub returns-clause-calls : goal.returns-clause-calls
unfolding the_server
returns-clause-calls c = refl

pub returns-clause-acknowledged : goal.returns-clause-acknowledged
unfolding the_server
returns-clause-acknowledged c = (refl, refl, refl, refl, refl)

pub returns-clause-reads : goal.returns-clause-reads
unfolding the_server
returns-clause-reads c = (refl, refl)

pub returns-clause-left : goal.returns-clause-left
unfolding the_server
returns-clause-left c = refl
