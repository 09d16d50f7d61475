use Rattle.std.proofs.Common.{refl}
use Rattle.lease_model.proofs.ServerComputes.{the_server}
use Rattle.lease_model.proofs.worked_server.refusals_of_servers.Goals as goal

pub returns-clause-arrival : goal.returns-clause-arrival
unfolding the_server
returns-clause-arrival c = refl

pub returns-clause-denied : goal.returns-clause-denied
unfolding the_server
returns-clause-denied c = refl

pub returns-clause-file_ids : goal.returns-clause-file_ids
unfolding the_server
returns-clause-file_ids c = (refl, refl)
