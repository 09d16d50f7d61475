use Rattle.std.proofs.Common.{refl}
use Rattle.lease_model.proofs.ServerComputes.{the_server}
use Rattle.lease_model.proofs.worked_rules.rises_of_servers.Goals as goal

pub returns-clause-stays : goal.returns-clause-stays
unfolding the_server
returns-clause-stays c = refl

pub returns-clause-rises : goal.returns-clause-rises
unfolding the_server
returns-clause-rises c = refl

pub returns-clause-alone : goal.returns-clause-alone
unfolding the_server
returns-clause-alone c = refl
