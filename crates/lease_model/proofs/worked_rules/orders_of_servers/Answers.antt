use Rattle.std.proofs.Common.{refl}
use Rattle.lease_model.proofs.ServerComputes.{the_server}
use Rattle.lease_model.proofs.worked_rules.orders_of_servers.Goals as goal

pub returns-clause-goes_on : goal.returns-clause-goes_on
unfolding the_server
returns-clause-goes_on c = refl

pub returns-clause-waits : goal.returns-clause-waits
unfolding the_server
returns-clause-waits c = refl

pub returns-clause-in_order : goal.returns-clause-in_order
unfolding the_server
returns-clause-in_order c = refl
