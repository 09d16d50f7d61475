use Rattle.std.proofs.Common.{refl}
use Rattle.lease_model.proofs.ServerComputes.{the_server}
use Rattle.lease_model.proofs.worked_server.durable_opens.Goals as goal

pub returns-clause-grants : goal.returns-clause-grants
unfolding the_server
returns-clause-grants c = refl

pub returns-clause-in_vain : goal.returns-clause-in_vain
unfolding the_server
returns-clause-in_vain c = refl

pub returns-clause-reconnects : goal.returns-clause-reconnects
unfolding the_server
returns-clause-reconnects c = refl

pub returns-clause-scavenged : goal.returns-clause-scavenged
unfolding the_server
returns-clause-scavenged c = (refl, refl)
