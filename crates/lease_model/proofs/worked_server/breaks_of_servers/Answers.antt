use Rattle.std.proofs.Common.{refl}
use Rattle.lease_model.proofs.ServerComputes.{the_server}
use Rattle.lease_model.proofs.worked_server.breaks_of_servers.Goals as goal

pub returns-clause-keys : goal.returns-clause-keys
unfolding the_server
returns-clause-keys c = refl

pub returns-clause-own_lease : goal.returns-clause-own_lease
unfolding the_server
returns-clause-own_lease c = refl

pub returns-clause-reads : goal.returns-clause-reads
unfolding the_server
returns-clause-reads c = refl

pub returns-clause-one_break : goal.returns-clause-one_break
unfolding the_server
returns-clause-one_break c = refl

pub returns-clause-held_write : goal.returns-clause-held_write
unfolding the_server
returns-clause-held_write c = refl

pub returns-clause-one_conflict : goal.returns-clause-one_conflict
unfolding the_server
returns-clause-one_conflict c = refl

pub returns-clause-held_in_order : goal.returns-clause-held_in_order
unfolding the_server
returns-clause-held_in_order c = refl

pub returns-clause-expired : goal.returns-clause-expired
unfolding the_server
returns-clause-expired c = refl
