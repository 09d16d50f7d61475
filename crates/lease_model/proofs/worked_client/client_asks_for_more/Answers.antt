use Rattle.std.proofs.Common.{refl}
use Rattle.lease_model.proofs.ClientComputes.{the_client}
use Rattle.lease_model.proofs.worked_client.client_asks_for_more.Goals as goal

pub returns-clause-asking : goal.returns-clause-asking
unfolding the_client
returns-clause-asking c = refl

pub returns-clause-reads : goal.returns-clause-reads
unfolding the_client
returns-clause-reads c = refl

pub returns-clause-writer : goal.returns-clause-writer
unfolding the_client
returns-clause-writer c = refl

pub returns-clause-sharing : goal.returns-clause-sharing
unfolding the_client
returns-clause-sharing c = refl

pub returns-clause-parked : goal.returns-clause-parked
unfolding the_client
returns-clause-parked c = refl

pub returns-clause-closed : goal.returns-clause-closed
unfolding the_client
returns-clause-closed c = refl

pub returns-clause-noticed : goal.returns-clause-noticed
unfolding the_client
returns-clause-noticed c = refl

pub returns-clause-through : goal.returns-clause-through
unfolding the_client
returns-clause-through c = refl
