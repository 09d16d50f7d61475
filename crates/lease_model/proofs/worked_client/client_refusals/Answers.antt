use Rattle.std.proofs.Common.{refl}
use Rattle.lease_model.proofs.ClientComputes.{the_client}
use Rattle.lease_model.proofs.worked_client.client_refusals.Goals as goal

pub returns-clause-refusals : goal.returns-clause-refusals
unfolding the_client
returns-clause-refusals c = refl

pub returns-clause-writer : goal.returns-clause-writer
unfolding the_client
returns-clause-writer c = refl

pub returns-clause-unknown_file : goal.returns-clause-unknown_file
unfolding the_client
returns-clause-unknown_file c = refl

pub returns-clause-used_up : goal.returns-clause-used_up
unfolding the_client
returns-clause-used_up c = (refl, refl, refl)

pub returns-clause-parked : goal.returns-clause-parked
unfolding the_client
returns-clause-parked c = refl
