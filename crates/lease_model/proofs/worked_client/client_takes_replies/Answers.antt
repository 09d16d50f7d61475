use Rattle.std.proofs.Common.{refl}
use Rattle.lease_model.proofs.ClientComputes.{the_client}
use Rattle.lease_model.proofs.worked_client.client_takes_replies.Goals as goal

pub returns-clause-base : goal.returns-clause-base
unfolding the_client
returns-clause-base c = refl

pub returns-clause-old_file_id : goal.returns-clause-old_file_id
unfolding the_client
returns-clause-old_file_id c = refl

pub returns-clause-first_beliefs : goal.returns-clause-first_beliefs
unfolding the_client
returns-clause-first_beliefs c = refl

pub returns-clause-later_beliefs : goal.returns-clause-later_beliefs
unfolding the_client
returns-clause-later_beliefs c = refl

pub returns-clause-breaks : goal.returns-clause-breaks
unfolding the_client
returns-clause-breaks c = refl
