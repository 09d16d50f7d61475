use Rattle.std.proofs.Common.{refl}
use Rattle.lease_model.proofs.ClientComputes.{the_client}
use Rattle.lease_model.proofs.worked_client.client_of_one_file.Goals as goal

pub returns : goal.returns
unfolding the_client
returns c = refl
