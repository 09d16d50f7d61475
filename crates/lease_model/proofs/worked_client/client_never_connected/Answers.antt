use Rattle.std.proofs.Common.{refl}
use Rattle.lease_model.proofs.ClientComputes.{the_client}
use Rattle.lease_model.proofs.worked_client.client_never_connected.Goals as goal

pub returns : goal.returns
unfolding the_client
returns c = refl
