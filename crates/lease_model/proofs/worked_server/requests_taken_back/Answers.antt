use Rattle.std.proofs.Common.{refl}
use Rattle.lease_model.proofs.ServerComputes.{the_server}
use Rattle.lease_model.proofs.worked_server.requests_taken_back.Goals as goal

pub returns : goal.returns
unfolding the_server
returns c = refl
