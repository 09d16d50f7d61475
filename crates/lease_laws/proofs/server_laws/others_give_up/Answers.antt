use Rattle.lease_laws.proofs.server.GivingUp.{others_give_up}
use Rattle.lease_laws.proofs.server_laws.others_give_up.Goals as goal

pub returns : goal.returns
returns c = others_give_up
