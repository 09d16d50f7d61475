use Rattle.lease_laws.proofs.server.Rounds.{tried-waits}
use Rattle.lease_laws.proofs.server_laws.waits_of_tries.Goals as goal

pub returns : goal.returns
returns c = tried-waits
