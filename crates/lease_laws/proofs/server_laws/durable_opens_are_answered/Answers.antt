use Rattle.lease_laws.proofs.server.Durable.{durable-told}
use Rattle.lease_laws.proofs.server_laws.durable_opens_are_answered.Goals as goal

pub returns : goal.returns
returns c = durable-told
