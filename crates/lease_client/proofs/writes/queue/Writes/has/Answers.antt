use Rattle.lease_laws.proofs.Words.{◌∙◌, ap, is_some}
use Rattle.lease_client.proofs.Queued.{is_there}
use Rattle.lease_client.proofs.writes.queue.Writes.has.Goals as goal

pub returns : goal.returns
returns c = c.is_some.ensures ∙ (ap is_some c.place_of.ensures ∙ is_there c.args.number c.args.self.now)
