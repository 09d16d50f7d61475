use Rattle.lease_laws.proofs.Words.{◌∙◌, sym}
use Rattle.lease_manager.proofs.waits.Queuing.{queue_filed}
use Rattle.lease_manager.proofs.tables.Tables.held.Goals as goal

pub returns : goal.returns
returns c = rw (← c.self.view_is) (c.at.ensures ∙ sym (queue_filed c.self.inside.queues c.args.file.0))
