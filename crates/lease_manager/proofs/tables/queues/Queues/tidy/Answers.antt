use Rattle.lease_laws.proofs.Words.{◌∙◌, sym}
use Rattle.lease_manager.proofs.waits.Queuing.{dropped_at, no_items}
use Rattle.lease_manager.proofs.tables.queues.Queues.tidy.Goals as goal

pub returns-then-is_empty : goal.returns-then-is_empty
returns-then-is_empty c = dropped_at c.args.self.now.by_file c.remove.new.self c.args.file c.remove.ensures.updates
    (sym c.at.ensures ∙ no_items _ (sym c.is_empty.ensures ∙ c.if-is_empty.true))
