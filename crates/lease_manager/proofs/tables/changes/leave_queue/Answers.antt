use Rattle.lease_laws.proofs.Words.{◌∙◌, inr, refl, sym}
use Rattle.manager_model.specs.Handling.{is_left}
use Rattle.lease_manager.specs.Parting.{tag_numbers}
use Rattle.lease_manager.specs.Queues.{queue_in}
use Rattle.lease_manager.proofs.waits.Queuing.{forgotten_queue, none_lost, none_of_client}
use Rattle.lease_manager.proofs.tables.changes.leave_queue.Goals as goal

pub returns-then-has_of : goal.returns-then-has_of
returns-then-has_of c = record {
  gone = c.leave.ensures;
  known = forgotten_queue c.args.file.0 _ (queue_in c.args.queues.now) _ c.args.waiting.now c.forget.new.self
      c.leave.ensures c.forget.ensures;
}

pub returns-else-has_of : goal.returns-else-has_of
returns-else-has_of c = record {
  gone = none_lost (is_left c.args.client.0 (tag_numbers c.args.tags.now)) (queue_in c.args.queues.now) c.args.file.0
      (none_of_client c.args.client.0 (tag_numbers c.args.tags.now) _
      (sym c.has_of.ensures ∙ c.if-has_of.false));
  known = λ file. inr (refl, refl);
}
