use Rattle.lease_laws.proofs.Words.{◌∙◌, ap, inr, sym}
use Rattle.manager_model.specs.Handling.{is_of}
use Rattle.lease_manager.specs.Queues.{queue_in}
use Rattle.lease_manager.specs.StillWaiting.{count_in}
use Rattle.lease_manager.proofs.waits.Queuing.{forgotten_queue, none_lost}
use Rattle.lease_manager.proofs.tables.changes.forget_queue.Goals as goal
use Rattle.lease_manager.proofs.tables.changes.forget_queue.Goals.{then-has_of, else-has_of}

pub returns-clause-known : goal.returns-clause-known
returns-clause-known c = elim c.if-has_of.branch [
  | then-has_of w ↦ rw w.waiting-is (forgotten_queue c.args.file.0 _ (queue_in c.args.queues.now) _ c.args.waiting.now
      w.forget.new.self c.forget-2.ensures w.forget.ensures)
  | else-has_of w ↦ λ file. inr (
    ap (λ waiting. count_in waiting file) w.waiting-is,
    c.forget-2.ensures file ∙ sym (none_lost (is_of c.args.client.0) (queue_in c.args.queues.now) c.args.file.0
        (sym c.has_of.ensures ∙ w.if-has_of.false) file),
  )
]
