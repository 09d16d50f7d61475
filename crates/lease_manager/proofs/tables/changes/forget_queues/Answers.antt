use Rattle.lease_laws.proofs.Words.{get_or, inr, refl, rules}
use Rattle.manager_model.specs.Handling.{is_of}
use Rattle.lease_manager.specs.Queues.{queue_in}
use Rattle.lease_manager.proofs.waits.Queuing.{forgotten_twice, next_forgotten, none_forgotten}
use Rattle.lease_manager.proofs.tables.changes.forget_queues.Goals as goal

pub loop-file-init : goal.loop-file-init
loop-file-init c = record { gone = refl; known = λ file. inr (refl, refl) }

pub loop-file-preserved : goal.loop-file-preserved
loop-file-preserved c = record {
  gone = next_forgotten c.args.files.now c.loop-file.file-index
      (get_or c.args.files.now c.loop-file.file-index (record { 0 = 0 })) (is_of c.args.client.0) c.loop-file.queues
      c.forget_queue.new.queues _ c.loop-file-test.true (search rules) c.forget_queue.ensures.gone c.loop-file.invariant.gone;
  known = forgotten_twice (queue_in c.args.queues.now) (queue_in c.loop-file.queues) (queue_in c.forget_queue.new.queues)
      c.args.waiting.now c.loop-file.waiting c.forget_queue.new.waiting c.loop-file.invariant.known c.forget_queue.ensures.known;
}

pub returns : goal.returns
returns c = record {
  gone = none_forgotten c.args.files.now c.loop-file.file-index (is_of c.args.client.0) (queue_in c.loop-file.queues) _
      c.loop-file-test.false c.loop-file.invariant.gone;
  known = c.loop-file.invariant.known;
}
