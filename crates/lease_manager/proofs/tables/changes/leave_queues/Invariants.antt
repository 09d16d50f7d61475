use Rattle.lease_laws.proofs.Words.{◌≡◌, drop, map}
use Rattle.manager_model.specs.Handling.{is_left}
use Rattle.lease_manager.specs.Parting.{tag_numbers}
use Rattle.lease_manager.specs.Queues.{all_without, queue_in}
use Rattle.lease_manager.specs.StillWaiting.{HaveForgottenQueues}
use Rattle.lease_manager.proofs.tables.changes.leave_queues.Given as goal

abbrev pub invariant-loop-file : goal.invariant-loop-file
invariant-loop-file l = record {
  gone : all_without (is_left l.client.0 (tag_numbers l.tags)) (map (λ f. f.0) (drop l.file-index l.files)) (queue_in l.queues)
      ≡ all_without (is_left l.client.0 (tag_numbers l.tags)) (map (λ f. f.0) l.files) (queue_in l.fn.queues);
  known : HaveForgottenQueues (queue_in l.fn.queues) (queue_in l.queues) l.fn.waiting l.waiting;
}
