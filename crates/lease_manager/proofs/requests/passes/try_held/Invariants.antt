use Rattle.lease_laws.proofs.Words.{◌≡◌, length}
use Rattle.manager_model.specs.Handling.{passes}
use Rattle.lease_manager.specs.Outs.{handling_of}
use Rattle.lease_manager.specs.Table.{queue_at}
use Rattle.lease_manager.proofs.requests.passes.try_held.Given as goal

abbrev pub invariant-loop : goal.invariant-loop
invariant-loop l = passes l.file.0 (handling_of l.tables l.told) ≡ passes l.file.0 (handling_of l.fn.tables l.fn.told)

abbrev pub decreases-loop : goal.decreases-loop
decreases-loop l = length (queue_at l.tables.queues l.file.0)
