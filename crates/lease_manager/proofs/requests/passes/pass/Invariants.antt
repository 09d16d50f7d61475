use Rattle.lease_laws.proofs.Words.{◌-◌, ◌≡◌, length}
use Rattle.manager_model.specs.Handling.{one_pass}
use Rattle.lease_manager.specs.Outs.{handling_of}
use Rattle.lease_manager.specs.Passing.{pass_at}
use Rattle.lease_manager.specs.Table.{queue_at}
use Rattle.lease_manager.proofs.requests.passes.pass.Given as goal

abbrev pub invariant-loop-place : goal.invariant-loop-place
invariant-loop-place l = pass_at l.file.0 l.place l.answered (handling_of l.tables l.told)
    ≡ one_pass l.file.0 (handling_of l.fn.tables l.fn.told)

abbrev pub decreases-loop-place : goal.decreases-loop-place
decreases-loop-place l = length (queue_at l.tables.queues l.file.0) - l.place
