use Rattle.lease_laws.proofs.Words.{◌++◌, ◌≡◌}
use Rattle.lease_world.proofs.world.seat.push_all.Given as goal

abbrev pub invariant-loop-request : goal.invariant-loop-request
invariant-loop-request l = l.queue.items ≡ l.fn.queue.items ++ l.yielded
