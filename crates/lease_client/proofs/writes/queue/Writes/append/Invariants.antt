use Rattle.lease_laws.proofs.Words.{◌++◌, ◌≡◌}
use Rattle.lease_client.proofs.writes.queue.Writes.append.Given as goal

abbrev pub invariant-loop-write : goal.invariant-loop-write
invariant-loop-write l = l.self ≡ l.fn.self ++ l.yielded
