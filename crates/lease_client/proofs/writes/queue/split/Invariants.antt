use Rattle.lease_laws.proofs.Words.{◌≡◌, Pending, filter, without}
use Rattle.lease_client.proofs.writes.queue.split.Given as goal

abbrev pub invariant-loop-write : goal.invariant-loop-write
invariant-loop-write l = (l.buffered ≡ filter (λ (write : Pending). write.buffered) l.yielded)
    × (l.others ≡ without (λ (write : Pending). write.buffered) l.yielded)
