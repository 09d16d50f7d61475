use Rattle.lease_laws.proofs.Words.{◌++◌, ◌≡◌, ℕ, filter, take}
use Rattle.lease_world.specs.judge.Covers.{layers_at, stack_in}
use Rattle.lease_world.specs.judge.Seen.{is_open}
use Rattle.lease_world.proofs.judging.cache.lay_open.Given as goal

abbrev pub invariant-loop-write : goal.invariant-loop-write
invariant-loop-write l = (n : ℕ) → stack_in l.covers n
    ≡ filter (is_open l.settled) (layers_at n (take l.write-index l.fresh)) ++ stack_in l.fn.covers n
