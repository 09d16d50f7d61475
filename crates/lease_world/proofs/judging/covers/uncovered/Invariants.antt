use Rattle.lease_laws.proofs.Words.{◌≡◌, ◌≤◌, filter, length}
use Rattle.lease_world.specs.judge.Covers.{layers_under}
use Rattle.lease_world.specs.judge.Seen.{is_open}
use Rattle.lease_world.proofs.judging.covers.uncovered.Given as goal

abbrev pub invariant-loop-top : goal.invariant-loop-top
invariant-loop-top l = (l.top ≤ length l.covers)
    × (filter (is_open l.settled) (layers_under l.covers l.top) ≡ filter (is_open l.settled) (layers_under l.covers l.fn.top))

abbrev pub decreases-loop-top : goal.decreases-loop-top
decreases-loop-top l = l.top
