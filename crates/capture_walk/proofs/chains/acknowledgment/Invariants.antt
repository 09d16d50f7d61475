use Rattle.std.proofs.Common.{◌≡◌, drop, filter}
use Rattle.capture_walk.specs.Chains.{acknowledgment, is_known}
use Rattle.capture_walk.proofs.chains.acknowledgment.Given as goal

-- what is left gives the whole
abbrev pub invariant-loop-index : goal.invariant-loop-index
invariant-loop-index l =
    acknowledgment l.lease (filter (is_known l.since) (drop l.index l.later))
    ≡ acknowledgment l.lease (filter (is_known l.since) l.later)
