use Rattle.std.proofs.Common.{◌≡◌, drop, filter}
use Rattle.capture_walk.specs.Chains.{answer, is_known}
use Rattle.capture_walk.proofs.chains.answer.Given as goal

-- what is left gives the whole
abbrev pub invariant-loop-event : goal.invariant-loop-event
invariant-loop-event l =
    answer l.lease l.connection l.id (filter (is_known l.since) (drop l.event-index l.later))
    ≡ answer l.lease l.connection l.id (filter (is_known l.since) l.later)
