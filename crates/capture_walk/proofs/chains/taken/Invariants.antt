use Rattle.std.proofs.Common.{◌≡◌, drop, filter}
use Rattle.capture_walk.specs.Chains.{taken, is_known}
use Rattle.capture_walk.proofs.chains.taken.Given as goal

-- what is left gives the whole
abbrev pub invariant-loop-event : goal.invariant-loop-event
invariant-loop-event l =
    taken l.sent (filter (is_known l.since) (drop l.event-index l.later)) ≡ taken l.sent (filter (is_known l.since) l.later)
