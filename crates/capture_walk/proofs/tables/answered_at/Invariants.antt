use Rattle.std.proofs.Common.{◌≡◌, drop, filter}
use Rattle.capture_walk.specs.Chains.{is_known}
use Rattle.capture_walk.specs.Tables.{answered_at}
use Rattle.capture_walk.proofs.tables.answered_at.Given as goal

-- what is left gives the whole
abbrev pub invariant-loop-event : goal.invariant-loop-event
invariant-loop-event l =
    answered_at l.connection l.id (filter (is_known l.since) (drop l.event-index l.later))
    ≡ answered_at l.connection l.id (filter (is_known l.since) l.later)
