use Rattle.std.proofs.Common.{◌≡◌, drop, filter}
use Rattle.std.specs.List.{list_any}
use Rattle.capture_walk.specs.Chains.{is_gone, is_known}
use Rattle.capture_walk.proofs.chains.has_gone.Given as goal

-- what is left gives the whole
abbrev pub invariant-loop-event : goal.invariant-loop-event
invariant-loop-event l =
    list_any (is_gone l.number) (filter (is_known l.since) (drop l.event-index l.later))
    ≡ list_any (is_gone l.number) (filter (is_known l.since) l.later)
