use Rattle.std.proofs.Common.{◌≡◌, drop, None}
use Rattle.capture_walk.specs.Events.{last_asked}
use Rattle.capture_walk.proofs.telling.last_asked.Given as goal

-- what is left gives the whole
abbrev pub invariant-loop-event : goal.invariant-loop-event
invariant-loop-event l =
    last_asked l.connection l.id l.found (drop l.event-index l.events) ≡ last_asked l.connection l.id None l.events
