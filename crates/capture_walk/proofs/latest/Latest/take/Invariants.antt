use Rattle.std.proofs.Common.{◌≡◌, ◌++◌, List, drop}
use Rattle.capture_walk.specs.Events.{KnowsLatest}
use Rattle.capture_walk.specs.declared.event.Event.{Event}
use Rattle.capture_walk.proofs.latest.Latest.take.Given as goal

-- what it knows and what is left are all events
abbrev pub invariant-loop-event : goal.invariant-loop-event
invariant-loop-event l = (before added : List Event) → KnowsLatest before l.fn.self → l.events ≡ before ++ added
    → (now : List Event) × KnowsLatest now l.self × (now ++ drop l.event-index l.event-items ≡ l.events)
