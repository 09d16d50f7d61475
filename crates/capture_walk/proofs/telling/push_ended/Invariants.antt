use Rattle.std.proofs.Common.{◌≡◌, ◌++◌, take}
use Rattle.std.specs.List.{flat_map}
use Rattle.capture_walk.specs.Events.{ended_by}
use Rattle.capture_walk.proofs.telling.push_ended.Given as goal

abbrev pub invariant-loop-one : goal.invariant-loop-one
invariant-loop-one l =
    l.events.items ≡ l.fn.events.items ++ flat_map (ended_by l.made l.seen l.opens) (take l.one-index l.opens)
