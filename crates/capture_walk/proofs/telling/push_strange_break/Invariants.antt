use Rattle.std.proofs.Common.{◌≡◌, ◌++◌, take}
use Rattle.std.specs.List.{flat_map}
use Rattle.capture_walk.specs.Events.{lost_under}
use Rattle.capture_walk.proofs.telling.push_strange_break.Given as goal

abbrev pub invariant-loop-one : goal.invariant-loop-one
invariant-loop-one l =
    l.events.items ≡ l.fn.events.items ++ flat_map (λ other. lost_under l.key.0 other.lease) (take l.one-index l.opens)
