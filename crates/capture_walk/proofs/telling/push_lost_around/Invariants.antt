use Rattle.std.proofs.Common.{◌≡◌, ◌++◌, take}
use Rattle.std.specs.List.{flat_map}
use Rattle.capture_walk.specs.Events.{lost_at}
use Rattle.capture_walk.proofs.telling.push_lost_around.Given as goal

abbrev pub invariant-loop-one : goal.invariant-loop-one
invariant-loop-one l = l.events.items
    ≡ l.fn.events.items ++ flat_map (λ one. lost_at l.server l.since one one.lease) (take l.one-index l.opens)
