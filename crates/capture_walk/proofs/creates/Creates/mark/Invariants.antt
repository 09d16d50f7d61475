use Rattle.std.proofs.Common.{◌≡◌, ◌++◌, map, take, drop, Some}
use Rattle.capture_walk.specs.Creates.{remade_after}
use Rattle.capture_walk.proofs.creates.Creates.mark.Given as goal

abbrev pub invariant-loop-one : goal.invariant-loop-one
invariant-loop-one l =
    l.one-items
    ≡ map (remade_after (Some l.name)) (take l.one-index l.fn.self.pending.items) ++ drop l.one-index l.fn.self.pending.items
