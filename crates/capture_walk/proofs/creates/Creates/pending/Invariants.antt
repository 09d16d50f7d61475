use Rattle.std.proofs.Common.{◌≡◌, drop}
use Rattle.capture_walk.specs.Creates.{create_in}
use Rattle.capture_walk.proofs.creates.Creates.pending.Given as goal

-- what is left gives the whole
abbrev pub invariant-loop-one : goal.invariant-loop-one
invariant-loop-one l =
    create_in l.connection l.id (drop l.one-index l.self.pending.items) ≡ create_in l.connection l.id l.self.pending.items
