use Rattle.std.proofs.Common.{◌≡◌, drop}
use Rattle.capture_judge.specs.Searching.{is_late}
use Rattle.capture_judge.proofs.ways.Way.is_late.Given as goal

abbrev pub invariant-loop-i : goal.invariant-loop-i
invariant-loop-i l = is_late l.position l.self.came.items l.i
    (drop l.i l.chains) ≡ is_late l.position l.self.came.items 0 l.chains
