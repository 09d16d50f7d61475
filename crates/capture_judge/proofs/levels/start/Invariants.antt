use Rattle.std.proofs.Common.{◌≡◌, None, replicate}
use Rattle.capture_judge.proofs.levels.start.Given as goal

abbrev pub invariant-loop-i : goal.invariant-loop-i
invariant-loop-i l = l.came.items ≡ replicate l._i None
