use Rattle.std.proofs.Common.{◌≡◌, drop}
use Rattle.capture_judge.specs.Searching.{may_go_on}
use Rattle.capture_judge.proofs.ways.may_go_on.Given as goal

abbrev pub invariant-loop-i : goal.invariant-loop-i
invariant-loop-i l = may_go_on l.position (drop l.i l.changes) ≡ may_go_on l.position (drop l.from l.changes)
