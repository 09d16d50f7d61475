use Rattle.std.proofs.Common.{◌≡◌, drop}
use Rattle.capture_judge.specs.Searching.{is_overdue}
use Rattle.capture_judge.proofs.bounds.is_overdue.Given as goal

abbrev pub invariant-loop-i : goal.invariant-loop-i
invariant-loop-i l = is_overdue l.position (drop l.i l.changes) ≡ is_overdue l.position (drop l.from l.changes)
