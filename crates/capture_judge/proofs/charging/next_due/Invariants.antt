use Rattle.capture_judge.specs.Charges.{IsNextDue}
use Rattle.capture_judge.proofs.charging.next_due.Given as goal

abbrev pub invariant-loop-index : goal.invariant-loop-index
invariant-loop-index l = IsNextDue l.changes l.from l.index l.due
