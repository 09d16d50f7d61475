use Rattle.capture_judge.proofs.placings.Feasible.{Earliest}
use Rattle.capture_judge.proofs.bounds.is_feasible.Given as goal

abbrev pub invariant-loop-change : goal.invariant-loop-change
invariant-loop-change l = Earliest l.changes l.change-index l.earliest
