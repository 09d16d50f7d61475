use Rattle.capture_judge.proofs.placings.Positions.{Gathered}
use Rattle.capture_judge.proofs.bounds.push_lasts.Given as goal

abbrev pub invariant-loop-change : goal.invariant-loop-change
invariant-loop-change l = Gathered l.fn.positions.items l.positions.items l.changes l.change-index
