use Rattle.capture_judge.proofs.calm.Going.{Along}
use Rattle.capture_judge.proofs.ways.Ways.go_along.Given as goal

abbrev pub invariant-loop-change : goal.invariant-loop-change
invariant-loop-change l = Along l.chains l.position l.fn.self l.self l.way l.chain l.change
