use Rattle.capture_judge.specs.Searching.{Stands}
use Rattle.capture_judge.proofs.judging.judge_placing.Given as goal

abbrev pub invariant-loop-position : goal.invariant-loop-position
invariant-loop-position l = Stands l.chains l.position-items l.position-index l.ways
