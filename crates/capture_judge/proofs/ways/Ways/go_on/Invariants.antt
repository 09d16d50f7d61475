use Rattle.capture_judge.proofs.calm.Going.{Chains}
use Rattle.capture_judge.proofs.ways.Ways.go_on.Given as goal

abbrev pub invariant-loop-chain : goal.invariant-loop-chain
invariant-loop-chain l = Chains l.chains l.position l.fn.self l.self l.way l.chain
