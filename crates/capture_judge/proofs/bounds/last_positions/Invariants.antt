use Rattle.capture_judge.proofs.placings.Positions.{HasBelow}
use Rattle.capture_judge.proofs.bounds.last_positions.Given as goal

abbrev pub invariant-loop-chain : goal.invariant-loop-chain
invariant-loop-chain l = HasBelow l.positions.items l.chains l.chain-index
