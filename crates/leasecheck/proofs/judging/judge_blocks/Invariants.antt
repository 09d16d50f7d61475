use Rattle.leasecheck.proofs.Rounds.{IsSoFar}
use Rattle.leasecheck.proofs.judging.judge_blocks.Given as goal

abbrev pub invariant-loop-round : goal.invariant-loop-round
invariant-loop-round g l = IsSoFar (g.I.Read.remaining l.fn.input) (g.I.Read.remaining l.input) l.progress l.begun.items l._round
