use Rattle.lease_laws.proofs.Words.{take}
use Rattle.lease_reasons.specs.Beliefs.{AreLast}
use Rattle.lease_reasons.specs.Places.{past_of}
use Rattle.lease_reasons.proofs.last_beliefs.LastBeliefs.of.Given as goal

abbrev pub invariant-loop-index : goal.invariant-loop-index
invariant-loop-index l = AreLast (past_of (take l.index l.facts)) l.beliefs
