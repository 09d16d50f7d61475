use Rattle.lease_laws.proofs.Words.{take}
use Rattle.lease_reasons.specs.Places.{past_of}
use Rattle.lease_reasons.specs.Reads.{AreSettled}
use Rattle.lease_reasons.proofs.reads.settled.Given as goal

abbrev pub invariant-loop-fact : goal.invariant-loop-fact
invariant-loop-fact l = AreSettled l.client.0 (past_of (take l.fact-index l.facts)) l.numbers.keys
