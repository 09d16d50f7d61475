use Rattle.lease_laws.proofs.Words.{◌≡◌, start_of, take}
use Rattle.lease_reasons.specs.Places.{past_of}
use Rattle.lease_reasons.proofs.reads.start_of.Given as goal

abbrev pub invariant-loop-fact : goal.invariant-loop-fact
invariant-loop-fact l = l.bytes.items ≡ start_of l.file.0 (past_of (take l.fact-index l.facts))
