use Rattle.lease_laws.proofs.Words.{◌≡◌, Fact, List, patches, take, unsettled}
use Rattle.lease_reasons.specs.Places.{past_of}
use Rattle.lease_reasons.specs.Reads.{AreSettled}
use Rattle.lease_reasons.proofs.reads.put_writes.Given as goal

abbrev pub invariant-loop-fact : goal.invariant-loop-fact
invariant-loop-fact l = (past : List Fact) → AreSettled l.client.0 past l.settled.keys
    → l.bytes.items ≡ patches l.fn.bytes.items (unsettled l.client.0 l.file.0 past (past_of (take l.fact-index l.facts)))
