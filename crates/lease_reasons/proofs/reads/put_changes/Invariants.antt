use Rattle.lease_laws.proofs.Words.{◌≡◌, changes_of, patches, take}
use Rattle.lease_reasons.specs.Places.{past_of}
use Rattle.lease_reasons.proofs.reads.put_changes.Given as goal

abbrev pub invariant-loop-fact : goal.invariant-loop-fact
invariant-loop-fact l = l.bytes.items ≡ patches l.fn.bytes.items (changes_of l.file.0 (past_of (take l.fact-index l.facts)))
