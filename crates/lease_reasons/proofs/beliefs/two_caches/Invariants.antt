use Rattle.lease_laws.proofs.Words.{take}
use Rattle.lease_reasons.specs.Beliefs.{Each, HasNoRivals}
use Rattle.lease_reasons.specs.Places.{past_of}
use Rattle.lease_reasons.proofs.beliefs.two_caches.Given as goal

abbrev pub invariant-loop-file : goal.invariant-loop-file
invariant-loop-file l = Each (λ f. HasNoRivals (past_of l.facts) f.0) (take l.file-index l.file-items)
