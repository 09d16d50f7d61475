use Rattle.lease_laws.proofs.Words.{take}
use Rattle.lease_reasons.specs.Clients.{Describes}
use Rattle.lease_reasons.specs.Places.{past_of}
use Rattle.lease_reasons.proofs.clients.Clients.of.Given as goal

abbrev pub invariant-loop-fact : goal.invariant-loop-fact
invariant-loop-fact l = Describes (past_of (take l.fact-index l.facts)) l.clients
