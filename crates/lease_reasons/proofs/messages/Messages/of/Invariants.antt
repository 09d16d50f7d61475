use Rattle.lease_laws.proofs.Words.{◌≡◌, take}
use Rattle.lease_reasons.specs.Messages.{mail_of}
use Rattle.lease_reasons.specs.Places.{past_of}
use Rattle.lease_reasons.proofs.messages.Messages.of.Given as goal

abbrev pub invariant-loop-index : goal.invariant-loop-index
invariant-loop-index l = l.messages ≡ mail_of l.client.0 (past_of (take l.index l.facts))
