use Rattle.lease_laws.proofs.Words.{◌≡◌, Fact, List, take}
use Rattle.lease_reasons.specs.Places.{past_of}
use Rattle.lease_reasons.specs.Reads.{AreSettled, unsettled_places}
use Rattle.lease_reasons.proofs.reads.waiting.Given as goal

abbrev pub invariant-loop-index : goal.invariant-loop-index
invariant-loop-index l = (past : List Fact) → AreSettled l.client.0 past l.settled.keys
    → l.places.items ≡ unsettled_places l.client.0 l.file.0 past (past_of (take l.index l.facts))
