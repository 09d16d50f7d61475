use Rattle.lease_laws.proofs.Words.{◌≡◌, take}
use Rattle.lease_reasons.specs.Marks.{fits}
use Rattle.lease_reasons.specs.Places.{past_of, last_place}
use Rattle.lease_reasons.proofs.marks.Mark.last.Given as goal

abbrev pub invariant-loop-index : goal.invariant-loop-index
invariant-loop-index l = l.found ≡ last_place (fits l.self) (past_of (take l.index l.facts))
