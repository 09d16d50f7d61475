use Rattle.lease_laws.proofs.Words.{◌≡◌, take}
use Rattle.lease_reasons.specs.Marks.{fits}
use Rattle.lease_reasons.specs.Places.{past_of, first_place}
use Rattle.lease_reasons.proofs.marks.Mark.first.Given as goal

abbrev pub invariant-loop-index : goal.invariant-loop-index
invariant-loop-index l = l.found ≡ first_place (fits l.self) l.behind (past_of (take l.index l.facts))
