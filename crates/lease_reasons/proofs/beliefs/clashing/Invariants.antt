use Rattle.lease_laws.proofs.Words.{◌≡◌, take}
use Rattle.lease_reasons.specs.Beliefs.{clashing}
use Rattle.lease_reasons.specs.Clients.{is_good_in}
use Rattle.lease_reasons.proofs.beliefs.clashing.Given as goal

abbrev pub invariant-loop-belief : goal.invariant-loop-belief
invariant-loop-belief l = l.clashing.items ≡ clashing (is_good_in l.clients.standings.items) (take l.belief-index l.beliefs)
