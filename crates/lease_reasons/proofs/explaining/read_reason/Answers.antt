use Rattle.lease_laws.proofs.Words.{inr, refl}
use Rattle.lease_reasons.proofs.explaining.read_reason.Goals as goal

pub returns-in-Some : goal.returns-in-Some
returns-in-Some c = inr (c.in-Some.expected, refl, rw c.in-Some.is at c.in_ok-expected.ensures)
