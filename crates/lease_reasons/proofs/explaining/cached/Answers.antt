use Rattle.lease_laws.proofs.Words.{◌∷◌, Fact, List, OneWriteCache, both_ways, subst}
use Rattle.lease_laws.proofs.records.VerdictLemmas.{two_caches-test}
use Rattle.lease_reasons.proofs.explaining.cached.Goals as goal

pub returns-in-None : goal.returns-in-None
returns-in-None c = λ fact past is two.
    let one : OneWriteCache (fact ∷ past) =
    subst (λ (facts : List Fact). OneWriteCache facts) is (rw c.in-None.is at c.in_ok-two_caches.ensures) in
    absurd (both_ways _ (two_caches-test (fact ∷ past) one) two)
