use Rattle.lease_laws.proofs.Words.{rules}
use Rattle.std.proofs.lemmas.List.Sorted.{IsNonDecreasingBy-from_sort_by_key}
use Rattle.lease_reasons.specs.declared.reason.Belief.{Belief}
use Rattle.lease_reasons.proofs.beliefs.put_in_order.Goals as goal

pub returns-clause-ordered : goal.returns-clause-ordered
returns-clause-ordered c = IsNonDecreasingBy-from_sort_by_key (λ (b : Belief). b.place) _ c.sort_unstable_by_key.ensures.sorted
    (λ a r f' k. search rules)
