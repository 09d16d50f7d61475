use Rattle.lease_laws.proofs.Words.{◌∙◌, List, Option, ap, subst, sym}
use Rattle.std.specs.List.Sorted.{IsPermutation}
use Rattle.lease_reasons.specs.Beliefs.{AreRivalsIfAny, clashing, rivals_among}
use Rattle.lease_reasons.specs.Clients.{is_good_in}
use Rattle.lease_reasons.specs.declared.beliefs.Rivals.{Rivals}
use Rattle.lease_reasons.specs.declared.reason.Belief.{Belief}
use Rattle.lease_reasons.proofs.Noted.{clashing-are, clashing-permuted, rivals-found}
use Rattle.lease_reasons.proofs.Standings.{good-is_there}
use Rattle.lease_reasons.proofs.beliefs.rivals_on.Goals as goal

pub returns : goal.returns
returns c = λ past file described are.
    let good = is_good_in c.args.clients.now.standings.items in
    subst (λ (found : Option Rivals). AreRivalsIfAny past file found)
    (sym (c.rivals_among.ensures ∙ ap (λ (bs : List Belief). rivals_among bs) c.as_slice.ensures.value))
    (rivals-found past file c.put_in_order.new.beliefs.items
    (clashing-permuted past file (clashing good c.args.beliefs.now) c.put_in_order.new.beliefs.items
    (subst (λ (bs : List Belief). IsPermutation bs c.put_in_order.new.beliefs.items) c.in_ok-clashing.ensures
    c.put_in_order.ensures.same)
    (clashing-are past file good c.args.beliefs.now (good-is_there past c.args.clients.now described) are)))
