use Rattle.lease_laws.proofs.Words.{◌+◌, Fact, List, ap, arith, subst, sym, take}
use Rattle.lease_reasons.specs.Beliefs.{AreLast}
use Rattle.lease_reasons.specs.Places.{past_of}
use Rattle.lease_reasons.proofs.Tables.{last-none}
use Rattle.lease_reasons.proofs.Pasts.{past-next, taken-length}
use Rattle.lease_reasons.proofs.last_beliefs.LastBeliefs.of.Goals as goal

pub loop-index-init : goal.loop-index-init
loop-index-init c = last-none _ c.new-2.ensures.items

pub loop-index-preserved : goal.loop-index-preserved
loop-index-preserved c = subst (λ (past : List Fact). AreLast past c.note.new.self)
    (sym (past-next c.args.facts.now c.loop-index.index c.index-facts-index.result c.loop-index-test.true c.index-facts-index.is))
    (c.in_ok-note.ensures (past_of (take c.loop-index.index c.args.facts.now))
    (ap (λ n. n + 1) (taken-length c.args.facts.now c.loop-index.index (omega arith))) c.loop-index.invariant)
