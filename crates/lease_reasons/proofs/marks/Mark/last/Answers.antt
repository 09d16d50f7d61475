use Rattle.lease_laws.proofs.Words.{arith, sym}
use Rattle.lease_reasons.specs.Marks.{fits}
use Rattle.lease_reasons.proofs.Places.{last-none, last-next}
use Rattle.lease_reasons.proofs.marks.Mark.last.Goals as goal

pub loop-index-init : goal.loop-index-init
loop-index-init c = sym (last-none (fits c.args.self))

pub loop-index-preserved : goal.loop-index-preserved
loop-index-preserved c =
    let next = last-next (fits c.args.self) c.args.facts.now c.loop-index.index c.index-facts-index.result
    c.loop-index-test.true c.index-facts-index.is in
    grind (arith, next)
