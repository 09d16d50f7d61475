use Rattle.lease_laws.proofs.Words.{arith, nat_tests, sym}
use Rattle.lease_reasons.specs.Marks.{fits}
use Rattle.lease_reasons.proofs.Places.{first-none, first-next}
use Rattle.lease_reasons.proofs.marks.Mark.first.Goals as goal

pub loop-index-init : goal.loop-index-init
loop-index-init c = sym (first-none (fits c.args.self) c.args.behind)

pub loop-index-preserved : goal.loop-index-preserved
loop-index-preserved c =
    let next = first-next (fits c.args.self) c.args.behind c.args.facts.now c.loop-index.index c.index-facts-index.result
    c.loop-index-test.true c.index-facts-index.is in
    grind (arith, nat_tests, next)
