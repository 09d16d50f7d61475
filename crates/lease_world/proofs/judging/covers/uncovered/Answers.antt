use Rattle.lease_laws.proofs.Words.{◌∙◌, arith, sym}
use Rattle.lease_world.specs.declared.judging.covers.Cover.{Cover}
use Rattle.lease_world.proofs.Linked.{top_cover, goes_down, stays_open, nothing_on_top}
use Rattle.lease_world.proofs.judging.covers.uncovered.Goals as goal

abbrev nothing : Cover
nothing = record { layer = record { number = 0; byte = 0 }; below = 0 }

pub returns-then-not-contains-clause-uncovered : goal.returns-then-not-contains-clause-uncovered
returns-then-not-contains-clause-uncovered c =
    stays_open c.args.settled.now c.args.covers.now c.args.top c.loop-top.top nothing c.requires.linked
    (omega (arith, c.loop-top-test.true))
    c.loop-top.invariant.0 (sym c.contains.ensures ∙ c.if-not-contains.true) c.loop-top.invariant.1

pub loop-top-smaller : goal.loop-top-smaller
loop-top-smaller c = (top_cover c.args.covers.now c.loop-top.top nothing c.requires.linked (omega (arith, c.loop-top-test.true))
    c.loop-top.invariant.0).1

pub loop-top-preserved : goal.loop-top-preserved
loop-top-preserved c = goes_down c.args.settled.now c.args.covers.now c.args.top c.loop-top.top nothing c.requires.linked
    (omega (arith, c.loop-top-test.true))
    c.loop-top.invariant.0 (sym c.contains.ensures ∙ c.if-not-contains.false) c.loop-top.invariant.1

pub returns-clause-uncovered : goal.returns-clause-uncovered
returns-clause-uncovered c =
    nothing_on_top c.args.settled.now c.args.covers.now c.args.top c.loop-top.top (omega (arith, c.loop-top-test.false))
    c.loop-top.invariant.1
