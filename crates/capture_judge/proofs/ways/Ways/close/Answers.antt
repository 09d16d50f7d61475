use Rattle.std.proofs.Common.{arith}
use Rattle.std.proofs.lemmas.Bool.{MatchBool-at_true}
use Rattle.capture_judge.proofs.calm.Going.{gone-start, gone-more, gone-end}
use Rattle.capture_judge.proofs.ways.Ways.close.Goals as goal

pub loop-way-init : goal.loop-way-init
loop-way-init c = gone-start c.args.chains.now c.args.position c.args.self.now c.requires

pub go_on-requires-clause-way : goal.go_on-requires-clause-way
go_on-requires-clause-way c =
    let size = c.loop-way.self.ways.ok.0 in let is = c.len.ensures in let inside = c.loop-way-test.true
    in omega (arith, size, is, inside)

pub loop-way-preserved : goal.loop-way-preserved
loop-way-preserved c =
    let size = c.loop-way.self.ways.ok.0 in let is = c.len.ensures in let inside = c.loop-way-test.true
    in gone-more c.args.chains.now c.args.position c.args.self.now c.loop-way.self c.go_on.new.self c.loop-way.way
    (omega (arith, size, is, inside)) c.loop-way.invariant (MatchBool-at_true _ _ c.if-not-branch.false c.in_ok-go_on.ensures)

pub returns : goal.returns
returns c =
    let size = c.loop-way.self.ways.ok.0 in let is = c.len.ensures in let all = c.loop-way-test.false
    in gone-end c.args.chains.now c.args.position c.args.self.now c.loop-way.self c.loop-way.way (omega (arith, size, is, all))
    c.loop-way.invariant
