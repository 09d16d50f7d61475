use Rattle.std.proofs.Common.{◌≡◌, Some, sym, ◌∙◌, subst, slice_get}
use Rattle.std.proofs.lemmas.Bool.{MatchBool-at_true}
use Rattle.std.proofs.lemmas.Option.{same_Some, slice_get_within}
use Rattle.capture_judge.proofs.calm.Going.{inside-grown, fall-may, went-all, went-fall, chains-start, chains-more, chains-end}
use Rattle.capture_judge.proofs.placings.Places.{element-at}
use Rattle.capture_judge.proofs.calm.Taking.{if-room}
use Rattle.capture_judge.specs.Searching.{IsSearch}
use Rattle.capture_judge.specs.declared.values.Chain.{Chain}
use Rattle.capture_judge.proofs.ways.Ways.go_on.Goals as goal

pub loop-chain-init : goal.loop-chain-init
loop-chain-init c = chains-start c.args.chains.now c.args.position c.args.self.now c.args.way c.requires.search

pub go_along-requires-clause-way : goal.go_along-requires-clause-way
go_along-requires-clause-way c =
    inside-grown c.args.self.now c.loop-chain.self c.args.way c.loop-chain.invariant.grows c.requires.way

pub loop-chain-preserved : goal.loop-chain-preserved
loop-chain-preserved c = chains-more c.args.chains.now c.args.position c.args.self.now c.loop-chain.self c.go_along.new.self
    c.args.way c.loop-chain.chain c.loop-chain.invariant (MatchBool-at_true _ _ c.if-not-branch.false c.in_ok-go_along.ensures)

pub returns : goal.returns
returns c = went-all c.args.chains.now c.args.position c.args.self.now c.loop-chain.self c.args.way
    (chains-end c.args.chains.now c.args.position c.args.self.now c.loop-chain.self c.args.way c.loop-chain.chain
    c.loop-chain-test.false c.loop-chain.invariant)

pub take-requires-clause-search : goal.take-requires-clause-search
take-requires-clause-search c =
    let here = element-at c.args.self.now.ways.items c.args.way c.requires.way
    in let takes = c.in-Some.ensures here.0 here.1
    in subst (λ p. IsSearch c.args.chains.now p c.args.self.now) (sym takes.there) c.requires.search

pub take-requires-clause-chain : goal.take-requires-clause-chain
take-requires-clause-chain c =
    let here = element-at c.args.self.now.ways.items c.args.way c.requires.way
    in let takes = c.in-Some.ensures here.0 here.1
    in slice_get_within c.args.chains.now c.in-Some.step.chain takes.chain takes.at

pub take-requires-clause-change : goal.take-requires-clause-change
take-requires-clause-change c = λ chain at.
    let here = element-at c.args.self.now.ways.items c.args.way c.requires.way
    in let takes = c.in-Some.ensures here.0 here.1
    in slice_get_within chain.changes.items c.in-Some.step.change takes.fall.change
    (subst (λ (ch : Chain). slice_get ch.changes.items c.in-Some.step.change ≡ Some takes.fall.change)
    (same_Some takes.chain chain (sym takes.at ∙ at)) takes.fall.at)

pub take-requires-clause-pass : goal.take-requires-clause-pass
take-requires-clause-pass c = λ w at.
    let may = fall-may c.args.chains.now c.args.position w.came.items c.in-Some.step (c.in-Some.ensures w at)
    in record { order = may.order; skips = may.skips }

pub returns-in-Some : goal.returns-in-Some
returns-in-Some c =
    let here = element-at c.args.self.now.ways.items c.args.way c.requires.way
    in let takes = c.in-Some.ensures here.0 here.1
    in if-room _ _ _ (λ took. went-fall c.args.chains.now c.args.position c.args.self.now _ c.args.way here.0 c.in-Some.step
    c.requires.search here.1 takes took) c.take.result c.take.ensures
