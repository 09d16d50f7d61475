use Rattle.std.proofs.Common.{◌≡◌, refl, sym, ap, ◌∙◌, subst, arith, length, Some, List, slice_get}
use Rattle.std.proofs.lemmas.Option.{slice_get_read, slice_get-get_or, same_Some}
use Rattle.std.proofs.lemmas.List.{get_or_read}
use Rattle.std.proofs.lemmas.Bool.{MatchBool-at_true}
use Rattle.capture_judge.specs.declared.values.Chain.{Chain}
use Rattle.capture_judge.specs.declared.values.Change.{Change}
use Rattle.capture_judge.specs.declared.ways.Way.{Way}
use Rattle.capture_judge.proofs.calm.Taking.{change_here}
use Rattle.capture_judge.proofs.calm.Going.{Along, some-last, none-last, inside-more, along-start, along-pass, along-more, along-last}
use Rattle.capture_judge.proofs.calm.Going.{along-end}
use Rattle.capture_judge.proofs.ways.Ways.go_along.Goals as goal

pub index-change-requires : goal.index-change-requires
index-change-requires c =
    let at = slice_get_read _ _ _ _ refl c.requires.way c.index.ensures
    in let kept = c.requires.search.kept c.args.way c.index.result.now at
    in let count = kept.count in let inside = c.requires.chain in let size = c.index.result.now.came.ok.0
    in omega (arith, count, inside, size)

pub loop-change-init : goal.loop-change-init
loop-change-init c =
    let at = slice_get_read _ _ _ _ refl c.requires.way c.index.ensures
    in let kept = c.requires.search.kept c.args.way c.index.result.now at
    in let count = kept.count in let inside = c.requires.chain
    in let is = get_or_read c.index.result.now.came.items c.args.chain c.index-change.result.now (omega (arith, count, inside))
    c.index-change.ensures 0
    in subst (Along c.args.chains.now c.args.position c.args.self.now c.args.self.now c.args.way c.args.chain) (sym is)
    (along-start c.args.chains.now c.args.position c.args.self.now c.args.way c.args.chain c.index.result.now c.requires.search
    at)

pub take-requires-clause-way : goal.take-requires-clause-way
take-requires-clause-way c =
    let at = slice_get_read _ _ _ _ refl c.requires.way c.index.ensures
    in inside-more c.args.self.now c.loop-change.self c.args.way c.index.result.now c.loop-change.invariant.grows at

pub take-requires-clause-change : goal.take-requires-clause-change
take-requires-clause-change c = λ chain at.
    let here = slice_get_read _ _ _ _ refl c.requires.chain c.index-chains-chain.is
    in let same = same_Some c.index-chains-chain.result chain (sym here ∙ at)
    in let is : c.as_slice-changes.result.now ≡ chain.changes.items = c.as_slice-changes.ensures.value
    ∙ ap (λ (ch : Chain). ch.changes.items) (sym c.index-chains-chain.is ∙ same)
    in let size = ap length is in let inside = c.loop-change-test.true in omega (arith, size, inside)

pub take-requires-clause-pass : goal.take-requires-clause-pass
take-requires-clause-pass c = λ w at.
    let here = slice_get_read _ _ _ _ refl c.requires.way c.index.ensures
    in let same = same_Some c.index.result.now w (sym (c.loop-change.invariant.grows c.args.way c.index.result.now here) ∙ at)
    in along-pass c.args.chains.now c.args.position c.args.self.now c.loop-change.self c.args.way
    (record { position = c.args.position; chain = c.args.chain; change = c.loop-change.change }) c.loop-change.invariant w
    (subst (λ (x : Way). slice_get c.args.self.now.ways.items c.args.way ≡ Some x) same here)

pub returns-then-is_some : goal.returns-then-is_some
returns-then-is_some c =
    let here = slice_get_read _ _ _ _ refl c.requires.chain c.index-chains-chain.is
    in let is : c.as_slice-changes.result.now ≡ c.index-chains-chain.result.changes.items = c.as_slice-changes.ensures.value
    ∙ ap (λ (ch : Chain). ch.changes.items) (sym c.index-chains-chain.is)
    in let change = slice_get-get_or c.as_slice-changes.result.now c.loop-change.change _ c.loop-change-test.true
    in along-last c.args.chains.now c.args.self.now c.loop-change.self c.take.new.self c.args.way
    (record { position = c.args.position; chain = c.args.chain; change = c.loop-change.change }) _
    (change_here c.args.chains.now c.args.chain c.loop-change.change c.index-chains-chain.result _ here
    (ap (λ (cs : List Change). slice_get cs c.loop-change.change) (sym is) ∙ change))
    (some-last _ (sym c.is_some.ensures ∙ c.if-is_some.true)) c.loop-change.invariant
    (MatchBool-at_true _ _ c.if-not-branch.false c.in_ok-take.ensures)

pub loop-change-preserved : goal.loop-change-preserved
loop-change-preserved c =
    let here = slice_get_read _ _ _ _ refl c.requires.chain c.index-chains-chain.is
    in let is : c.as_slice-changes.result.now ≡ c.index-chains-chain.result.changes.items = c.as_slice-changes.ensures.value
    ∙ ap (λ (ch : Chain). ch.changes.items) (sym c.index-chains-chain.is)
    in let change = slice_get-get_or c.as_slice-changes.result.now c.loop-change.change _ c.loop-change-test.true
    in along-more c.args.chains.now c.args.self.now c.loop-change.self c.take.new.self c.args.way
    (record { position = c.args.position; chain = c.args.chain; change = c.loop-change.change }) _
    (change_here c.args.chains.now c.args.chain c.loop-change.change c.index-chains-chain.result _ here
    (ap (λ (cs : List Change). slice_get cs c.loop-change.change) (sym is) ∙ change))
    (none-last _ (sym c.is_some.ensures ∙ c.if-is_some.false)) c.loop-change.invariant
    (MatchBool-at_true _ _ c.if-not-branch.false c.in_ok-take.ensures)

pub returns : goal.returns
returns c =
    let here = slice_get_read _ _ _ _ refl c.requires.chain c.index-chains-chain.is
    in let is : c.as_slice-changes.result.now ≡ c.index-chains-chain.result.changes.items = c.as_slice-changes.ensures.value
    ∙ ap (λ (ch : Chain). ch.changes.items) (sym c.index-chains-chain.is)
    in let size = ap length is in let stop = c.loop-change-test.false
    in along-end c.args.chains.now c.args.position c.args.self.now c.loop-change.self c.args.way c.args.chain c.loop-change.change
    c.index-chains-chain.result here (omega (arith, size, stop)) c.loop-change.invariant
