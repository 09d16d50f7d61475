use Rattle.std.proofs.Common.{refl, sym, ◌∙◌, ◌<◌, List, subst, arith, length, slice_index}
use Rattle.std.specs.List.Sorted.{IsStrictlyIncreasing}
use Rattle.std.proofs.lemmas.Bool.{MatchBool-at_true}
use Rattle.capture_judge.specs.Placing.{IsPlacement, IsClean}
use Rattle.capture_judge.specs.Searching.{IncludesAll}
use Rattle.capture_judge.proofs.clashes.Covering.{search_at}
use Rattle.capture_judge.proofs.placings.Feasible.{no_placement}
use Rattle.capture_judge.proofs.placings.Places.{element-at}
use Rattle.capture_judge.proofs.calm.Standing.{stands-start, none_between, stands-next, unsafe-at, clean-at, all-late, one-on_time}
use Rattle.capture_judge.proofs.calm.Standing.{has-way, charged-at}
use Rattle.capture_judge.specs.declared.ways.Way.{Way}
use Rattle.capture_judge.proofs.judging.judge_placing.Goals as goal

pub returns-then-not-are_feasible : goal.returns-then-not-are_feasible
returns-then-not-are_feasible c = no_placement c.args.chains.now c.if-not-are_feasible.ensures

pub loop-position-init : goal.loop-position-init
loop-position-init c = stands-start c.args.chains.now c.deref-position-items.result.now c.in_ok-ways.ways
    (subst (λ ps. IncludesAll ps c.args.chains.now) (sym c.deref-position-items.ensures.value) c.in_ok-positions.ensures.all)
    c.in_ok-ways.ensures

pub close-requires : goal.close-requires
close-requires c =
    let rises = subst IsStrictlyIncreasing (sym c.deref-position-items.ensures.value) c.in_ok-positions.ensures.rises
    in search_at c.args.chains.now c.deref-position-items.result.now c.loop-position.position-index
    (slice_index c.deref-position-items.result.now c.loop-position.position-index) c.loop-position.ways c.loop-position.invariant
    (c.loop-position.invariant.later c.loop-position.position-index (omega arith) c.loop-position-test.true)
    (none_between c.args.chains.now c.deref-position-items.result.now c.loop-position.position-index
    (slice_index c.deref-position-items.result.now c.loop-position.position-index) c.loop-position.ways
    c.loop-position.invariant rises c.loop-position-test.true refl)

pub charge-requires-clause-some : goal.charge-requires-clause-some
charge-requires-clause-some c =
    has-way c.args.chains.now c.deref-position-items.result.now c.loop-position.position-index
    (slice_index c.deref-position-items.result.now c.loop-position.position-index) c.loop-position.ways c.close.new.self
    c.loop-position.invariant (MatchBool-at_true _ _ c.if-not-branch.false c.in_ok-close.ensures)

pub charge-requires-clause-search : goal.charge-requires-clause-search
charge-requires-clause-search c = (MatchBool-at_true _ _ c.if-not-branch.false c.in_ok-close.ensures).search

pub loop-position-preserved : goal.loop-position-preserved
loop-position-preserved c =
    let rises = subst IsStrictlyIncreasing (sym c.deref-position-items.ensures.value) c.in_ok-positions.ensures.rises
    in let some = one-on_time c.args.chains.now (slice_index c.deref-position-items.result.now c.loop-position.position-index)
    c.close.new.self.ways.items (sym c.are_late.ensures ∙ c.if-are_late.false)
    in stands-next c.args.chains.now c.deref-position-items.result.now c.loop-position.position-index
    (slice_index c.deref-position-items.result.now c.loop-position.position-index) c.loop-position.ways c.close.new.self
    c.drop_late.new.self c.if-not-are_feasible.ensures rises c.loop-position-test.true refl c.loop-position.invariant
    (MatchBool-at_true _ _ c.if-not-branch.false c.in_ok-close.ensures) c.drop_late.ensures.ways c.drop_late.ensures.trail
    (subst (λ (ways : List Way). 0 < length ways) (sym c.drop_late.ensures.ways) some)

pub returns-then-are_late : goal.returns-then-are_late
returns-then-are_late c =
    let rises = subst IsStrictlyIncreasing (sym c.deref-position-items.ensures.value) c.in_ok-positions.ensures.rises
    in let none = all-late c.args.chains.now (slice_index c.deref-position-items.result.now c.loop-position.position-index)
    c.close.new.self.ways.items (sym c.are_late.ensures ∙ c.if-are_late.true)
    in charged-at c.args.chains.now (slice_index c.deref-position-items.result.now c.loop-position.position-index)
    c.in_ok-charge.field-0
    (unsafe-at c.args.chains.now c.deref-position-items.result.now c.loop-position.position-index
    (slice_index c.deref-position-items.result.now c.loop-position.position-index) c.loop-position.ways c.close.new.self
    c.if-not-are_feasible.ensures rises c.loop-position-test.true refl c.loop-position.invariant
    (MatchBool-at_true _ _ c.if-not-branch.false c.in_ok-close.ensures) none)
    c.in_ok-charge.ensures

pub steps_to-requires-clause-leads : goal.steps_to-requires-clause-leads
steps_to-requires-clause-leads c = λ way at.
    let end = clean-at c.args.chains.now c.deref-position-items.result.now c.loop-position.position-index c.loop-position.ways
    c.loop-position-test.false c.loop-position.invariant way at
    in (end.0, end.1)

pub returns : goal.returns
returns c =
    let first = element-at c.loop-position.ways.ways.items 0 c.loop-position.invariant.some
    in let end = clean-at c.args.chains.now c.deref-position-items.result.now c.loop-position.position-index c.loop-position.ways
    c.loop-position-test.false c.loop-position.invariant first.0 first.1
    in let is = c.in_ok-steps_to.ensures first.0 end.0 first.1 end.1
    in (subst (IsPlacement c.args.chains.now) (sym is) end.2, subst (IsClean c.args.chains.now) (sym is) end.3)
