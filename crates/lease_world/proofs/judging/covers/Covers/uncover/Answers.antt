use Rattle.lease_laws.proofs.Words.{◌-◌, ◌∙◌, ◌≡◌, ◌≢◌, ◌≤◌, ◌⊎◌, List, ℕ, ap, arith, get_or, length, map, nat_tests, subst, sym}
use Rattle.lease_world.specs.declared.judging.covers.Cover.{Cover}
use Rattle.lease_world.specs.declared.judging.covers.Layer.{Layer}
use Rattle.lease_world.specs.judge.Covers.{stack_in, layers_under, AreTops, IsUncovered, EndsCovered}
use Rattle.lease_world.specs.judge.Seen.{is_open}
use Rattle.lease_world.proofs.Linked.{truncated, cleared, ends_covered}
use Rattle.lease_world.proofs.judging.covers.Covers.uncover.Goals as goal

pub returns-else-is_empty-clause-uncovered : goal.returns-else-is_empty-clause-uncovered
returns-else-is_empty-clause-uncovered c position =
    let now = c.uncover_each.new.tops.items in
    let left = c.truncate.new.self.items in
    subst (λ (old : List (List Layer)). IsUncovered (is_open c.args.settled.now) (stack_in old position)
    (stack_in (map (layers_under c.self.inside.covers.items) left) position)) c.self.view_is
    (subst (λ (cs : List Cover). IsUncovered (is_open c.args.settled.now) (stack_in
    (map (layers_under cs) c.self.inside.tops.items) position)
    (stack_in (map (layers_under cs) left) position)) c.deref.ensures.value
    (truncated c.args.settled.now c.deref.result.now c.self.inside.tops.items now left c.covered.result position
    c.truncate.ensures.items
    (λ n le. ap (λ (xs : List ℕ). get_or xs n 0) (sym c.deref-2.ensures.value) ∙ c.covered.ensures.rest n le)
    (c.uncover_each.ensures.uncovered position)))

pub returns-then-is_empty-clause-uncovered : goal.returns-then-is_empty-clause-uncovered
returns-then-is_empty-clause-uncovered c position =
    let now = c.uncover_each.new.tops.items in
    let left = c.truncate.new.self.items in
    let none : length left ≡ 0 = grind (arith, nat_tests, c.is_empty.ensures, c.if-is_empty.true, c.truncate.new.self.ok) in
    subst (λ (old : List (List Layer)). IsUncovered (is_open c.args.settled.now) (stack_in old position)
    (stack_in (map (layers_under c.clear.new.self.items) left) position)) c.self.view_is
    (subst (λ (ls : List Layer). IsUncovered (is_open c.args.settled.now)
    (stack_in (map (layers_under c.self.inside.covers.items) c.self.inside.tops.items) position) ls)
    (cleared c.self.inside.covers.items c.clear.new.self.items left position none)
    (subst (λ (cs : List Cover). IsUncovered (is_open c.args.settled.now) (stack_in
    (map (layers_under cs) c.self.inside.tops.items) position)
    (stack_in (map (layers_under cs) left) position)) c.deref.ensures.value
    (truncated c.args.settled.now c.deref.result.now c.self.inside.tops.items now left c.covered.result position
    c.truncate.ensures.items
    (λ n le. ap (λ (xs : List ℕ). get_or xs n 0) (sym c.deref-2.ensures.value) ∙ c.covered.ensures.rest n le)
    (c.uncover_each.ensures.uncovered position))))

pub returns-else-is_empty-clause-ends : goal.returns-else-is_empty-clause-ends
returns-else-is_empty-clause-ends c =
    let now = c.uncover_each.new.tops.items in
    subst (λ (xs : List ℕ). EndsCovered (map (layers_under c.self.inside.covers.items) xs)) (sym c.truncate.ensures.items)
    (ends_covered c.self.inside.covers.items now c.covered.result c.self.invariant.0
    (subst (λ (cs : List Cover). AreTops cs now) c.deref.ensures.value c.uncover_each.ensures.tops)
    (subst (λ (xs : List ℕ). c.covered.result ≤ length xs) c.deref-2.ensures.value c.covered.ensures.within)
    (subst (λ (xs : List ℕ). (c.covered.result ≡ 0) ⊎ (get_or xs (c.covered.result - 1) 0 ≢ 0)) c.deref-2.ensures.value
    c.covered.ensures.last))
