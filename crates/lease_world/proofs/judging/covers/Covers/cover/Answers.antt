use Rattle.lease_laws.proofs.Words.{◌+◌, ◌<◌, ◌==◌, ◌∙◌, ◌∷◌, ◌≡◌, List, ap, arith, if◌then◌else◌, length, map, slice_set}
use Rattle.lease_world.specs.declared.judging.covers.Cover.{Cover}
use Rattle.lease_world.specs.declared.judging.covers.Layer.{Layer}
use Rattle.lease_world.specs.judge.Covers.{stack_in, layers_under}
use Rattle.lease_world.proofs.Linked.{stack_cover}
use Rattle.lease_world.proofs.judging.covers.Covers.cover.Goals as goal

pub returns : goal.returns
returns c = λ position.
    let covers = c.self.inside.covers.items in
    let tops = c.reach.new.tops.items in
    let there = c.in_ok-reach.ensures.there in
    let inside : c.args.position < length tops = omega (arith, there, c.reach.new.tops.ok) in
    let before : stack_in (map (layers_under covers) tops) position ≡ stack_in c.args.self.now position =
    c.reach.ensures.stacks covers position ∙ ap (λ (s : List (List Layer)). stack_in s position) c.self.view_is in
    ap (λ (cs : List Cover). stack_in (map (layers_under cs) (slice_set tops c.args.position (c.len-count.result + 1))) position)
    c.in_ok-push.ensures.items
    ∙ (stack_cover covers tops c.args.layer c.args.position c.index-below.result.now (c.len-count.result + 1) position
    c.self.invariant.0 (c.reach.ensures.tops covers c.self.invariant.1) inside c.index-below.ensures
    (let e = c.len-count.ensures in omega (arith, e, c.self.inside.covers.ok))
    ∙ ap (λ (ls : List Layer). if position == c.args.position then c.args.layer ∷ ls else ls) before)
