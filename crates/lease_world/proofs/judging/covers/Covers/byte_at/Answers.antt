use Rattle.lease_laws.proofs.Words.{◌∙◌, List, ap, arith}
use Rattle.lease_world.specs.declared.judging.covers.Cover.{Cover}
use Rattle.lease_world.specs.declared.judging.covers.Layer.{Layer}
use Rattle.lease_world.specs.judge.Covers.{stack_in, seen_byte}
use Rattle.lease_world.proofs.Linked.{byte_here, byte_under, position_inside}
use Rattle.lease_world.proofs.judging.covers.Covers.byte_at.Goals as goal

pub returns-then-top-eq0 : goal.returns-then-top-eq0
returns-then-top-eq0 c = c.byte_or_zero.ensures
    ∙ (byte_under c.self.inside.covers.items c.self.inside.tops.items c.args.base.now c.args.position _
    (position_inside c.self.inside.covers.items c.self.inside.tops.items c.args.self.now c.args.position c.self.view_is
    c.requires) c.index-top.ensures c.if-top-eq0.true
    ∙ ap (λ (s : List (List Layer)). seen_byte c.args.base.now (stack_in s c.args.position) c.args.position) c.self.view_is)

pub returns-else-top-eq0 : goal.returns-else-top-eq0
returns-else-top-eq0 c =
    let covers = c.self.inside.covers.items in
    let tops = c.self.inside.tops.items in
    ap (λ (cover : Cover). cover.layer.byte) c.index.ensures
    ∙ (byte_here covers tops c.args.base.now c.args.position c.index-top.result.now c.index.result.now c.self.invariant.0
    c.self.invariant.1 (position_inside covers tops c.args.self.now c.args.position c.self.view_is c.requires) c.index-top.ensures
    (let apart = c.if-top-eq0.false in omega (arith, apart))
    ∙ ap (λ (s : List (List Layer)). seen_byte c.args.base.now (stack_in s c.args.position) c.args.position) c.self.view_is)
