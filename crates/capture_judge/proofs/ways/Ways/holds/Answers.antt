use Rattle.std.proofs.Common.{◌≡◌, ◌∙◌, sym, ap, subst, refl, length, arith, List, slice_get, Some}
use Rattle.std.proofs.lemmas.Bool.Decides.{Decides-eqb}
use Rattle.std.proofs.lemmas.Slice.Eq.{slice_eq-Decides}
use Rattle.std.proofs.lemmas.Option.{slice_get_read, slice_get_within}
use Rattle.capture_judge.proofs.placings.Places.{each-more}
use Rattle.capture_judge.specs.declared.ways.Way.{Way}
use Rattle.capture_judge.proofs.ways.Ways.holds.Goals as goal

pub returns-then-eq : goal.returns-then-eq
returns-then-eq c = (
  c.loop-way.way-index,
  c.way-item.result,
  subst (λ (ws : List Way). slice_get ws c.loop-way.way-index ≡ Some c.way-item.result) c.deref-way-items.ensures.value
      (slice_get_read _ _ _ _ refl c.loop-way-test.true c.way-item.is),
  sym c.as_slice.ensures.value
      ∙ (slice_eq-Decides Decides-eqb c.as_slice.result.now c.args.came.now c.eq.result c.eq.ensures).0 c.if-eq.true,
)

pub loop-way-preserved : goal.loop-way-preserved
loop-way-preserved c = each-more (λ (way : Way). way.came.items ≡ c.args.came.now → ⊥) c.args.self.now.ways.items
    c.loop-way.way-index c.way-item.result
    (subst (λ (ws : List Way). slice_get ws c.loop-way.way-index ≡ Some c.way-item.result) c.deref-way-items.ensures.value
    (slice_get_read _ _ _ _ refl c.loop-way-test.true c.way-item.is))
    c.loop-way.invariant
    (λ same. let yes-it = (slice_eq-Decides Decides-eqb c.as_slice.result.now c.args.came.now c.eq.result c.eq.ensures).1
    (c.as_slice.ensures.value ∙ same) in cc (yes-it, c.if-eq.false))

pub returns : goal.returns
returns c = λ has.
    let inside = slice_get_within c.args.self.now.ways.items has.0 has.1 has.2
    in let stop = c.loop-way-test.false
    in let same = ap length c.deref-way-items.ensures.value
    in c.loop-way.invariant has.0 has.1 (omega (arith, inside, stop, same)) has.2 has.3
