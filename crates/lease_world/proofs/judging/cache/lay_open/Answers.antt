use Rattle.lease_laws.proofs.Words.{◌++◌, ◌∙◌, ◌≡◌, List, ap, not, sym}
use Rattle.lease_world.specs.declared.judging.covers.Layer.{Layer}
use Rattle.lease_world.specs.judge.Covers.{layer_of, stack_in}
use Rattle.lease_world.specs.judge.Seen.{Waiting, is_among}
use Rattle.lease_world.proofs.records.Covered.{lays_next, leaves_next}
use Rattle.lease_world.proofs.judging.cache.lay_open.Goals as goal
use Rattle.lease_world.proofs.judging.cache.lay_open.Goals.{then-not-contains+in_ok-lay, else-not-contains}

pub loop-write-preserved : goal.loop-write-preserved
loop-write-preserved c = λ n.
    let number-is : is_among c.write-item.result.number c.args.settled.now ≡ c.contains.result =
    ap (λ (w : Waiting). is_among w.number c.args.settled.now) (sym c.write.view_is) ∙ sym c.contains.ensures in
    elim c.if-not-contains.branch [
      | then-not-contains+in_ok-lay w ↦
          lays_next (λ m. not (is_among m c.args.settled.now)) n c.loop-write.write-index c.args.fresh.now c.write-item.result
          (stack_in c.args.covers.now n) (stack_in c.loop-write.covers n) (stack_in c.if-not-contains.covers n)
          c.loop-write-test.true c.write-item.is (ap not (number-is ∙ w.if-not-contains.true))
          (ap (λ (s : List (List Layer)). stack_in s n) w.covers-is
          ∙ (w.in_ok-lay.ensures n ∙ ap (λ (v : Waiting). layer_of n v ++ stack_in c.loop-write.covers n) c.write.view_is))
          (c.loop-write.invariant n)
      | else-not-contains w ↦ ap (λ (s : List (List Layer)). stack_in s n) w.covers-is
          ∙ leaves_next (λ m. not (is_among m c.args.settled.now)) n c.loop-write.write-index c.args.fresh.now c.write-item.result
          (stack_in c.args.covers.now n) (stack_in c.loop-write.covers n) c.loop-write-test.true c.write-item.is
          (ap not (number-is ∙ w.if-not-contains.false)) (c.loop-write.invariant n)
    ]
