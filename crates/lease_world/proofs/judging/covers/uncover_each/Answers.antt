use Rattle.lease_laws.proofs.Words.{◌<◌, arith, length}
use Rattle.lease_world.proofs.Linked.{uncovers_one, leaves_rest, all_uncovered, tops_set}
use Rattle.lease_world.proofs.judging.covers.uncover_each.Goals as goal

pub loop-position-preserved : goal.loop-position-preserved
loop-position-preserved c =
    let at = c.loop-position.position in
    let now = c.loop-position.tops.items in
    let so_far = c.loop-position.invariant in
    let end = c.len-position-end.ensures in
    let inside : at < length now = omega (arith, c.loop-position-test.true, so_far.3, end, c.loop-position.tops.ok) in (
      λ n below. uncovers_one c.args.settled.now c.args.covers.now c.args.tops.now.items now at c.index.result.now
          c.uncovered.result n inside c.index.ensures c.uncovered.ensures.uncovered so_far.0 so_far.1 below,
      λ n above. leaves_rest c.args.covers.now c.args.tops.now.items now at c.uncovered.result n inside so_far.1 above,
      tops_set c.args.covers.now now at c.uncovered.result inside c.uncovered.ensures.inside so_far.2,
      so_far.3,
    )

pub returns-clause-uncovered : goal.returns-clause-uncovered
returns-clause-uncovered c n =
    let so_far = c.loop-position.invariant in
    let end = c.len-position-end.ensures in
    all_uncovered c.args.settled.now c.args.covers.now c.args.tops.now.items c.loop-position.tops.items c.loop-position.position n
    (omega (arith, c.loop-position-test.false, so_far.3, end, c.loop-position.tops.ok)) so_far.0 so_far.1
