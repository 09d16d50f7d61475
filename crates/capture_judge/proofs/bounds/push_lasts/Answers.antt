use Rattle.std.proofs.lemmas.Option.{slice_get-get_or}
use Rattle.capture_judge.proofs.placings.Positions.{gathered-start, gathered-skip, gathered-push, gathered-all}
use Rattle.capture_judge.proofs.bounds.push_lasts.Goals as goal
use Rattle.capture_judge.proofs.bounds.push_lasts.Goals.{in-Some+in_ok-push, in_default}

pub loop-change-preserved : goal.loop-change-preserved
loop-change-preserved c = elim c.match-change.branch [
  | in-Some+in_ok-push w ↦ rw (w.positions-is, w.in_ok-push.ensures.items) (gathered-push c.args.positions.now.items
      c.loop-change.positions.items c.args.changes.now c.loop-change.change-index _ w.in-Some.last
      (slice_get-get_or _ _ _ c.loop-change-test.true) w.in-Some.is c.loop-change.invariant)
  | in_default w ↦ rw w.positions-is (gathered-skip c.args.positions.now.items
      c.loop-change.positions.items c.args.changes.now c.loop-change.change-index _
      (slice_get-get_or _ _ _ c.loop-change-test.true) w.in_default.is c.loop-change.invariant)
]

pub loop-change-init : goal.loop-change-init
loop-change-init c = gathered-start c.args.positions.now.items c.args.changes.now

pub returns : goal.returns
returns c = gathered-all c.args.positions.now.items c.loop-change.positions.items c.args.changes.now c.loop-change.change-index
    c.loop-change-test.false c.loop-change.invariant
