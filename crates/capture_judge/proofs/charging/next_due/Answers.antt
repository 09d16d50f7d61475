use Rattle.std.proofs.Common.{arith}
use Rattle.std.proofs.lemmas.Option.{slice_get-get_or}
use Rattle.capture_judge.proofs.clashes.Dues.{due-skip, due-more, due-all}
use Rattle.capture_judge.proofs.charging.next_due.Goals as goal
use Rattle.capture_judge.proofs.charging.next_due.Goals.{in-Some, in_default}

pub loop-index-init : goal.loop-index-init
loop-index-init c = λ k change above below at. absurd (omega (arith, above, below))

pub loop-index-preserved : goal.loop-index-preserved
loop-index-preserved c = elim c.match-changes-index.branch [
  | in-Some w ↦ rw (w.due-is, w.due_with.ensures)
      (due-more c.args.changes.now c.args.from c.loop-index.index w.in-Some.last c.loop-index.due _ c.loop-index.auto.index
      (slice_get-get_or _ _ _ c.loop-index-test.true) w.in-Some.is c.loop-index.invariant)
  | in_default w ↦ rw w.due-is
      (due-skip c.args.changes.now c.args.from c.loop-index.index c.loop-index.due _
      (slice_get-get_or _ _ _ c.loop-index-test.true) w.in_default.is c.loop-index.invariant)
]

pub returns : goal.returns
returns c = due-all c.args.changes.now c.args.from c.loop-index.index c.loop-index.due c.loop-index-test.false
    c.loop-index.invariant
