use Rattle.std.proofs.Common.{arith}
use Rattle.std.proofs.lemmas.Option.{slice_get_within, slice_get-get_or}
use Rattle.capture_judge.proofs.placings.Feasible.{earliest-skip, earliest-next, later-of}
use Rattle.capture_judge.proofs.bounds.is_feasible.Goals as goal
use Rattle.capture_judge.proofs.bounds.is_feasible.Goals.{in-Some+else-last-earliest, in_default}

pub loop-change-preserved : goal.loop-change-preserved
loop-change-preserved c = elim c.match-change.branch [
  | in-Some+else-last-earliest w ↦
      rw w.earliest-is (earliest-next c.args.changes.now c.loop-change.change-index c.loop-change.earliest w.max-earliest.result
      _ w.in-Some.last (slice_get-get_or _ _ _ c.loop-change-test.true) w.in-Some.is (rw w.max-earliest.ensures (later-of _ _))
      w.if-last-earliest.false c.loop-change.invariant)
  | in_default w ↦
      rw w.earliest-is (earliest-skip c.args.changes.now c.loop-change.change-index c.loop-change.earliest
      _ (slice_get-get_or _ _ _ c.loop-change-test.true) w.in_default.is c.loop-change.invariant)
]

pub returns : goal.returns
returns c = λ i j change other last end order at has also-at also-has.
    let less = slice_get_within c.args.changes.now j other also-at
    in let stop = c.loop-change-test.false
    in c.loop-change.invariant.feasible i j change other last end order (omega (arith, less, stop)) at has also-at also-has
