use Rattle.std.proofs.Common.{length, reverse}
use Rattle.capture_judge.specs.Charges.{GoesOn}
use Rattle.capture_judge.proofs.clashes.Completing.{left_of, total}
use Rattle.capture_judge.proofs.charging.charge_after.Given as goal

abbrev pub invariant-loop-step : goal.invariant-loop-step
invariant-loop-step l = GoesOn l.chains l.position l.came.items (reverse l.steps.items)

abbrev pub decreases-loop-step : goal.decreases-loop-step
decreases-loop-step l = total (left_of l.chains (reverse l.steps.items)) (length l.chains)
