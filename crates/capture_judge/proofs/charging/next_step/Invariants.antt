use Rattle.capture_judge.specs.Charges.{IsNextStep}
use Rattle.capture_judge.proofs.charging.next_step.Given as goal

abbrev pub invariant-loop-index : goal.invariant-loop-index
invariant-loop-index l = IsNextStep l.chains l.came l.index l.found
