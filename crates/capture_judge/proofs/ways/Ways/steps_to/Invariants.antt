use Rattle.capture_judge.proofs.calm.Tracing.{Traced}
use Rattle.capture_judge.proofs.ways.Ways.steps_to.Given as goal

abbrev pub invariant-loop-link : goal.invariant-loop-link
invariant-loop-link l = Traced l.self.trail.items l.initial.link l.link l.steps.items

abbrev pub decreases-loop-link : goal.decreases-loop-link
decreases-loop-link l = l.link
