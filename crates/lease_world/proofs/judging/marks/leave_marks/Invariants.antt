use Rattle.lease_laws.proofs.Words.{◌-◌, List, ℕ, length}
use Rattle.std.specs.Prelude.{All}
use Rattle.lease_world.specs.judge.Marks.{IsMark}
use Rattle.lease_world.proofs.judging.marks.leave_marks.Given as goal

abbrev pub invariant-loop-front : goal.invariant-loop-front
invariant-loop-front l = (first : List ℕ) → IsMark first l.changes l.fn.last → All (IsMark first l.changes) l.fn.marks.items
    → IsMark first l.changes l.front × All (IsMark first l.changes) l.marks.items

abbrev pub decreases-loop-front : goal.decreases-loop-front
decreases-loop-front l = length l.changes - l.front.snapshot.applied
