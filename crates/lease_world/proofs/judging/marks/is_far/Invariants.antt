use Rattle.lease_laws.proofs.Words.{◌-◌, length}
use Rattle.lease_world.proofs.judging.marks.is_far.Given as goal

abbrev pub decreases-loop-left : goal.decreases-loop-left
decreases-loop-left l = length l.changes - l.next
