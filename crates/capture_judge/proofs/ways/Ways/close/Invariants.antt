use Rattle.std.proofs.Common.{◌-◌}
use Rattle.capture_judge.specs.declared.ways.TheConstants.{WAY_LIMIT}
use Rattle.capture_judge.proofs.calm.Going.{Gone}
use Rattle.capture_judge.proofs.ways.Ways.close.Given as goal

abbrev pub invariant-loop-way : goal.invariant-loop-way
invariant-loop-way l = Gone l.chains l.position l.fn.self l.self l.way

abbrev pub decreases-loop-way : goal.decreases-loop-way
decreases-loop-way l = WAY_LIMIT - l.way
