use Rattle.capture_judge.specs.Placing.{height}
use Rattle.capture_judge.specs.Levels.{IsHighest}
use Rattle.capture_judge.proofs.levels.highest.Given as goal

abbrev pub invariant-loop-index : goal.invariant-loop-index
invariant-loop-index l = IsHighest l.chains l.came l.client l.index (height l.level)
