use Rattle.std.proofs.Common.{◌≡◌, length, reverse, take}
use Rattle.capture_judge.specs.Levels.{AreLevels, HaveCome}
use Rattle.capture_judge.proofs.levels.levels_after.Given as goal

abbrev pub invariant-loop-step : goal.invariant-loop-step
invariant-loop-step l = record {
  come : HaveCome l.chains (reverse (take l.step-index l.steps)) l.came.items;
  levels : AreLevels l.chains (reverse (take l.step-index l.steps)) (reverse l.levels.items);
  count : length l.levels.items ≡ l.step-index;
}
