use Rattle.std.proofs.Common.{◌≡◌, ◌<◌, ℕ, Some, slice_get}
use Rattle.capture_judge.specs.declared.ways.Way.{Way}
use Rattle.capture_judge.proofs.ways.Ways.holds.Given as goal

abbrev pub invariant-loop-way : goal.invariant-loop-way
invariant-loop-way l = (i : ℕ) (way : Way) → i < l.way-index → slice_get l.self.ways.items i ≡ Some way → way.came.items ≡ l.came
    → ⊥
