use Rattle.std.proofs.Common.{◌≡◌, ◌≢◌, ◌+◌, ◌<◌, ℕ, Some, slice_get, slice_index}
use Rattle.capture_judge.specs.Searching.{level_in}
use Rattle.capture_judge.specs.declared.values.Chain.{Chain}
use Rattle.capture_judge.proofs.ways.is_apart.Given as goal

abbrev pub invariant-loop-i : goal.invariant-loop-i
invariant-loop-i l = (j : ℕ) (other : Chain) → j < l.i → slice_get l.chains j ≡ Some other → l.client ≢ other.client
    → l.level + level_in other (slice_index l.came j) < 3
