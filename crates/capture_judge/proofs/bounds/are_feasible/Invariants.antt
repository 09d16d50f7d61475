use Rattle.std.proofs.Common.{◌≡◌, ◌<◌, ℕ, Some, slice_get}
use Rattle.capture_judge.specs.Searching.{IsFeasible}
use Rattle.capture_judge.specs.declared.values.Chain.{Chain}
use Rattle.capture_judge.proofs.bounds.are_feasible.Given as goal

abbrev pub invariant-loop-chain : goal.invariant-loop-chain
invariant-loop-chain l = (i : ℕ) (chain : Chain) → i < l.chain-index → slice_get l.chains i ≡ Some chain
    → IsFeasible chain.changes.items
