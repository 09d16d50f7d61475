use Rattle.lease_laws.proofs.Words.{◌≡◌, ◌≤◌, ℕ, get_or, length}
use Rattle.lease_world.proofs.judging.covers.covered.Given as goal

abbrev pub invariant-loop-count : goal.invariant-loop-count
invariant-loop-count l = (l.count ≤ length l.tops) × ((n : ℕ) → l.count ≤ n → get_or l.tops n 0 ≡ 0)

abbrev pub decreases-loop-count : goal.decreases-loop-count
decreases-loop-count l = l.count
