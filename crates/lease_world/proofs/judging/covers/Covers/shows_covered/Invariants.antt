use Rattle.lease_laws.proofs.Words.{◌<◌, ◌≡◌, ℕ, slice_index}
use Rattle.lease_world.specs.judge.Covers.{stack_in, seen_byte}
use Rattle.lease_world.proofs.judging.covers.Covers.shows_covered.Given as goal

abbrev pub invariant-loop-position : goal.invariant-loop-position
invariant-loop-position l = (n : ℕ) → n < l.position → slice_index l.bytes n ≡ seen_byte l.base (stack_in l.self n) n
