use Rattle.lease_laws.proofs.Words.{◌+◌, ◌-◌, ◌≡◌, ℕ, vec_len}
use Rattle.lease_world.specs.judge.Seen.{cache_in}
use Rattle.lease_world.proofs.judging.caches.reach.Given as goal

abbrev pub invariant-loop-file : goal.invariant-loop-file
invariant-loop-file l = (n : ℕ) → cache_in l.caches.items n ≡ cache_in l.fn.caches.items n

abbrev pub decreases-loop-file : goal.decreases-loop-file
decreases-loop-file l = l.file.0 + 1 - vec_len l.caches
