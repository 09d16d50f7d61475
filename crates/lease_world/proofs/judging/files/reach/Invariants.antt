use Rattle.lease_laws.proofs.Words.{◌+◌, ◌-◌, ◌≡◌, ℕ, vec_len}
use Rattle.lease_world.specs.judge.Seen.{file_in}
use Rattle.lease_world.proofs.judging.files.reach.Given as goal

abbrev pub invariant-loop-file : goal.invariant-loop-file
invariant-loop-file l = (n : ℕ) → file_in l.files.items n ≡ file_in l.fn.files.items n

abbrev pub decreases-loop-file : goal.decreases-loop-file
decreases-loop-file l = l.file.0 + 1 - vec_len l.files
