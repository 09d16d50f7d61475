use Rattle.lease_laws.proofs.Words.{◌<◌, ◌≡◌, ℕ, false}
use Rattle.lease_world.specs.judge.Holders.{conflicts_with}
use Rattle.lease_world.specs.judge.Seen.{cache_in, holders_in}
use Rattle.lease_world.proofs.judging.holders.FileHolders.conflict.Given as goal

abbrev pub invariant-loop-file : goal.invariant-loop-file
invariant-loop-file l = (f : ℕ) → f < l.file → conflicts_with (cache_in l.caches f).belief (holders_in l.self f) ≡ false
