use Rattle.lease_laws.proofs.Words.{◌<◌, ◌≡◌, ◌≤◌, ℕ}
use Rattle.lease_world.specs.judge.Holders.{without_holder}
use Rattle.lease_world.specs.judge.Seen.{cache_in, holders_in}
use Rattle.lease_world.proofs.judging.holders.leave_each.Given as goal

abbrev pub invariant-loop-file : goal.invariant-loop-file
invariant-loop-file l = record {
  done : (f : ℕ) → f < l.file → holders_in l.seen f ≡ without_holder (cache_in l.caches f).belief (holders_in l.fn.seen f);
  rest : (f : ℕ) → l.file ≤ f → holders_in l.seen f ≡ holders_in l.fn.seen f;
}
