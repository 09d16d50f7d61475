use Rattle.lease_laws.proofs.Words.{◌-◌, ◌≡◌, ℕ, vec_len}
use Rattle.lease_world.specs.judge.Seen.{holders_in}
use Rattle.lease_world.proofs.judging.holders.reach.Given as goal

abbrev pub invariant-loop-seen : goal.invariant-loop-seen
invariant-loop-seen l = (n : ℕ) → holders_in l.seen.items n ≡ holders_in l.fn.seen.items n

abbrev pub decreases-loop-seen : goal.decreases-loop-seen
decreases-loop-seen l = l.files - vec_len l.seen
