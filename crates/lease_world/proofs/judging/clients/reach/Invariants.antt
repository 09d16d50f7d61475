use Rattle.lease_laws.proofs.Words.{◌+◌, ◌-◌, ◌≡◌, ℕ, vec_len}
use Rattle.lease_world.specs.judge.Seen.{client_in}
use Rattle.lease_world.proofs.judging.clients.reach.Given as goal

abbrev pub invariant-loop-client : goal.invariant-loop-client
invariant-loop-client l = (n : ℕ) → client_in l.clients.items n ≡ client_in l.fn.clients.items n

abbrev pub decreases-loop-client : goal.decreases-loop-client
decreases-loop-client l = l.client.0 + 1 - vec_len l.clients
