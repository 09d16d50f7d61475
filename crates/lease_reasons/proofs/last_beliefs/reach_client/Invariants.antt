use Rattle.lease_laws.proofs.Words.{◌+◌, ◌-◌, vec_len}
use Rattle.lease_reasons.specs.Beliefs.{HasSameCells}
use Rattle.lease_reasons.proofs.last_beliefs.reach_client.Given as goal

abbrev pub invariant-loop-client : goal.invariant-loop-client
invariant-loop-client l = HasSameCells l.fn.cells.items l.cells.items

abbrev pub decreases-loop-client : goal.decreases-loop-client
decreases-loop-client l = l.client.0 + 1 - vec_len l.cells
