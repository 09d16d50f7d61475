use Rattle.lease_laws.proofs.Words.{◌+◌, ◌-◌, vec_len}
use Rattle.lease_reasons.specs.Clients.{HasSameStandings}
use Rattle.lease_reasons.proofs.clients.reach.Given as goal

abbrev pub invariant-loop-client : goal.invariant-loop-client
invariant-loop-client l = HasSameStandings l.fn.standings.items l.standings.items

abbrev pub decreases-loop-client : goal.decreases-loop-client
decreases-loop-client l = l.client.0 + 1 - vec_len l.standings
