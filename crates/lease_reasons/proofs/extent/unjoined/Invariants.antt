use Rattle.lease_laws.proofs.Words.{◌≡◌, not, take}
use Rattle.std.specs.List.{filter}
use Rattle.lease_reasons.specs.Clients.{standing_in}
use Rattle.lease_reasons.proofs.extent.unjoined.Given as goal

abbrev pub invariant-loop-client : goal.invariant-loop-client
invariant-loop-client l = l.some.items
    ≡ filter (λ client. not (standing_in l.clients.standings.items client.0).joined) (take l.client-index l.clients.named.items)
