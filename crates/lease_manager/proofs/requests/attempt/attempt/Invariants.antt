use Rattle.lease_laws.proofs.Words.{◌-◌, ◌≡◌, tried, tried_for}
use Rattle.lease_manager.specs.Ending.{EndsMore, ids_in}
use Rattle.lease_manager.specs.Outs.{progress_of}
use Rattle.lease_manager.specs.Requests.{request_like}
use Rattle.lease_manager.proofs.requests.attempt.attempt.Given as goal

abbrev pub invariant-loop-round : goal.invariant-loop-round
invariant-loop-round l = (tried_for (3 - l._round) l.client.0 (request_like l.ask) (progress_of l.tables l.outs)
    ≡ tried l.client.0 (request_like l.ask) (progress_of l.fn.tables l.fn.outs))
    × (l.tables.queues ≡ l.fn.tables.queues)
    × EndsMore l.fn.tables.opens (ids_in l.fn.ended) l.tables.opens (ids_in l.ended)
