use Rattle.lease_laws.proofs.Words.{◌≡◌, drop, wants_met}
use Rattle.lease_manager.specs.Ending.{EndsMore, ids_in}
use Rattle.lease_manager.specs.Outs.{progress_of}
use Rattle.lease_manager.proofs.requests.attempt.meet_all.Given as goal

abbrev pub invariant-loop-want : goal.invariant-loop-want
invariant-loop-want l = (wants_met (drop l.want-index l.wants) (progress_of l.tables l.outs)
    ≡ wants_met l.wants (progress_of l.fn.tables l.fn.outs))
    × (l.tables.queues ≡ l.fn.tables.queues)
    × EndsMore l.fn.tables.opens (ids_in l.fn.ended) l.tables.opens (ids_in l.ended)
