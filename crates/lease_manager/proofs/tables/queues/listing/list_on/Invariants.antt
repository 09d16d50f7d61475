use Rattle.lease_laws.proofs.Words.{◌++◌, ◌≡◌, drop, map}
use Rattle.lease_manager.specs.Listings.{waiting_of, waiting_on}
use Rattle.lease_manager.proofs.tables.queues.listing.list_on.Given as goal

abbrev pub invariant-loop-one : goal.invariant-loop-one
invariant-loop-one l = map waiting_of l.requests.items ++ map (waiting_on l.file.0) (drop l.one-index l.queue)
    ≡ map waiting_of l.fn.requests.items ++ map (waiting_on l.file.0) l.queue
