use Rattle.lease_laws.proofs.Words.{◌++◌, ◌≡◌, map}
use Rattle.lease_manager.specs.Listings.{queues_of, waiting_in, waiting_of}
use Rattle.lease_manager.specs.Queues.{filed}
use Rattle.lease_manager.proofs.tables.queues.Queues.listed.Given as goal

abbrev pub invariant-loop-file : goal.invariant-loop-file
invariant-loop-file l = map waiting_of l.requests.items ++ waiting_in (queues_of l.file-iterator) ≡ waiting_in (filed l.self)
