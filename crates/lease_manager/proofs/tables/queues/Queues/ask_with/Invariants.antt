use Rattle.lease_laws.proofs.Words.{◌≡◌, list_any}
use Rattle.std.specs.BTreeMap.{values}
use Rattle.lease_manager.proofs.waits.Queuing.{asks_in}
use Rattle.lease_manager.proofs.tables.queues.Queues.ask_with.Given as goal

abbrev pub invariant-loop-queue : goal.invariant-loop-queue
invariant-loop-queue l = list_any (asks_in l.one) l.queue-iterator ≡ list_any (asks_in l.one) (values l.self.by_file)
