use Rattle.lease_laws.proofs.Words.{◌++◌, ◌≡◌}
use Rattle.std.specs.BTreeMap.{keys}
use Rattle.lease_manager.proofs.tables.queues.Queues.files.Given as goal

abbrev pub invariant-loop-file : goal.invariant-loop-file
invariant-loop-file l = l.files.items ++ l.file-iterator ≡ keys l.self.by_file
