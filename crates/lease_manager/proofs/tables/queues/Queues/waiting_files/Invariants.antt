use Rattle.lease_laws.proofs.Words.{◌++◌, ◌≡◌, filter}
use Rattle.std.specs.BTreeMap.{keys}
use Rattle.lease_manager.specs.Queues.{is_file}
use Rattle.lease_manager.proofs.tables.queues.Queues.waiting_files.Given as goal

abbrev pub invariant-loop-file : goal.invariant-loop-file
invariant-loop-file l = l.files.items ++ filter (λ file. is_file l.last.0 file.0) l.file-iterator
    ≡ filter (λ file. is_file l.last.0 file.0) (keys l.self.by_file)
