use Rattle.lease_laws.proofs.Words.{◌≡◌, drop}
use Rattle.lease_manager.specs.Queues.{file_numbers}
use Rattle.waiting_changes.specs.Changes.{going_of, tried_on_all}
use Rattle.waiting_changes.proofs.waiting.WaitingChanges.try_files.Given as goal

abbrev pub invariant-loop-file : goal.invariant-loop-file
invariant-loop-file l = tried_on_all (file_numbers (drop l.file-index l.files)) (going_of l.self l.manager l.decisions.items)
    ≡ tried_on_all (file_numbers l.files) (going_of l.fn.self l.fn.manager l.fn.decisions.items)
