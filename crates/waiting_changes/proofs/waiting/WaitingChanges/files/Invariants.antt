use Rattle.lease_laws.proofs.Words.{◌≡◌, map, take}
use Rattle.lease_manager.specs.Queues.{file_numbers}
use Rattle.waiting_changes.proofs.waiting.WaitingChanges.files.Given as goal

abbrev pub invariant-loop-one : goal.invariant-loop-one
invariant-loop-one l = file_numbers l.files.items ≡ map (λ one. one.file.0) (take l.one-index l.self)
