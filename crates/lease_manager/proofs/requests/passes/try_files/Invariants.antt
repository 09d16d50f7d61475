use Rattle.lease_laws.proofs.Words.{◌≡◌, drop}
use Rattle.manager_model.specs.Handling.{passes_over}
use Rattle.lease_manager.specs.Outs.{handling_of}
use Rattle.lease_manager.specs.Queues.{file_numbers}
use Rattle.lease_manager.proofs.requests.passes.try_files.Given as goal

abbrev pub invariant-loop-file : goal.invariant-loop-file
invariant-loop-file l = passes_over (file_numbers (drop l.file-index l.files)) (handling_of l.tables l.told)
    ≡ passes_over (file_numbers l.files) (handling_of l.fn.tables l.fn.told)
