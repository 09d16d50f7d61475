use Rattle.lease_laws.proofs.Words.{◌∙◌, sym}
use Rattle.lease_manager.specs.Outs.{handling_of}
use Rattle.lease_manager.specs.Queues.{file_numbers}
use Rattle.lease_manager.proofs.requests.passes.try_all.Goals as goal

pub returns : goal.returns
returns c = (rw c.deref.ensures.value at c.in_ok-try_files.ensures)
    ∙ sym (c.law_of_passes.ensures.files (file_numbers c.in_ok-files.files.items)
    (handling_of c.args.tables.now c.args.told.now)
    c.in_ok-files.ensures)
