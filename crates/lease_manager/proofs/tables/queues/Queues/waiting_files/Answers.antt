use Rattle.lease_laws.proofs.Words.{◌++◌, ◌∙◌, ap, append-nil, filter, sym}
use Rattle.lease_manager.specs.Queues.{is_file}
use Rattle.lease_manager.proofs.waits.Queuing.{waiting_files_are}
use Rattle.lease_manager.proofs.tables.queues.Queues.waiting_files.Goals as goal

pub returns : goal.returns
returns c = waiting_files_are c.args.self.now c.loop-file.files.items c.args.last.0
    (sym (append-nil c.loop-file.files.items)
    ∙ (ap (λ rest. c.loop-file.files.items ++ filter (λ file. is_file c.args.last.0 file.0) rest) (sym c.in-None.ensures.steps.0)
    ∙ c.loop-file.invariant)) c.keys-file-items.ensures.ordered
