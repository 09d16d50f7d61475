use Rattle.lease_laws.proofs.Words.{◌++◌, ◌∙◌, ap, append-nil, rules, sym}
use Rattle.lease_manager.proofs.waits.Queuing.{one_on}
use Rattle.lease_manager.proofs.tables.queues.Queues.files.Goals as goal

pub loop-file-preserved : goal.loop-file-preserved
loop-file-preserved c = one_on c.loop-file.files.items c.push.new.self.items c.loop-file.file-iterator c.next.new.self _
    c.in-Some.file.now
    (search rules) c.in-Some.ensures.steps c.loop-file.invariant

pub returns : goal.returns
returns c = sym (append-nil c.loop-file.files.items)
    ∙ (ap (λ rest. c.loop-file.files.items ++ rest) (sym c.in-None.ensures.steps.0) ∙ c.loop-file.invariant)
