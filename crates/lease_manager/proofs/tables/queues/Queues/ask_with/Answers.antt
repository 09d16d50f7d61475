use Rattle.lease_laws.proofs.Words.{◌∙◌, ap, list_any, sym}
use Rattle.lease_manager.proofs.waits.Queuing.{asks_in, none_asks}
use Rattle.lease_manager.proofs.tables.queues.Queues.ask_with.Goals as goal

pub returns : goal.returns
returns c = λ none file held among. none_asks c.args.one.now c.args.self.now file held
    (sym c.loop-queue.invariant ∙ ap (list_any (asks_in
    c.args.one.now)) c.in-None.ensures.steps.0) among
