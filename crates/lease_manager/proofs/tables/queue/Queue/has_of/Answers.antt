use Rattle.lease_laws.proofs.Words.{◌∙◌, drop, sym}
use Rattle.lease_manager.proofs.opens.Joining.{present_is}
use Rattle.lease_manager.proofs.waits.Clients.{none_of}
use Rattle.lease_manager.proofs.tables.queue.Queue.has_of.Goals as goal

pub returns-else-contains : goal.returns-else-contains
returns-else-contains c = rw (← c.self.view_is) (c.if-contains.false ∙ sym (none_of c.self.inside.clients.keys c.args.client.0
    (drop c.self.inside.gone c.self.inside.items.items) c.self.invariant.1
    (sym (present_is c.self.inside.clients c.args.client) ∙ (sym c.contains.ensures ∙ c.if-contains.false))))
