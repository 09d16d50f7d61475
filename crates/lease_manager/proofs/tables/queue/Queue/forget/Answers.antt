use Rattle.lease_laws.proofs.Words.{◌∙◌, arith, drop, false, sym}
use Rattle.manager_model.specs.Handling.{is_of}
use Rattle.lease_manager.proofs.opens.Joining.{present_is, present_put}
use Rattle.lease_manager.proofs.waits.Clients.{left_of, none_of}
use Rattle.lease_manager.proofs.waits.Queuing.{loses_none}
use Rattle.lease_manager.proofs.tables.queue.Queue.forget.Goals as goal

pub returns-then-not-remove : goal.returns-then-not-remove
returns-then-not-remove c = rw (← c.self.view_is) (sym (loses_none (is_of c.args.client.0)
    (drop c.self.inside.gone c.self.inside.items.items) (none_of c.self.inside.clients.keys c.args.client.0 _ c.self.invariant.1
    (sym (present_is c.self.inside.clients c.args.client) ∙ (sym c.remove.ensures.test ∙ c.if-not-remove.true)))))

pub invariant_of-self-2 : goal.invariant_of-self-2
invariant_of-self-2 c = (
  omega arith,
  rw (c.forget_of.ensures, c.let_go.ensures)
      (left_of c.self.inside.clients.keys c.remove.new.self.keys c.args.client.0
      (drop c.self.inside.gone c.self.inside.items.items) c.self.invariant.1
      (present_put c.self.inside.clients c.remove.new.self c.args.client false c.remove.ensures.updates)),
)
