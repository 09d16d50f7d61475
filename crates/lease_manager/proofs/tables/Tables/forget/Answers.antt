use Rattle.manager_model.specs.Handling.{is_of}
use Rattle.lease_manager.specs.contracts.tables.Tables.{the_view}
use Rattle.lease_manager.proofs.waits.Queuing.{forgotten_in, known_left, table_gone}
use Rattle.lease_manager.proofs.tables.Tables.forget.Goals as goal

pub returns : goal.returns
returns c = rw (← c.self.view_is) (table_gone (the_view c.self.inside) _ _ c.args.client
    (forgotten_in c.self.inside.queues c.forget_queues.new.queues c.in_ok-files.files.items (is_of c.args.client.0)
    c.in_ok-files.ensures (rw c.deref.ensures.value at c.forget_queues.ensures.gone)) c.forget_connection.ensures)

pub invariant_of-self : goal.invariant_of-self
invariant_of-self c = (
  c.self.invariant.0,
  known_left _ c.self.inside.queues c.forget_queues.new.queues c.self.inside.waiting c.forget_queues.new.waiting
      c.forget_queues.ensures.known c.self.invariant.1,
  c.self.invariant.2,
)
