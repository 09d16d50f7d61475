use Rattle.manager_model.specs.Handling.{is_left}
use Rattle.lease_manager.specs.Parting.{tag_numbers}
use Rattle.lease_manager.specs.contracts.tables.Tables.{the_view}
use Rattle.lease_manager.proofs.waits.Queuing.{forgotten_in, known_left, table_left}
use Rattle.lease_manager.proofs.tables.Tables.leave.Goals as goal

pub returns : goal.returns
returns c =
    let test = is_left c.args.client.0 (tag_numbers c.args.tags.now) in
    rw (← c.self.view_is) (table_left (the_view c.self.inside) _ test
    (forgotten_in c.self.inside.queues c.leave_queues.new.queues c.in_ok-files.files.items test
    c.in_ok-files.ensures (rw c.deref.ensures.value at c.leave_queues.ensures.gone)))

pub invariant_of-self : goal.invariant_of-self
invariant_of-self c = (
  c.self.invariant.0,
  known_left _ c.self.inside.queues c.leave_queues.new.queues c.self.inside.waiting c.leave_queues.new.waiting
      c.leave_queues.ensures.known c.self.invariant.1,
  c.self.invariant.2,
)
