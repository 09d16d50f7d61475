use Rattle.std.specs.List.{remove}
use Rattle.lease_manager.specs.contracts.tables.Tables.{the_view}
use Rattle.lease_manager.proofs.waits.Counted.{known_released}
use Rattle.lease_manager.proofs.waits.Queuing.{edited, held_changed, queue_filed, table_requeued}
use Rattle.lease_manager.proofs.tables.Tables.release.Goals as goal

pub remove-requires : goal.remove-requires
remove-requires c = rw (← queue_filed c.self.inside.queues c.args.file.0) (rw (← c.self.view_is) at c.requires)

pub returns : goal.returns
returns c = rw (← c.self.view_is) (table_requeued (the_view c.self.inside) _ c.args.file.0 _
    (edited (λ queue. remove queue c.args.place) c.self.inside.queues c.remove.new.self c.args.file.0 c.remove.ensures))

pub invariant_of-self : goal.invariant_of-self
invariant_of-self c =
    let changed = edited (λ queue. remove queue c.args.place) c.self.inside.queues c.remove.new.self c.args.file.0
    c.remove.ensures in (
      c.self.invariant.0,
      known_released _ _ _ c.args.file.0 _ c.self.inside.waiting c.forget.new.self (held_changed _ _ c.args.file.0 _ changed)
          c.forget.ensures c.self.invariant.1,
      c.self.invariant.2,
    )
