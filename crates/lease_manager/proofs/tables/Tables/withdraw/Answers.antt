use Rattle.lease_laws.proofs.Words.{without}
use Rattle.manager_model.specs.Handling.{is_under}
use Rattle.lease_manager.specs.contracts.tables.Tables.{the_view}
use Rattle.lease_manager.proofs.waits.Counted.{known_released}
use Rattle.lease_manager.proofs.waits.Queuing.{edited, held_changed, table_requeued}
use Rattle.lease_manager.proofs.tables.Tables.withdraw.Goals as goal

pub returns : goal.returns
returns c = rw (← c.self.view_is) (table_requeued (the_view c.self.inside) _ c.args.file.0 _
    (edited (without (is_under c.args.client.0 c.args.tag.0)) c.self.inside.queues c.withdraw.new.self c.args.file.0
    c.withdraw.ensures))

pub invariant_of-self : goal.invariant_of-self
invariant_of-self c =
    let changed = edited (without (is_under c.args.client.0 c.args.tag.0)) c.self.inside.queues c.withdraw.new.self c.args.file.0
    c.withdraw.ensures in (
      c.self.invariant.0,
      known_released _ _ _ c.args.file.0 _ c.self.inside.waiting c.forget.new.self (held_changed _ _ c.args.file.0 _ changed)
          c.forget.ensures c.self.invariant.1,
      c.self.invariant.2,
    )
