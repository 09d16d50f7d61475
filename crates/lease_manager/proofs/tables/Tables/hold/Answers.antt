use Rattle.lease_laws.proofs.Words.{◌++◌, ◌∷◌, []}
use Rattle.lease_manager.specs.contracts.tables.Tables.{the_view}
use Rattle.lease_manager.proofs.waits.Counted.{known_held}
use Rattle.lease_manager.proofs.waits.Queuing.{edited, held_more, known_same, table_requeued, unchanged}
use Rattle.lease_manager.proofs.tables.Tables.hold.Goals as goal

pub returns : goal.returns
returns c = rw (← c.self.view_is) (table_requeued (the_view c.self.inside) _ c.args.file.0 _
    (edited (λ queue. queue ++ c.args.one ∷ []) c.self.inside.queues c.push.new.self c.args.file.0 c.in_ok-push.ensures.more))

pub invariant_of-self-2 : goal.invariant_of-self-2
invariant_of-self-2 c =
    let changed = edited (λ queue. queue ++ c.args.one ∷ []) c.self.inside.queues c.push.new.self c.args.file.0
    c.in_ok-push.ensures.more in (
      c.self.invariant.0,
      known_held _ _ _ c.args.file.0 _ c.self.inside.waiting (held_more _ _ c.args.file.0 c.args.one changed) c.self.invariant.1,
      c.self.invariant.2,
    )

pub invariant_of-self : goal.invariant_of-self
invariant_of-self c =
    let same = unchanged c.self.inside.queues c.push.new.self c.in_err-push.ensures.refused in (
      c.self.invariant.0,
      known_same _ _ _ c.self.inside.waiting same c.self.invariant.1,
      c.self.invariant.2,
    )
