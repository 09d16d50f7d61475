use Rattle.lease_laws.proofs.Words.{◌∙◌, refl, sym}
use Rattle.lease_manager.specs.contracts.tables.Tables.{the_view}
use Rattle.lease_manager.proofs.waits.Counted.{known_counted, stays_decided}
use Rattle.lease_manager.specs.Queues.{filed}
use Rattle.lease_manager.specs.Table.{held_at}
use Rattle.lease_manager.proofs.waits.Queuing.{held_inside}
use Rattle.lease_manager.proofs.tables.Tables.count_still.Goals as goal

pub invariant_of-self-then-place-held : goal.invariant_of-self-then-place-held
invariant_of-self-then-place-held c = (
  c.self.invariant.0,
  known_counted _ (held_at (filed c.self.inside.queues)) c.args.file.0 c.args.place c.self.inside.waiting c.put.new.self
      c.in_ok-put.ensures.put (sym c.count.ensures ∙ c.if-count-place.true)
      (held_inside _ _ (rw (c.held.ensures, ← c.self.view_is) at c.if-place-held.true))
      (stays_decided (the_view c.self.inside) c.self.inside.summaries c.args.file.0 _ c.args.place refl
      (rw (← c.self.view_is) at c.requires)) c.self.invariant.1,
  c.self.invariant.2,
)
