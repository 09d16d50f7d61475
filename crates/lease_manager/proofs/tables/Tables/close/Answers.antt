use Rattle.lease_laws.proofs.Words.{◌∙◌, ◌≡◌, FileId, [], ap, arith, length, map, refl, sym}
use Rattle.std.specs.Vec.{vec_len}
use Rattle.lease_manager.specs.contracts.tables.Tables.{the_view}
use Rattle.lease_manager.proofs.waits.Awaiting.{closed_settled}
use Rattle.lease_manager.proofs.waits.Counted.{no_ids}
use Rattle.lease_manager.proofs.waits.Settled.{known_settled, settled_closed}
use Rattle.lease_manager.proofs.opens.Tabling.{closed_none, kept_left, table_closed}
use Rattle.lease_manager.specs.Closing.{closes}
use Rattle.lease_manager.specs.Queues.{filed}
use Rattle.lease_manager.specs.Table.{held_at}
use Rattle.lease_manager.proofs.tables.Tables.close.Goals as goal

pub invariant_of-self : goal.invariant_of-self
invariant_of-self c = (
  kept_left c.self.inside.opens _ c.self.inside.summaries c.close_all.new.summaries c.close_all.new.opens
      c.self.inside.last_id c.self.invariant.0 (c.close_all.ensures c.self.invariant.0.agree),
  known_settled (held_at (filed c.self.inside.queues)) c.self.inside.waiting c.forget_files.new.waiting _ _
      (settled_closed (held_at (filed c.self.inside.queues)) c.self.inside.waiting c.forget_files.new.waiting
      c.self.inside.rules c.self.inside.files.0
      c.self.inside.opens c.close_all.new.opens _ c.self.inside.summaries c.close_all.new.summaries
      (rw c.deref-2.ensures.value at (c.close_all.ensures c.self.invariant.0.agree))
      (rw c.deref.ensures.value at c.forget_files.ensures)) c.self.invariant.1,
  closed_settled c.self.inside.settled c.self.inside.opens c.close_all.new.opens _ c.self.inside.summaries
      c.close_all.new.summaries (rw c.deref-2.ensures.value at (c.close_all.ensures c.self.invariant.0.agree))
      c.self.invariant.2,
)

pub returns-clause-closed : goal.returns-clause-closed
returns-clause-closed c =
    let table = the_view c.self.inside in
    rw (← c.self.view_is)
    (table_closed table (closes c.args.closing) _ c.self.inside.summaries c.close_all.new.summaries c.close_all.new.opens refl
    c.closed.ensures.in_order c.in_ok-ids.ensures.ids
    (rw c.deref-2.ensures.value at (c.close_all.ensures c.self.invariant.0.agree)))

pub returns-then-is_empty-clause-closed : goal.returns-then-is_empty-clause-closed
returns-then-is_empty-clause-closed c =
    let table = the_view c.self.inside in
    let many : vec_len c.in_ok-ids.ids ≡ length c.in_ok-ids.ids.items = omega arith in
    let none = no_ids c.in_ok-ids.ids.items (rw many at (sym c.is_empty.ensures ∙ c.if-is_empty.true)) in
    rw (← c.self.view_is)
    (table_closed table (closes c.args.closing) [] c.self.inside.summaries c.self.inside.summaries c.self.inside.opens refl
    c.closed.ensures.in_order (sym (ap (map (λ (id : FileId). id.0)) none) ∙ c.in_ok-ids.ensures.ids)
    (closed_none c.self.inside.opens c.self.inside.summaries c.self.invariant.0.agree))

pub returns-clause-ids : goal.returns-clause-ids
returns-clause-ids c = rw (← c.self.view_is) c.in_ok-ids.ensures.ids

pub returns-then-is_empty-clause-ids : goal.returns-then-is_empty-clause-ids
returns-then-is_empty-clause-ids c =
    rw (← c.self.view_is) c.in_ok-ids.ensures.ids
