use Rattle.lease_laws.proofs.Words.{false, refl}
use Rattle.lease_manager.specs.Kept.{disconnected_where}
use Rattle.lease_manager.specs.contracts.tables.Tables.{the_view}
use Rattle.lease_manager.proofs.opens.Parting.{part_now}
use Rattle.lease_manager.proofs.opens.Tabling.{kept_left, kept_mapped, same_id_where}
use Rattle.lease_manager.proofs.sums.Mapping.{connection_kept}
use Rattle.lease_manager.specs.Summaries.{lease_in}
use Rattle.lease_manager.proofs.waits.Awaiting.{empty_settled, parted_settled}
use Rattle.lease_manager.proofs.waits.Counted.{kept_empty}
use Rattle.lease_manager.proofs.waits.Settled.{elsewhere_left, forgotten_fewer, known_settled, settled_closed}
use Rattle.lease_manager.proofs.waits.Settled.{settled_disconnected}
use Rattle.lease_manager.proofs.waits.StillWaiting.{none_counted}
use Rattle.lease_manager.specs.LeftOpens.{numbers}
use Rattle.lease_manager.specs.Queues.{filed}
use Rattle.lease_manager.specs.Summaries.{lease_in}
use Rattle.lease_manager.specs.Table.{held_at}
use Rattle.lease_manager.proofs.tables.Tables.part.Goals as goal

pub returns-in-Ok-clause-parted : goal.returns-in-Ok-clause-parted
returns-in-Ok-clause-parted c = λ test are.
    rw (← c.self.view_is) (part_now (the_view c.self.inside) test c.args.named.now
    (record { ended = c.in_ok-ended.ended; left = c.in_ok-left.left }) c.self.inside.summaries c.close_all.new.summaries
    c.close_all.new.opens c.disconnect_all.new.opens refl c.in_ok-ended.ensures.in_order (rw (← c.self.view_is) at are)
    c.in_ok-ended.ensures.ids c.in_ok-left.ensures.ids
    (rw c.deref.ensures.value at (c.close_all.ensures c.self.invariant.0.agree))
    (rw c.deref-2.ensures.value at c.in-Ok.ensures))

pub invariant_of-self : goal.invariant_of-self
invariant_of-self c =
    let queues = held_at (filed c.self.inside.queues) in
    let named = c.args.named.now in
    let left = c.in_ok-left.left.items in
    let before = c.self.inside.waiting in
    let after = c.forget_files.new.waiting in
    let closed = rw c.deref.ensures.value at (c.close_all.ensures c.self.invariant.0.agree) in
    let kept = rw c.deref-2.ensures.value at c.in-Ok.ensures in (
      rw c.in-Ok.ensures
          (kept_mapped c.close_all.new.opens (disconnected_where _) c.close_all.new.summaries c.self.inside.last_id
          (kept_left c.self.inside.opens _ c.self.inside.summaries c.close_all.new.summaries c.close_all.new.opens
          c.self.inside.last_id c.self.invariant.0 (c.close_all.ensures c.self.invariant.0.agree))
          (connection_kept _ false) (same_id_where _ false)),
      known_settled queues after after _ _
          (settled_disconnected queues after c.self.inside.rules c.self.inside.files.0 c.close_all.new.opens
          c.disconnect_all.new.opens (numbers left) (lease_in c.close_all.new.summaries) kept
          (elsewhere_left _ named left (numbers c.in_ok-ended.ended.items) c.self.inside.opens c.close_all.new.opens before
          after c.in_ok-left.ensures.ids closed.opens_left c.forget_files.ensures))
          (known_settled queues before after _ _
          (settled_closed queues before after c.self.inside.rules c.self.inside.files.0 c.self.inside.opens
          c.close_all.new.opens (numbers c.in_ok-ended.ended.items) c.self.inside.summaries c.close_all.new.summaries closed
          (forgotten_fewer _ named c.in_ok-ended.ended.items c.self.inside.opens before after c.in_ok-ended.ensures.ids
          c.forget_files.ensures)) c.self.invariant.1),
      parted_settled c.self.inside.settled c.self.inside.opens c.close_all.new.opens c.disconnect_all.new.opens _ named left
          c.self.inside.summaries c.close_all.new.summaries c.in_ok-ended.ensures.in_order closed c.in_ok-left.ensures.ids kept
          c.self.invariant.2,
    )

pub invariant_of-self-in-Err-1 : goal.invariant_of-self-in-Err-1
invariant_of-self-in-Err-1 c = (
  kept_empty _ _ _ c.forget_opens.ensures.opens c.forget_opens.ensures.agrees,
  λ file. none_counted _ _ _ _ (c.clear.ensures file),
  empty_settled c.self.inside.settled _ (lease_in c.forget_opens.new.summaries) c.forget_opens.ensures.opens,
)
