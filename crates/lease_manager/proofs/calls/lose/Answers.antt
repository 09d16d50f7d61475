use Rattle.lease_laws.proofs.Words.{◌==◌}
use Rattle.lease_manager.proofs.tries.Calling.{lost_now}
use Rattle.lease_manager.proofs.calls.lose.Goals as goal

pub returns : goal.returns
returns c = lost_now c.args.tables.now c.part.new.self c.forget.new.self c.args.told.now c.ended_all.new.self
    c.left_behind_all.new.self c.in_ok-parted.parted c.args.client.0 c.in_ok-parted.ensures.in_order
    (c.in_ok-parted.ensures.parted (λ one. one.client == c.args.client.0) (rw (← c.deref.ensures.value) at c.in_ok-named.ensures))
    c.in_ok-parted.ensures.queues c.in_ok-forget.ensures
    (rw c.deref-2.ensures.value at c.in_ok-ended_all.ensures) (rw c.deref-3.ensures.value at c.in_ok-left_behind_all.ensures)
