use Rattle.lease_laws.proofs.Words.{is_named}
use Rattle.lease_manager.specs.LeftOpens.{numbers}
use Rattle.lease_manager.specs.Parting.{tag_numbers}
use Rattle.lease_manager.proofs.tries.Calling.{left_now}
use Rattle.lease_manager.proofs.calls.let_go.Goals as goal

pub returns : goal.returns
returns c = left_now c.args.tables.now c.part.new.self c.leave.new.self c.args.told.now c.ended_all.new.self
    c.left_behind_all.new.self c.in_ok-parted.parted c.args.client.0 (numbers c.args.file_ids.now) (tag_numbers c.args.tags.now)
    c.in_ok-parted.ensures.in_order
    (c.in_ok-parted.ensures.parted (is_named c.args.client.0 (numbers c.args.file_ids.now))
    (rw (← c.deref.ensures.value) at c.in_ok-named.ensures))
    c.in_ok-parted.ensures.queues c.in_ok-leave.ensures
    (rw c.deref-2.ensures.value at c.in_ok-ended_all.ensures) (rw c.deref-3.ensures.value at c.in_ok-left_behind_all.ensures)
