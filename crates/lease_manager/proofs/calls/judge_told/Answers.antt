use Rattle.lease_manager.proofs.tries.Calling.{gone_now}
use Rattle.lease_manager.proofs.calls.judge_told.Goals as goal

pub returns : goal.returns
returns c = gone_now c.args.tables.now c.acknowledge.new.tables c.args.told.now c.tell.new.self c.acknowledge.new.outs 0 _
    (rw c.new-outs.ensures at c.in_ok-acknowledge.ensures.step) c.in_ok-acknowledge.ensures.queues c.in_ok-tell.ensures
