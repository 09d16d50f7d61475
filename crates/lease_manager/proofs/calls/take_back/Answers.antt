use Rattle.lease_manager.proofs.tries.Calling.{taken_now}
use Rattle.lease_manager.proofs.calls.take_back.Goals as goal

pub returns : goal.returns
returns c = taken_now c.args.tables.now c.withdraw.new.self c.args.told.now c.withdrawn.new.self c.args.file.0 c.args.client.0
    c.args.tag.0 c.withdraw.ensures c.in_ok-withdrawn.ensures
