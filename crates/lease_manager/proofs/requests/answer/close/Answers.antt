use Rattle.lease_manager.proofs.tries.Breaking.{dropped_and_told}
use Rattle.lease_manager.proofs.requests.answer.close.Goals as goal

pub returns-clause-step : goal.returns-clause-step
returns-clause-step c = dropped_and_told c.args.tables.now c.close.new.self c.args.outs.now c.close_done.new.self _ _ _
    c.in_ok-close.ensures.closed
    c.in_ok-close_done.ensures
