use Rattle.lease_manager.proofs.opens.Tabling.{untaken_agrees, unused_lease}
use Rattle.lease_manager.proofs.tables.changes.close_one.Goals as goal

pub returns-in-None-clause-agrees : goal.returns-in-None-clause-agrees
returns-in-None-clause-agrees c = λ agree.
    untaken_agrees c.args.id.0 c.args.opens.now c.take.new.self c.args.summaries.now c.in-None.ensures.taken
    c.take.ensures.left agree

pub returns-in-None-clause-leases : goal.returns-in-None-clause-leases
returns-in-None-clause-leases c = λ agree key. unused_lease key c.take.new.self c.args.summaries.now
    (untaken_agrees c.args.id.0 c.args.opens.now c.take.new.self c.args.summaries.now c.in-None.ensures.taken
    c.take.ensures.left agree)
