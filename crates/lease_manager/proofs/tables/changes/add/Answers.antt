use Rattle.lease_manager.proofs.opens.Tabling.{one_more_last, short_more}
use Rattle.lease_manager.proofs.tables.changes.add.Goals as goal

pub returns-clause-agrees : goal.returns-clause-agrees
returns-clause-agrees c = λ home agree. rw c.in_ok-push.ensures
    (c.in_ok-gain.ensures.agrees c.args.opens.now _ (one_more_last c.args.one c.args.opens.now)
    (short_more c.args.opens.now c.args.one c.len-count.result c.len-count.ensures.count c.len-count.ensures.small) home agree)
