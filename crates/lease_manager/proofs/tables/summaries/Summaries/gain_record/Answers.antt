use Rattle.lease_manager.proofs.sums.Recording.{key_changed}
use Rattle.lease_manager.proofs.tables.summaries.Summaries.gain_record.Goals as goal

pub returns-clause-changed : goal.returns-clause-changed
returns-clause-changed c = rw (← c.one.view_is) (rw (c.raised.ensures, c.tally.ensures, ← c.one.view_is) at
    (key_changed c.args.self.now.leases c.insert.new.self c.args.key _ c.in_ok-insert.ensures.updates))
