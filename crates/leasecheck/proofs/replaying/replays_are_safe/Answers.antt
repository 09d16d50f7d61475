use Rattle.leasecheck.proofs.Replays.{replays_back, replays_safe}
use Rattle.leasecheck.proofs.replaying.replays_are_safe.Goals as goal

pub returns-clause-record : goal.returns-clause-record
returns-clause-record c = replays_back c.remarks_change_nothing.ensures.record

pub returns-clause-safe : goal.returns-clause-safe
returns-clause-safe c = replays_safe c.remarks_change_nothing.ensures.safe
