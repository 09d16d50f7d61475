use Rattle.lease_laws.proofs.Words.{ap}
use Rattle.leasecheck.specs.Judging.{bare}
use Rattle.leasecheck.proofs.judging.unread.Goals as goal

pub returns-clause-unread : goal.returns-clause-unread
returns-clause-unread c = (c.args.kind, ap bare c.of_reading.ensures.exact)
