use Rattle.lease_laws.proofs.Words.{◌∙◌, ap}
use Rattle.leasecheck.specs.FileFaults.{failure_by}
use Rattle.leasecheck.proofs.failure.Failure.of_reading.Goals as goal

pub returns-clause-fails : goal.returns-clause-fails
returns-clause-fails c = (c.args.kind, c.failure_by.ensures ∙ ap failure_by c.of.ensures)
