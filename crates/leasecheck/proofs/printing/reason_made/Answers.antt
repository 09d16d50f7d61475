use Rattle.leasecheck.proofs.printing.reason_made.Goals as goal

pub returns-in_ok-text-in-Json-clause-text : goal.returns-in_ok-text-in-Json-clause-text
returns-in_ok-text-in-Json-clause-text c = rw c.in-Json.is (c.in_ok-text-in-Json.ensures, c.status_of-status.ensures)
