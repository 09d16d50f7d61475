use Rattle.lease_laws.proofs.records.Given.{runs_give_first, clients_of_runs}
use Rattle.lease_laws.proofs.records.Writes.{writes_now}
use Rattle.lease_laws.proofs.past_laws.writes_of_runs.Goals as goal

pub returns-clause-gives_first : goal.returns-clause-gives_first
returns-clause-gives_first c = runs_give_first

pub returns-clause-sound : goal.returns-clause-sound
returns-clause-sound c = clients_of_runs

pub returns-clause-now : goal.returns-clause-now
returns-clause-now c = writes_now
