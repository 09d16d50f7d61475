use Rattle.lease_laws.proofs.records.Content.{content_now, content_when_sent}
use Rattle.lease_laws.proofs.records.Runs.{runs_start_first}
use Rattle.lease_laws.proofs.past_laws.contents_of_runs.Goals as goal

pub returns-clause-starts : goal.returns-clause-starts
returns-clause-starts c = runs_start_first

pub returns-clause-now : goal.returns-clause-now
returns-clause-now c = content_now

pub returns-clause-when_sent : goal.returns-clause-when_sent
returns-clause-when_sent c = content_when_sent
