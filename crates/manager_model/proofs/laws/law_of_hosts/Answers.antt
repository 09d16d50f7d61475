use Rattle.manager_model.proofs.hosts.Calls.{hosts_are_servers, runs_of_hosts}
use Rattle.manager_model.proofs.laws.law_of_hosts.Goals as goal

pub returns-clause-calls : goal.returns-clause-calls
returns-clause-calls c = hosts_are_servers

pub returns-clause-runs : goal.returns-clause-runs
returns-clause-runs c = runs_of_hosts
