use Rattle.lease_laws.proofs.Words.{refl}
use Rattle.lease_manager.proofs.waits.Queuing.{first_is_of_hosts}
use Rattle.lease_manager.proofs.laws.managers_are_those_of_hosts.Goals as goal

pub returns-clause-first : goal.returns-clause-first
returns-clause-first c = first_is_of_hosts

pub returns-clause-writes : goal.returns-clause-writes
returns-clause-writes c = λ fid number patch. refl
