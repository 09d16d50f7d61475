use Rattle.lease_wire_v2.proofs.WorkedChains.{both_written, both_read, leases_of_both_versions, lease_of_another_length}
use Rattle.lease_wire_v2.proofs.WorkedChains.{reconnect_of_another_length, first_version_together, durables_of_both_versions}
use Rattle.lease_wire_v2.proofs.WorkedChains.{second_version_together}
use Rattle.lease_wire_v2.proofs.worked.chains_are_as_worked.Goals as goal

pub returns-clause-written : goal.returns-clause-written
returns-clause-written c = both_written

pub returns-clause-read : goal.returns-clause-read
returns-clause-read c = both_read

pub returns-clause-leases : goal.returns-clause-leases
returns-clause-leases c = leases_of_both_versions

pub returns-clause-lease_length : goal.returns-clause-lease_length
returns-clause-lease_length c = lease_of_another_length

pub returns-clause-reconnect_length : goal.returns-clause-reconnect_length
returns-clause-reconnect_length c = reconnect_of_another_length

pub returns-clause-first_version : goal.returns-clause-first_version
returns-clause-first_version c = first_version_together

pub returns-clause-durables : goal.returns-clause-durables
returns-clause-durables c = durables_of_both_versions

pub returns-clause-second_version : goal.returns-clause-second_version
returns-clause-second_version c = second_version_together
