use Rattle.lease_wire_v2.proofs.LeaseLaws.{lease_is_read, lease_reads_back, lease_writes_back}
use Rattle.lease_wire_v2.proofs.lease.lease_laws.Goals as goal

pub returns-clause-is_read : goal.returns-clause-is_read
returns-clause-is_read c = lease_is_read

pub returns-clause-reads_back : goal.returns-clause-reads_back
returns-clause-reads_back c = lease_reads_back

pub returns-clause-writes_back : goal.returns-clause-writes_back
returns-clause-writes_back c = lease_writes_back
