use Rattle.lease_wire_v2.proofs.DurableLaws.{durable_reads_back, durable_writes_back, grant_reads_back, grant_writes_back}
use Rattle.lease_wire_v2.proofs.DurableLaws.{reconnect_reads_back, reconnect_writes_back}
use Rattle.lease_wire_v2.proofs.durable.durable_laws.Goals as goal

pub returns-clause-request_reads_back : goal.returns-clause-request_reads_back
returns-clause-request_reads_back c = durable_reads_back

pub returns-clause-request_writes_back : goal.returns-clause-request_writes_back
returns-clause-request_writes_back c = durable_writes_back

pub returns-clause-response_reads_back : goal.returns-clause-response_reads_back
returns-clause-response_reads_back c = grant_reads_back

pub returns-clause-response_writes_back : goal.returns-clause-response_writes_back
returns-clause-response_writes_back c = grant_writes_back

pub returns-clause-reconnect_reads_back : goal.returns-clause-reconnect_reads_back
returns-clause-reconnect_reads_back c = reconnect_reads_back

pub returns-clause-reconnect_writes_back : goal.returns-clause-reconnect_writes_back
returns-clause-reconnect_writes_back c = reconnect_writes_back
