use Rattle.lease_wire.proofs.Messages.{acknowledgment_reads_back, acknowledgment_free_fields}
use Rattle.lease_wire.proofs.acknowledgment.acknowledgment_laws.Goals as goal

pub returns-clause-reads_back : goal.returns-clause-reads_back
returns-clause-reads_back c = acknowledgment_reads_back

pub returns-clause-free_fields : goal.returns-clause-free_fields
returns-clause-free_fields c = acknowledgment_free_fields
