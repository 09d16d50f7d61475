use Rattle.lease_wire.proofs.Messages.{notification_reads_back, notification_free_fields}
use Rattle.lease_wire.proofs.notification.notification_laws.Goals as goal

pub returns-clause-reads_back : goal.returns-clause-reads_back
returns-clause-reads_back c = notification_reads_back

pub returns-clause-free_fields : goal.returns-clause-free_fields
returns-clause-free_fields c = notification_free_fields
