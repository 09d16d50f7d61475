use Rattle.lease_wire_v2.proofs.NoticeLaws.{notice_reads_back, notice_is_unique, notice_writes_back, first_version}
use Rattle.lease_wire_v2.proofs.notification.epoch_notice_laws.Goals as goal

pub returns-clause-reads_back : goal.returns-clause-reads_back
returns-clause-reads_back c = notice_reads_back

pub returns-clause-unique : goal.returns-clause-unique
returns-clause-unique c = notice_is_unique

pub returns-clause-writes_back : goal.returns-clause-writes_back
returns-clause-writes_back c = notice_writes_back

pub returns-clause-first_version : goal.returns-clause-first_version
returns-clause-first_version c = first_version
