use Rattle.lease_wire_v2.proofs.CanonicalLaws.{written_holds_value, written_reads_back}
use Rattle.lease_wire_v2.proofs.create.writing.written_laws.Goals as goal

pub returns-clause-holds : goal.returns-clause-holds
returns-clause-holds c = written_holds_value

pub returns-clause-reads_back : goal.returns-clause-reads_back
returns-clause-reads_back c = written_reads_back
