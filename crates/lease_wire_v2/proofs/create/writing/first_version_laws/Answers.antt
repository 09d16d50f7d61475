use Rattle.lease_wire_v2.proofs.FirstVersion.{first_version_is_read}
use Rattle.lease_wire_v2.proofs.FirstVersionWritten.{first_version_is_written}
use Rattle.lease_wire_v2.proofs.create.writing.first_version_laws.Goals as goal

pub returns-clause-read : goal.returns-clause-read
returns-clause-read c = first_version_is_read

pub returns-clause-written : goal.returns-clause-written
returns-clause-written c = first_version_is_written
