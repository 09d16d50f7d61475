use Rattle.lease_wire_v2.proofs.ReadingLaws.{value_is_read}
use Rattle.lease_wire_v2.proofs.create.reading.create_laws.Goals as goal

pub returns : goal.returns
returns c = value_is_read
