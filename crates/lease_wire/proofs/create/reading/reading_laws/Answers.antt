use Rattle.lease_wire.proofs.ReadingLaws.{value_is_read}
use Rattle.lease_wire.proofs.create.reading.reading_laws.Goals as goal

pub returns : goal.returns
returns c = value_is_read
