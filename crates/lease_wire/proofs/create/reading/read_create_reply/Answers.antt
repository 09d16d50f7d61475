use Rattle.std.proofs.Common.{refl}
use Rattle.lease_wire.specs.declared.create.Direction.TheVariants.{Reply}
use Rattle.lease_wire.proofs.ReadingLaws.{reading_by_value, answered_value}
use Rattle.lease_wire.proofs.create.reading.read_create_reply.Goals as goal

pub returns-in-Err-clause-reading : goal.returns-in-Err-clause-reading
returns-in-Err-clause-reading c = reading_by_value Reply _ _ c.in-Err.ensures

pub returns-in-Ok-clause-value : goal.returns-in-Ok-clause-value
returns-in-Ok-clause-value c = answered_value _ c.in-Ok.values _ c.in-Ok.ensures c.granted_lease.ensures refl refl

pub returns-in-Ok-clause-reading : goal.returns-in-Ok-clause-reading
returns-in-Ok-clause-reading c = reading_by_value Reply _ _ (returns-in-Ok-clause-value c)
