use Rattle.std.proofs.Common.{refl}
use Rattle.lease_wire.specs.declared.create.Direction.TheVariants.{Reply}
use Rattle.lease_wire_v2.proofs.ReadingLaws.{reading_by_value}
use Rattle.lease_wire_v2.proofs.ReadValues.{durable_is_directed, answered_value}
use Rattle.lease_wire_v2.proofs.create.reading.read_create_reply_v2.Goals as goal

pub durable_granted-requires : goal.durable_granted-requires
durable_granted-requires c = durable_is_directed Reply _ c.in-Ok.values c.in-Ok.ensures

pub returns-in-Err-clause-reading : goal.returns-in-Err-clause-reading
returns-in-Err-clause-reading c = reading_by_value Reply _ _ c.in-Err.ensures

pub returns-in-Ok-clause-value : goal.returns-in-Ok-clause-value
returns-in-Ok-clause-value c = answered_value _ c.in-Ok.values _ c.in-Ok.ensures refl c.durable_granted.ensures refl

pub returns-in-Ok-clause-reading : goal.returns-in-Ok-clause-reading
returns-in-Ok-clause-reading c = reading_by_value Reply _ _ (returns-in-Ok-clause-value c)
