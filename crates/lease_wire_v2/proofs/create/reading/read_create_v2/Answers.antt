use Rattle.lease_wire.specs.declared.create.Direction.TheVariants.{Request}
use Rattle.lease_wire_v2.proofs.ReadingLaws.{reading_by_value}
use Rattle.lease_wire_v2.proofs.ReadValues.{asked_is_calm, durable_is_directed}
use Rattle.lease_wire_v2.proofs.create.reading.read_create_v2.Goals as goal

pub lease_asked-requires : goal.lease_asked-requires
lease_asked-requires c = asked_is_calm _ c.in-Ok.values c.in-Ok.ensures

pub durable_asked-requires : goal.durable_asked-requires
durable_asked-requires c = durable_is_directed Request _ c.in-Ok.values c.in-Ok.ensures

pub returns-in-Err-clause-reading : goal.returns-in-Err-clause-reading
returns-in-Err-clause-reading c = reading_by_value Request _ _ c.in-Err.ensures

pub returns-in-Ok-clause-value : goal.returns-in-Ok-clause-value
returns-in-Ok-clause-value c = rw (← c.lease_asked.ensures, ← c.durable_asked.ensures) c.in-Ok.ensures

pub returns-in-Ok-clause-reading : goal.returns-in-Ok-clause-reading
returns-in-Ok-clause-reading c = reading_by_value Request _ _ (returns-in-Ok-clause-value c)
