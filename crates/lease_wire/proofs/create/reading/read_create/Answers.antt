use Rattle.lease_wire.specs.declared.create.Direction.TheVariants.{Request}
use Rattle.lease_wire.proofs.ReadingLaws.{reading_by_value, asked_is_calm}
use Rattle.lease_wire.proofs.create.reading.read_create.Goals as goal

pub asked_lease-requires : goal.asked_lease-requires
asked_lease-requires c = asked_is_calm _ c.in-Ok.values c.in-Ok.ensures

pub returns-in-Err-clause-reading : goal.returns-in-Err-clause-reading
returns-in-Err-clause-reading c = reading_by_value Request _ _ c.in-Err.ensures

pub returns-in-Ok-clause-value : goal.returns-in-Ok-clause-value
returns-in-Ok-clause-value c = rw (← c.asked_lease.ensures) c.in-Ok.ensures

pub returns-in-Ok-clause-reading : goal.returns-in-Ok-clause-reading
returns-in-Ok-clause-reading c = reading_by_value Request _ _ (returns-in-Ok-clause-value c)
