use Rattle.std.proofs.Common.{◌≡◌}
use Rattle.lease_wire.specs.Contexts.{items_left}
use Rattle.lease_wire_v2.specs.Gathering.{gathered, value_of}
use Rattle.lease_wire_v2.specs.Views.{values_of}
use Rattle.lease_wire_v2.proofs.create.reading.gather.Given as goal

-- what is left gives the whole
abbrev pub invariant-loop-item : goal.invariant-loop-item
invariant-loop-item l = gathered l.direction (values_of l.values) (items_left l.item-iterator) ≡ value_of l.direction l.bytes
