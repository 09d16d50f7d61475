use Rattle.std.proofs.Common.{◌≡◌}
use Rattle.std.specs.List.{list_any}
use Rattle.lease_wire.specs.Contexts.{items_left}
use Rattle.lease_c.specs.OtherLease.{has_other_lease, is_other_lease}
use Rattle.lease_c.proofs.create.has_other_lease.Given as goal

-- what is left says it of the whole
abbrev pub invariant-loop-item : goal.invariant-loop-item
invariant-loop-item l = list_any is_other_lease (items_left l.item-iterator) ≡ has_other_lease l.text
