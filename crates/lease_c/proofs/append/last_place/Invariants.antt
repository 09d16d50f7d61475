use Rattle.std.proofs.Common.{◌≡◌}
use Rattle.lease_wire.specs.Contexts.{items_left}
use Rattle.lease_c.specs.Appended.{last_of, last_among}
use Rattle.lease_c.proofs.append.last_place.Given as goal

-- what is left, after the last one so far, says it of the whole
abbrev pub invariant-loop-item : goal.invariant-loop-item
invariant-loop-item l = last_of l.text ≡ last_among l.last (items_left l.item-iterator)
