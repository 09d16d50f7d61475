use Rattle.std.proofs.Common.{◌≡◌}
use Rattle.lease_wire.specs.Contexts.{items_left}
use Rattle.capture_wire.specs.Creates.{fault_in}
use Rattle.capture_wire.proofs.contexts.check_contexts.Given as goal

-- what is left gives the whole
abbrev pub invariant-loop-item : goal.invariant-loop-item
invariant-loop-item l = fault_in (items_left l.item-iterator) ≡ fault_in (items_left l.fn.contexts)
