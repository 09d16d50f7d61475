use Rattle.std.proofs.Common.{◌≡◌}
use Rattle.lease_wire.specs.Contexts.{items_left}
use Rattle.capture_wire.specs.Creates.{first_of_kind}
use Rattle.capture_wire.proofs.contexts.find_context.Given as goal

-- what is left gives the whole
abbrev pub invariant-loop-item : goal.invariant-loop-item
invariant-loop-item l = first_of_kind l.kind (items_left l.item-iterator) ≡ first_of_kind l.kind (items_left l.fn.contexts)
