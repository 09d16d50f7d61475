-- The create contexts that an iterator has still to give.
use Rattle.std.specs.Prelude.{ℕ, List, [], Option, Some, None, Result, Ok, Err}
use Rattle.std.specs.Option.{option_copied}
use Rattle.lease_wire.specs.Chain.{ContextView}
use Rattle.lease_wire.specs.Reading.{Item, items_behind}
use Rattle.lease_wire.specs.declared.chain.Context.{Context}
use Rattle.lease_wire.specs.declared.chain.iterator.Contexts.{Contexts}
use Rattle.lease_wire.specs.declared.fault.WireFault.{WireFault}

abbrev pub view_of : Context → ContextView
view_of context = record { place = context.place; name = context.name.now; body = context.body.now }

abbrev pub item_view : Result Context WireFault → Item
item_view (Ok context) = Ok (view_of context)
item_view (Err fault) = Err fault

-- the items from a place on, where a context is due there
abbrev pub items_due : ℕ → Option (List ℕ) → List Item
items_due place None = []
items_due place (Some bytes) = items_behind place 0 bytes

abbrev pub items_left : Contexts → List Item
items_left contexts = items_due contexts.place (option_copied contexts.rest)
