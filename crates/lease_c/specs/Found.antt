-- The first context of a name.
use Rattle.std.specs.Prelude.{ℕ, if◌then◌else◌, List, [], ◌∷◌, Option, Some, None, Ok, Err}
use Rattle.std.specs.Str.{bytes_eq}
use Rattle.lease_wire.specs.Chain.{ContextView}
use Rattle.lease_wire.specs.Reading.{Item, items_of}

-- among the items of a text; a fault ends them
abbrev pub found_among : List ℕ → List Item → Option ContextView
found_among name [] = None
found_among name (Err fault ∷ items) = None
found_among name (Ok context ∷ items) = if bytes_eq context.name name then Some context else found_among name items

-- the first context of the text that has this name, if one stands before the text's first fault
abbrev pub found : List ℕ → List ℕ → Option ContextView
found name text = found_among name (items_of text)
