-- A create context as a struct holds it: by the places of its parts in the text.
use Rattle.std.specs.Prelude.{ℕ, ◌+◌, ◌==◌, if◌then◌else◌, List, drop, Option}
use Rattle.lease_wire.specs.Field.{bytes_at}
use Rattle.lease_wire.specs.Chain.{ContextView, next_of, name_offset_of, name_length_of, data_offset_of, data_length_of}
use Rattle.lease_wire.specs.Reading.{Item, items_behind, layout_fault}
use Rattle.lease_wire.specs.declared.fault.WireFault.{WireFault}
use Rattle.lease_c.specs.declared.context.LeaseContext.{LeaseContext}

-- the context that begins at a place of the text
abbrev pub context_held : ℕ → LeaseContext → List ℕ → ContextView
context_held place context text = record {
  place = place;
  name = bytes_at context.name_place context.name_length text;
  body = bytes_at context.data_place context.data_length text;
}

-- the fields of the context that the bytes from a place on begin with: data that aren't there are at 0
abbrev pub context_fields : ℕ → List ℕ → LeaseContext
context_fields place bytes = record {
  name_place = place + name_offset_of bytes;
  name_length = name_length_of bytes;
  data_place = if data_length_of bytes == 0 then 0 else place + data_offset_of bytes;
  data_length = data_length_of bytes;
  next_place = if next_of bytes == 0 then 0 else place + next_of bytes;
}

-- the first test of the layout that the context at a place of the text fails
abbrev pub fault_at : ℕ → List ℕ → Option WireFault
fault_at place text = layout_fault place (drop place text)

-- the contexts of the text, up to its first fault, from a place on where one is due
abbrev pub items_from : ℕ → List ℕ → List Item
items_from place text = items_behind place 0 (drop place text)
