-- What a reader makes of create contexts, from the front to the back. These are functions, for
-- callers to compute with; `contexts_laws` and `reading_laws` tie them to the layout, which is a
-- relation on whole texts (Chain, Names, Faults).
use Rattle.std.specs.Prelude.{ℕ, zero, suc, ◌<◌, ◌^◌, ◌+◌, ◌-◌, ◌%◌, ◌==◌, nat_lt, Bool, not, ◌&&◌, ◌||◌, if◌then◌else◌, List, []}
use Rattle.std.specs.Prelude.{◌∷◌, length, drop, Option, Some, None, Result, Ok, Err}
use Rattle.lease_wire.specs.Field.{bytes_at}
use Rattle.lease_wire.specs.Chain.{ContextView, next_of, name_offset_of, name_length_of, data_offset_of, data_length_of}
use Rattle.lease_wire.specs.declared.fault.WireFault.{WireFault}
use Rattle.lease_wire.specs.declared.fault.WireFault.TheVariants.{Short, BadNext, BadName, BadData}
use Rattle.lease_wire.specs.declared.chain.Header.{Header}

-- the fields of the header that the bytes begin with
abbrev pub header_of : List ℕ → Header
header_of bytes = record {
  next = next_of bytes;
  name_offset = name_offset_of bytes;
  name_length = name_length_of bytes;
  data_offset = data_offset_of bytes;
  data_length = data_length_of bytes;
}

-- the fields are numbers of four and of two bytes
abbrev pub HasFieldsInRange : Header → Type 0
HasFieldsInRange h =
    (h.next < 2 ^ 32) × (h.name_offset < 2 ^ 16) × (h.name_length < 2 ^ 16)
    × (h.data_offset < 2 ^ 16) × (h.data_length < 2 ^ 32)

-- how long the context is, where so many bytes are left of the text
abbrev pub size_of : ℕ → Header → ℕ
size_of left h = if h.next == 0 then left else h.next

-- Next leads to no further context
abbrev pub has_bad_next : ℕ → Header → Bool
has_bad_next left h = not (h.next == 0) && (nat_lt h.next 16 || (not (h.next % 8 == 0) || nat_lt left h.next))

-- the name is not after the header and within the context
abbrev pub has_bad_name : ℕ → Header → Bool
has_bad_name left h = nat_lt h.name_offset 16 || nat_lt (size_of left h) (h.name_offset + h.name_length)

-- there are data, and they are not after the header and within the context
abbrev pub has_bad_data : ℕ → Header → Bool
has_bad_data left h =
    not (h.data_length == 0) && (nat_lt h.data_offset 16 || nat_lt (size_of left h) (h.data_offset + h.data_length))

-- the first test that fails of a context at a place, where so many bytes are left of the text
unfoldable pub header_fault : ℕ → ℕ → Header → Option WireFault
header_fault place left h =
    if nat_lt left 16 then Some (Short place)
    else if has_bad_next left h then Some (BadNext place)
    else if has_bad_name left h then Some (BadName place)
    else if has_bad_data left h then Some (BadData place)
    else None

-- the same of the bytes from that place on
unfoldable pub layout_fault : ℕ → List ℕ → Option WireFault
layout_fault place bytes = header_fault place (length bytes) (header_of bytes)

-- the context that the bytes from a place on begin with, where no test fails
unfoldable pub context_at : ℕ → List ℕ → ContextView
context_at place bytes = record {
  place = place;
  name = bytes_at (name_offset_of bytes) (name_length_of bytes) bytes;
  body = bytes_at (data_offset_of bytes) (data_length_of bytes) bytes;
}

-- what a reader gives: a context, or the fault that it ends with
abbrev pub Item : Type 0
Item = Result ContextView WireFault

-- a fault ends the reading, and so does a context whose Next is 0
abbrev pub item_before : Option WireFault → ContextView → ℕ → List Item → List Item
item_before (Some fault) context next others = Err fault ∷ []
item_before None context next others = Ok context ∷ (if next == 0 then [] else others)

-- the items from a place on, where a context is due after so many bytes that are passed over
unfoldable pub items_behind : ℕ → ℕ → List ℕ → List Item
items_behind place zero [] = Err (Short place) ∷ []
items_behind place (suc skipped) [] = []
items_behind place zero (byte ∷ bytes) =
    item_before (layout_fault place (byte ∷ bytes)) (context_at place (byte ∷ bytes)) (next_of (byte ∷ bytes))
    (items_behind (place + next_of (byte ∷ bytes)) (next_of (byte ∷ bytes) - 1) bytes)
items_behind place (suc skipped) (byte ∷ bytes) = items_behind place skipped bytes

-- the items after a context: none where its Next is 0
abbrev pub items_after : ℕ → ℕ → List ℕ → List Item
items_after place next bytes = if next == 0 then [] else items_behind (place + next) 0 (drop next bytes)

-- the items of a whole text
abbrev pub items_of : List ℕ → List Item
items_of [] = []
items_of (byte ∷ bytes) = items_behind 0 0 (byte ∷ bytes)
