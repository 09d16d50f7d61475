-- A text of create contexts with one more context after its others (MS-SMB2 2.2.13.2).
use Rattle.std.specs.Prelude.{ℕ, ◌+◌, ◌-◌, ◌^◌, ◌%◌, ◌++◌, ◌&&◌, ◌==◌, nat_lt, Bool, if◌then◌else◌, List, [], ◌∷◌, length, take}
use Rattle.std.specs.Prelude.{drop, replicate, Option, Some, None, Ok, Err}
use Rattle.byteorder.specs.Endian.{little_bytes}
use Rattle.lease_wire.specs.Reading.{Item, items_of}

-- how many bytes are missing to a multiple of 8
abbrev pub gap : ℕ → ℕ
gap count = (8 - count % 8) % 8

-- where a context's data begin in it, after its header and a name of this length
abbrev pub data_place : ℕ → ℕ
data_place name_length = 16 + name_length + gap name_length

-- a context's header: Next 0, NameOffset 16, NameLength, Reserved 0, DataOffset, which is 0 where there
-- are no data, and DataLength
abbrev pub header_bytes : ℕ → ℕ → List ℕ
header_bytes name_length data_length =
    little_bytes 4 0 ++ (little_bytes 2 16 ++ (little_bytes 2 name_length ++ (little_bytes 2 0
    ++ (little_bytes 2 (if data_length == 0 then 0 else data_place name_length) ++ little_bytes 4 data_length))))

-- the context: its header, its name, zeros up to a multiple of 8, and its data
abbrev pub context_bytes : List ℕ → List ℕ → List ℕ
context_bytes name body =
    header_bytes (length name) (length body) ++ (name ++ (replicate (gap (length name)) 0 ++ body))

-- where the last of these contexts begins; the place given, where there are none; None where a fault ends them
abbrev pub last_among : ℕ → List Item → Option ℕ
last_among place [] = Some place
last_among place (Err fault ∷ items) = None
last_among place (Ok context ∷ items) = last_among context.place items

-- where the last context of the text begins; 0 in a text of no bytes; None where the text has a fault
abbrev pub last_of : List ℕ → Option ℕ
last_of text = last_among 0 (items_of text)

-- where one more context of a text of this length begins: at the next multiple of 8
abbrev pub next_place : ℕ → ℕ
next_place count = count + gap count

-- the distance from the last context, DataOffset and DataLength fit into their fields
abbrev pub fits : ℕ → ℕ → ℕ → Bool
fits distance name_length data_length =
    nat_lt distance (2 ^ 32) && nat_lt (data_place name_length) (2 ^ 16) && nat_lt data_length (2 ^ 32)

-- where the text ends that had so many bytes and gets one more context
abbrev pub appended_end : ℕ → ℕ → ℕ → ℕ
appended_end count name_length data_length = next_place count + (data_place name_length + data_length)

-- the same for a text whose last context begins at a place; 0 where the text has a fault, or a field would overflow
abbrev pub appended_length : Option ℕ → ℕ → ℕ → ℕ → ℕ
appended_length None count name_length data_length = 0
appended_length (Some last) count name_length data_length =
    if fits (next_place count - last) name_length data_length then appended_end count name_length data_length else 0

-- the bytes with a part of them replaced, from a place on
abbrev pub put : ℕ → List ℕ → List ℕ → List ℕ
put place part bytes = take place bytes ++ (part ++ drop (place + length part) bytes)

-- a room that begins with a text of so many bytes: Next of its last context leads to one more, and that
-- one comes after the text, with zeros before it
abbrev pub appended : ℕ → ℕ → List ℕ → List ℕ → List ℕ → List ℕ
appended count last name body room =
    put count (replicate (gap count) 0 ++ context_bytes name body) (put last (little_bytes 4 (next_place count - last)) room)
