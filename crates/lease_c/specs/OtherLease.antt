-- The lease context of version 2 (MS-SMB2 2.2.13.2.10, 2.2.14.2.11), which has the name of the lease context and 52 bytes.
-- It isn't read, and is none of the contexts that are known.
use Rattle.std.specs.Prelude.{ℕ, Bool, false, ◌==◌, ◌&&◌, List, length, Ok, Err}
use Rattle.std.specs.List.{list_any}
use Rattle.std.specs.Str.{bytes_eq}
use Rattle.lease_wire.specs.Names.{lease_name}
use Rattle.lease_wire.specs.Reading.{Item, items_of}

abbrev pub is_other_lease : Item → Bool
is_other_lease (Ok context) = bytes_eq context.name lease_name && length context.body == 52
is_other_lease (Err fault) = false

-- one of the contexts of the text, up to its first fault
abbrev pub has_other_lease : List ℕ → Bool
has_other_lease text = list_any is_other_lease (items_of text)
