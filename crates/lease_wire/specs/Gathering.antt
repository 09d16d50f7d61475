-- The value or the fault of a text as a function of its items, for callers to compute with.
use Rattle.std.specs.Prelude.{ℕ, Bool, true, false, List, [], ◌∷◌, Option, Some, None, Result, Ok, Err}
use Rattle.lease_wire.specs.Names.{Meaning, LeaseView, CreateView, meaning_of}
use Rattle.lease_wire.specs.Names.Meaning.{Unknown, WrongLength, Lease, Durable, Reconnect}
use Rattle.lease_wire.specs.Reading.{Item, items_of}
use Rattle.lease_wire.specs.declared.create.Direction.{Direction}
use Rattle.lease_wire.specs.declared.fault.WireFault.{WireFault}
use Rattle.lease_wire.specs.declared.fault.WireFault.TheVariants.{BadLength, Twice}

abbrev pub no_values : CreateView
no_values = record { lease = None; durable = false; reconnect = None }

abbrev pub with_lease : CreateView → ℕ → LeaseView → Option LeaseView → Result CreateView WireFault
with_lease v place lease None = Ok (record v { lease = Some lease })
with_lease v place lease (Some other) = Err (Twice place)

abbrev pub with_durable : CreateView → ℕ → Bool → Result CreateView WireFault
with_durable v place false = Ok (record v { durable = true })
with_durable v place true = Err (Twice place)

abbrev pub with_reconnect : CreateView → ℕ → ℕ → Option ℕ → Result CreateView WireFault
with_reconnect v place file_id None = Ok (record v { reconnect = Some file_id })
with_reconnect v place file_id (Some other) = Err (Twice place)

-- the value with what one more context means
abbrev pub with_meaning : CreateView → ℕ → Meaning → Result CreateView WireFault
with_meaning v place Unknown = Ok v
with_meaning v place WrongLength = Err (BadLength place)
with_meaning v place (Lease lease) = with_lease v place lease v.lease
with_meaning v place Durable = with_durable v place v.durable
with_meaning v place (Reconnect file_id) = with_reconnect v place file_id v.reconnect

-- a fault ends the reading, a value is carried on
abbrev pub carried : Result CreateView WireFault → (CreateView → Result CreateView WireFault) → Result CreateView WireFault
carried (Ok v) further = further v
carried (Err fault) further = Err fault

-- the value after a value, of the items that are left: the first fault ends it
unfoldable pub gathered : Direction → CreateView → List Item → Result CreateView WireFault
gathered direction v [] = Ok v
gathered direction v (Err fault ∷ items) = Err fault
gathered direction v (Ok context ∷ items) =
    carried (with_meaning v context.place (meaning_of direction context)) (λ further. gathered direction further items)

-- what a text's contexts ask for or grant, or its fault
abbrev pub value_of : Direction → List ℕ → Result CreateView WireFault
value_of direction text = gathered direction no_values (items_of text)
