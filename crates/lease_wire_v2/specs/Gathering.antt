-- The value or the fault of a text as a function of its items, for callers to compute with.
use Rattle.std.specs.Prelude.{◌≡◌, ◌↔◌, ℕ, List, [], ◌∷◌, Option, Some, None, Result, Ok, Err}
use Rattle.lease_wire.specs.Reading.{Item, items_of}
use Rattle.lease_wire.specs.declared.create.Direction.{Direction}
use Rattle.lease_wire_v2.specs.Names.{Meaning, CreateView, HoldsValue, meaning_of}
use Rattle.lease_wire_v2.specs.Names.Meaning.{Unknown, WrongLength, Lease, Durable, Reconnect}
use Rattle.lease_wire_v2.specs.Faults.{meaning_fault, IsFaultOf}
use Rattle.lease_wire_v2.specs.declared.fault.CreateFault.{CreateFault}
use Rattle.lease_wire_v2.specs.declared.fault.CreateFault.TheVariants.{Wire}

abbrev pub no_values : CreateView
no_values = record { lease = None; durable = None; reconnect = None }

-- the value with what one more context says
abbrev pub added : CreateView → Meaning → CreateView
added v Unknown = v
added v WrongLength = v
added v (Lease lease) = record v { lease = Some lease }
added v (Durable durable) = record v { durable = Some durable }
added v (Reconnect reconnect) = record v { reconnect = Some reconnect }

-- the same, where the context breaks no rule
abbrev pub unless : Option CreateFault → CreateView → Result CreateView CreateFault
unless (Some fault) v = Err fault
unless None v = Ok v

abbrev pub with_meaning : CreateView → ℕ → Meaning → Result CreateView CreateFault
with_meaning v place meaning = unless (meaning_fault v place meaning) (added v meaning)

-- a fault ends the reading, a value is carried on
abbrev pub carried : Result CreateView CreateFault → (CreateView → Result CreateView CreateFault) → Result CreateView CreateFault
carried (Ok v) further = further v
carried (Err fault) further = Err fault

-- the value after a value, of the items that are left: the first fault ends it
unfoldable pub gathered : Direction → CreateView → List Item → Result CreateView CreateFault
gathered direction v [] = Ok v
gathered direction v (Err fault ∷ items) = Err (Wire fault)
gathered direction v (Ok context ∷ items) =
    carried (with_meaning v context.place (meaning_of direction context)) (λ further. gathered direction further items)

-- what a text's contexts ask for or grant, or its fault
abbrev pub value_of : Direction → List ℕ → Result CreateView CreateFault
value_of direction text = gathered direction no_values (items_of text)

-- The answer of a reader is right for a text: it gives a value exactly where the text holds it, and a fault exactly where it is
-- the text's.
pub record IsReadingOf (direction : Direction) (text : List ℕ) (answer : Result CreateView CreateFault) : Type 0 where
  pub value : (v : CreateView) → (answer ≡ Ok v) ↔ HoldsValue direction text v
  pub fault : (fault : CreateFault) → (answer ≡ Err fault) ↔ IsFaultOf direction text fault

-- the function that callers compute with is right for every text
abbrev pub ValueIsRead : Type 0
ValueIsRead = (direction : Direction) (text : List ℕ) → IsReadingOf direction text (value_of direction text)
