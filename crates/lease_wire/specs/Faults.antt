-- Why a text holds no create contexts: the first fault in its order, and where (own: the order of the
-- tests, and one fault for the whole text).
use Rattle.std.specs.Prelude.{◌≡◌, ◌≢◌, ℕ, List, [], ◌∷◌, ◌++◌, length, map, Option, Some, None, Ok, Err, ◌⊎◌}
use Rattle.std.specs.List.{concat}
use Rattle.lease_wire.specs.Chain.{ContextView, AreLinked, HoldsContexts}
use Rattle.lease_wire.specs.Names.{Meaning, CreateView, HaveValue, meaning_of, values_of_kind, lease_in, durable_in, reconnect_in}
use Rattle.lease_wire.specs.Names.Meaning.{Unknown, WrongLength, Lease, Durable, Reconnect}
use Rattle.lease_wire.specs.Reading.{Item, items_of, layout_fault, context_at}
use Rattle.lease_wire.specs.declared.create.Direction.{Direction}
use Rattle.lease_wire.specs.declared.fault.WireFault.{WireFault}
use Rattle.lease_wire.specs.declared.fault.WireFault.TheVariants.{BadLength, Twice}

-- the fault of a context whose kind stood in an earlier one
abbrev pub twice_if : {X : Type 0} → List X → ℕ → Option WireFault
twice_if [] place = None
twice_if (x ∷ xs) place = Some (Twice place)

-- the rule of names that a context breaks after others
abbrev pub meaning_fault : Direction → List ContextView → ℕ → Meaning → Option WireFault
meaning_fault direction before place Unknown = None
meaning_fault direction before place WrongLength = Some (BadLength place)
meaning_fault direction before place (Lease lease) = twice_if (values_of_kind direction lease_in before) place
meaning_fault direction before place Durable = twice_if (values_of_kind direction durable_in before) place
meaning_fault direction before place (Reconnect file_id) = twice_if (values_of_kind direction reconnect_in before) place

-- the earlier of two tests' faults
abbrev pub option_or : Option WireFault → Option WireFault → Option WireFault
option_or (Some fault) other = Some fault
option_or None other = other

-- the first test that the context at a place fails, after others
abbrev pub first_fault : Direction → List ContextView → ℕ → List ℕ → Option WireFault
first_fault direction before place bytes =
    option_or (layout_fault place bytes)
    (meaning_fault direction before place (meaning_of direction (context_at place bytes)))

-- The pieces before the fault lead on, and break no rule; what is left begins with the fault.
pub record IsFaultBehind (direction : Direction) (text : List ℕ) (fault : WireFault)
    (pieces : List (List ℕ)) (contexts : List ContextView) (rest : List ℕ) : Type 0 where
  pub whole : concat pieces ++ rest ≡ text
  pub linked : AreLinked 0 pieces contexts
  pub named : (v : CreateView) × HaveValue direction contexts v
  pub first : first_fault direction contexts (length (concat pieces)) rest ≡ Some fault

-- the text's fault; no bytes at all have none
abbrev pub IsFaultOf : Direction → List ℕ → WireFault → Type 0
IsFaultOf direction text fault =
    (text ≢ []) × ((pieces : List (List ℕ)) × (contexts : List ContextView) × (rest : List ℕ)
    × IsFaultBehind direction text fault pieces contexts rest)

-- A reader gives all contexts of the text.
abbrev pub GivesAll : List ℕ → List Item → Type 0
GivesAll text items = (contexts : List ContextView) × HoldsContexts text contexts × (items ≡ map Ok contexts)

-- A reader gives the contexts of the pieces before the first place where a test of the layout fails, and
-- then that fault.
pub record StopsAt (text : List ℕ) (items : List Item) (fault : WireFault)
    (pieces : List (List ℕ)) (contexts : List ContextView) (rest : List ℕ) : Type 0 where
  pub some : text ≢ []
  pub whole : concat pieces ++ rest ≡ text
  pub linked : AreLinked 0 pieces contexts
  pub first : layout_fault (length (concat pieces)) rest ≡ Some fault
  pub given : items ≡ map Ok contexts ++ Err fault ∷ []

-- the items are those of the text
abbrev pub AreItemsOf : List ℕ → List Item → Type 0
AreItemsOf text items =
    GivesAll text items
    ⊎ ((fault : WireFault) × (pieces : List (List ℕ)) × (contexts : List ContextView) × (rest : List ℕ)
    × StopsAt text items fault pieces contexts rest)

-- the function that callers compute with gives the items of every text
abbrev pub ItemsAreRead : Type 0
ItemsAreRead = (text : List ℕ) → AreItemsOf text (items_of text)
