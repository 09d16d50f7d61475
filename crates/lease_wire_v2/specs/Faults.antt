-- Why a text holds no create contexts of either version: the first fault in its order, and where (own: the order of the tests,
-- and
-- one fault for the whole text).
use Rattle.std.specs.Prelude.{◌≡◌, ◌≢◌, ℕ, Bool, true, false, if◌then◌else◌, List, [], ◌++◌, length, Option, Some, None}
use Rattle.std.specs.List.{concat}
use Rattle.lease_wire.specs.Chain.{ContextView, AreLinked}
use Rattle.lease_wire.specs.Reading.{layout_fault, context_at}
use Rattle.lease_wire.specs.declared.create.Direction.{Direction}
use Rattle.lease_wire.specs.declared.fault.WireFault.{WireFault}
use Rattle.lease_wire.specs.declared.fault.WireFault.TheVariants.{BadLength, Twice}
use Rattle.lease_wire_v2.specs.Names.{Meaning, CreateView, DurableView, ReconnectView, HaveValue, meaning_of, goes_with}
use Rattle.lease_wire_v2.specs.Names.DurableView.{First}
use Rattle.lease_wire_v2.specs.Names.ReconnectView.{FirstId, SecondId}
use Rattle.lease_wire_v2.specs.Names.Meaning.{Unknown, WrongLength, Lease, Durable, Reconnect}
use Rattle.lease_wire_v2.specs.declared.fault.CreateFault.{CreateFault}
use Rattle.lease_wire_v2.specs.declared.fault.CreateFault.TheVariants.{Wire, Excluded}

-- contexts of one version have one name
abbrev pub is_of_one_name : DurableView → DurableView → Bool
is_of_one_name First First = true
is_of_one_name First other = false
is_of_one_name other First = false
is_of_one_name one other = true

abbrev pub reconnects_of_one_name : ReconnectView → ReconnectView → Bool
reconnects_of_one_name (FirstId one) (FirstId other) = true
reconnects_of_one_name (SecondId one) (SecondId other) = true
reconnects_of_one_name one other = false

-- a context of the same name, or one that excludes it, stood before
abbrev pub again : Bool → ℕ → CreateFault
again named place = if named then Wire (Twice place) else Excluded place

-- the fault of a lease context: two of them are never held, of whatever versions
abbrev pub lease_fault : {X : Type 0} → ℕ → Option X → Option CreateFault
lease_fault place None = None
lease_fault place (Some lease) = Some (Wire (Twice place))

-- the fault of a durable context after another one, or after a reconnect
abbrev pub durable_fault : ℕ → DurableView → Option DurableView → Option ReconnectView → Option CreateFault
durable_fault place durable (Some other) reconnect = Some (again (is_of_one_name durable other) place)
durable_fault place durable None (Some reconnect) = if goes_with durable reconnect then None else Some (Excluded place)
durable_fault place durable None None = None

-- the fault of a reconnect after another one, or after a durable context
abbrev pub reconnect_fault : ℕ → ReconnectView → Option ReconnectView → Option DurableView → Option CreateFault
reconnect_fault place reconnect (Some other) durable = Some (again (reconnects_of_one_name reconnect other) place)
reconnect_fault place reconnect None (Some durable) = if goes_with durable reconnect then None else Some (Excluded place)
reconnect_fault place reconnect None None = None

-- the rule of names that a context breaks after others, which have a value
abbrev pub meaning_fault : CreateView → ℕ → Meaning → Option CreateFault
meaning_fault v place Unknown = None
meaning_fault v place WrongLength = Some (Wire (BadLength place))
meaning_fault v place (Lease lease) = lease_fault place v.lease
meaning_fault v place (Durable durable) = durable_fault place durable v.durable v.reconnect
meaning_fault v place (Reconnect reconnect) = reconnect_fault place reconnect v.reconnect v.durable

-- a fault of the layout, or else another one
abbrev pub wire_or : Option WireFault → Option CreateFault → Option CreateFault
wire_or (Some fault) other = Some (Wire fault)
wire_or None other = other

-- the first test that the context at a place fails, after others of a value
abbrev pub first_fault : Direction → CreateView → ℕ → List ℕ → Option CreateFault
first_fault direction v place bytes =
    wire_or (layout_fault place bytes) (meaning_fault v place (meaning_of direction (context_at place bytes)))

-- The pieces before the fault lead on, and have a value; what is left begins with the fault.
pub record IsFaultBehind (direction : Direction) (text : List ℕ) (fault : CreateFault)
    (pieces : List (List ℕ)) (contexts : List ContextView) (rest : List ℕ) (v : CreateView) : Type 0 where
  pub whole : concat pieces ++ rest ≡ text
  pub linked : AreLinked 0 pieces contexts
  pub named : HaveValue direction contexts v
  pub first : first_fault direction v (length (concat pieces)) rest ≡ Some fault

-- the text's fault; no bytes at all have none
abbrev pub IsFaultOf : Direction → List ℕ → CreateFault → Type 0
IsFaultOf direction text fault =
    (text ≢ []) × ((pieces : List (List ℕ)) × (contexts : List ContextView) × (rest : List ℕ) × (v : CreateView)
    × IsFaultBehind direction text fault pieces contexts rest v)
