-- A reader's answer is right for every text.
use Rattle.std.proofs.Common.{◌≡◌, ℕ, List, [], ◌∷◌, length, Bool, false, if◌then◌else◌, Option, None, Result}
use Rattle.std.proofs.Common.{Ok, Err, refl, arith, zero-add, sym, ◌∙◌, ap, subst, IfSome}
use Rattle.std.specs.List.{concat}
use Rattle.lease_wire.specs.Chain.{ContextView}
use Rattle.lease_wire.specs.Reading.{Item, items_of}
use Rattle.lease_wire.specs.Names.{Meaning, CreateView, LeaseView, HaveValue, HoldsValue, meaning_of}
use Rattle.lease_wire.specs.Names.Meaning.{Lease, Reconnect}
use Rattle.lease_wire.specs.Faults.{IsFaultOf}
use Rattle.lease_wire.specs.Gathering.{gathered, value_of, no_values, with_meaning}
use Rattle.lease_wire.specs.Canonical.{IsDirected}
use Rattle.lease_wire.specs.Create.{IsReadingOf, ValueIsRead}
use Rattle.lease_wire.specs.Views.{values_of, lease_of}
use Rattle.lease_wire.specs.declared.create.reading.ContextValues.{ContextValues}
use Rattle.lease_wire.specs.declared.create.meaning.Lease as code
use Rattle.std.specs.Option.{option_map}
use Rattle.lease_wire.specs.declared.create.Direction.{Direction}
use Rattle.lease_wire.specs.declared.create.Direction.TheVariants.{Request, Reply}
use Rattle.lease_wire.specs.declared.fault.WireFault.{WireFault}
use Rattle.lease_wire.proofs.LaidText.{laid_reads, linked_reads, stops}
use Rattle.lease_wire.proofs.ReadText.{text_laid, text_faulty, carried_ok}
use Rattle.lease_wire.proofs.Values.{value_of_nothing, one_value}

value_held : (direction : Direction) (text : List ℕ) (v : CreateView) → value_of direction text ≡ Ok v
    → HoldsValue direction text v
unfolding gathered
value_held direction [] v e =
    let same : no_values ≡ v = cc in
    let P : CreateView → Type 0 = HaveValue direction [] in
    ([], refl, subst P same (value_of_nothing direction))
value_held direction (byte ∷ bytes) v e =
    let laid = text_laid (length (byte ∷ bytes)) direction 0 (byte ∷ bytes) [] no_values v (omega arith)
    (value_of_nothing direction) e in
    (laid.contexts, (laid.pieces, laid.whole, laid.laid), laid.value)

held_value : (direction : Direction) (text : List ℕ) (v : CreateView) → HoldsValue direction text v
    → value_of direction text ≡ Ok v
unfolding gathered
held_value direction [] v (contexts, none, value) =
    let same : no_values ≡ v = one_value direction [] no_values v (value_of_nothing direction) (rw none at value) in
    rw same refl
held_value direction (byte ∷ bytes) v (contexts, (pieces, whole, laid), value) =
    rw whole at (laid_reads direction 0 pieces contexts [] no_values v laid (value_of_nothing direction) value)

fault_had : (direction : Direction) (text : List ℕ) (fault : WireFault) → value_of direction text ≡ Err fault
    → IsFaultOf direction text fault
unfolding gathered
fault_had direction [] fault e = cc
fault_had direction (byte ∷ bytes) fault e =
    let faulty = text_faulty (length (byte ∷ bytes)) direction 0 (byte ∷ bytes) [] no_values fault (omega arith)
    (value_of_nothing direction) e in (
      λ none. cc,
      (
        faulty.pieces,
        faulty.contexts,
        faulty.rest,
        record {
          whole = faulty.whole;
          linked = faulty.linked;
          named = (faulty.value, faulty.named);
          first = rw (zero-add (length (concat faulty.pieces))) at faulty.first;
        },
      ),
    )

had_fault : (direction : Direction) (text : List ℕ) (fault : WireFault) → IsFaultOf direction text fault
    → value_of direction text ≡ Err fault
had_fault direction [] fault (some, faulty) = absurd (some refl)
had_fault direction (byte ∷ bytes) fault (some, (pieces, contexts, rest, is)) =
    let passed = linked_reads direction 0 pieces contexts [] rest no_values is.named.0 is.linked (value_of_nothing direction)
    is.named.1 in
    rw (is.whole, zero-add (length (concat pieces))) at passed
    ∙ stops direction contexts is.named.0 (length (concat pieces)) rest fault is.named.1 is.first

pub value_is_read : ValueIsRead
value_is_read direction text = record {
  value = λ v. (value_held direction text v, held_value direction text v);
  fault = λ fault. (fault_had direction text fault, had_fault direction text fault);
}

pub reading_by_value : (direction : Direction) (text : List ℕ) (answer : Result CreateView WireFault)
    → answer ≡ value_of direction text → IsReadingOf direction text answer
reading_by_value direction text answer e =
    let P : Result CreateView WireFault → Type 0 = IsReadingOf direction text in
    subst P (sym e) (value_is_read direction text)

-- a request's meaning tells of no break in progress, a response's is no reconnect
abbrev MeansDirected : Direction → Meaning → Type 0
MeansDirected Request (Lease lease) = lease.breaking ≡ false
MeansDirected Reply (Reconnect file_id) = ⊥
MeansDirected _ _ = Unit {0}

if_either : {X : Type 0} (P : X → Type 0) (b : Bool) (x y : X) → P x → P y → P (if b then x else y)
if_either P b x y first second = grind arith

meaning_directed : (direction : Direction) (context : ContextView) → MeansDirected direction (meaning_of direction context)
unfolding meaning_of
meaning_directed direction context = grind arith

abbrev StaysDirected : Direction → Result CreateView WireFault → Type 0
StaysDirected direction (Ok v) = IsDirected direction v
StaysDirected direction (Err fault) = Unit {0}

with_directed : (direction : Direction) (v : CreateView) (place : ℕ) (meaning : Meaning) → IsDirected direction v
    → MeansDirected direction meaning → StaysDirected direction (with_meaning v place meaning)
with_directed direction v place meaning is means = grind arith

gathered_directed : (direction : Direction) (items : List Item) (v w : CreateView) → IsDirected direction v
    → gathered direction v items ≡ Ok w → IsDirected direction w
unfolding gathered
gathered_directed direction [] v w is e = let same : v ≡ w = cc in subst (IsDirected direction) same is
gathered_directed direction (Err fault ∷ items) v w is e = cc
gathered_directed direction (Ok context ∷ items) v w is e =
    let step = carried_ok _ _ w e in
    let P : Result CreateView WireFault → Type 0 = StaysDirected direction in
    let next : IsDirected direction step.0 = subst P step.1 (with_directed direction v context.place
    (meaning_of direction context) is (meaning_directed direction context)) in
    gathered_directed direction items step.0 w next step.2

nothing_directed : (direction : Direction) → IsDirected direction no_values
nothing_directed direction = grind arith

pub value_directed : (direction : Direction) (text : List ℕ) (v : CreateView) → value_of direction text ≡ Ok v
    → IsDirected direction v
value_directed direction text v e = gathered_directed direction (items_of text) no_values v (nothing_directed direction) e

-- the lease that a request's reader values tells of no break in progress
pub asked_is_calm : (text : List ℕ) (values : ContextValues) → Ok (values_of values) ≡ value_of Request text
    → IfSome values.lease (λ lease. lease.breaking ≡ false)
asked_is_calm text values e = calm values.lease (value_directed Request text (values_of values) (sym e))
  where
    calm : (held : Option code.Lease) → IfSome (option_map lease_of held) (λ lease. lease.breaking ≡ false)
        → IfSome held (λ lease. lease.breaking ≡ false)
    calm held is = grind arith

-- a response's reader values no reconnect
pub answered_value : (text : List ℕ) (values : ContextValues) (v : CreateView) → Ok (values_of values) ≡ value_of Reply text
    → option_map lease_of values.lease ≡ v.lease → v.durable ≡ values.durable → v.reconnect ≡ None → Ok v ≡ value_of Reply text
answered_value text values v e lease durable reconnect =
    let none : (values_of values).reconnect ≡ None = value_directed Reply text (values_of values) (sym e) in
    let same : v ≡ values_of values = same_view _ _ _ _ _ _ (sym lease) durable (reconnect ∙ sym none) in
    ap Ok same ∙ e
  where
    same_view : (a b : Option LeaseView) (c d : Bool) (e f : Option ℕ) → a ≡ b → c ≡ d → e ≡ f
        → ◌≡◌ {A = CreateView} (record { lease = a; durable = c; reconnect = e })
        (record { lease = b; durable = d; reconnect = f })
    same_view a b c d e f x y z = rw (x, y, z) refl
