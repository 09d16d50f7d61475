-- One more context: what it adds to the value of those before it, or the rule of names that it breaks.
use Rattle.std.proofs.Common.{◌≡◌, ℕ, Bool, true, false, if◌then◌else◌, List, [], ◌∷◌, ◌++◌, Option, Some, None, Result, Ok, Err}
use Rattle.std.proofs.Common.{option_to_list, refl, sym, ◌∙◌, ap, arith}
use Rattle.std.specs.List.{cons_option}
use Rattle.std.proofs.lemmas.List.{append-nil}
use Rattle.std.proofs.lemmas.List.Elements.{filter_map-append}
use Rattle.lease_wire.specs.Chain.{ContextView}
use Rattle.lease_wire.specs.Names.{Meaning, LeaseView, CreateView, HaveValue, meaning_of, values_of_kind, lease_in, durable_in}
use Rattle.lease_wire.specs.Names.{reconnect_in, wrong_length_in}
use Rattle.lease_wire.specs.Names.Meaning.{Unknown, WrongLength, Lease, Durable, Reconnect}
use Rattle.lease_wire.specs.Faults.{meaning_fault}
use Rattle.lease_wire.specs.Gathering.{with_meaning, with_lease, with_durable, with_reconnect, no_values}
use Rattle.lease_wire.specs.declared.create.Direction.{Direction}
use Rattle.lease_wire.specs.declared.fault.WireFault.{WireFault}

pub value_of_nothing : (direction : Direction) → HaveValue direction [] no_values
value_of_nothing direction = record { lengths = refl; lease = refl; durable = refl; reconnect = refl }

-- what is said behind one more context
values_of_kind-more : {X : Type 0} (direction : Direction) (part : Meaning → Option X) (before : List ContextView)
    (context : ContextView) (meaning : Meaning) (behind : List ContextView) → meaning_of direction context ≡ meaning
    → values_of_kind direction part (before ++ context ∷ behind)
    ≡ values_of_kind direction part before ++ cons_option (part meaning) (values_of_kind direction part behind)
values_of_kind-more direction part before context meaning behind is = rw (filter_map-append, is) refl

abbrev pub fault_in : Result CreateView WireFault → Option WireFault
fault_in (Ok v) = None
fault_in (Err fault) = Some fault

-- a value with one more meaning
abbrev pub Adds : Direction → List ContextView → ContextView → Result CreateView WireFault → Type 0
Adds direction before context (Ok v) = HaveValue direction (before ++ context ∷ []) v
Adds direction before context (Err fault) = Unit {0}

not_empty : {X : Type 0} (xs : List X) (y : X) (ys : List X) → xs ++ y ∷ ys ≡ [] → ⊥
not_empty [] y ys e = cc
not_empty (x ∷ xs) y ys e = cc

alone_of : {X : Type 0} (xs : List X) (y z : X) (ys : List X) → xs ++ y ∷ ys ≡ z ∷ [] → xs ≡ []
alone_of [] y z ys e = refl
alone_of (x ∷ xs) y z ys e = let none : xs ++ y ∷ ys ≡ [] = cc in absurd (not_empty xs y ys none)

alone : {X : Type 0} (xs : List X) (y : X) (ys : List X) (held : Option X) → xs ++ y ∷ ys ≡ option_to_list held → xs ≡ []
alone xs y ys None e = absurd (not_empty xs y ys e)
alone xs y ys (Some z) e = alone_of xs y z ys e

alone_if : (xs : List Bool) (y : Bool) (ys : List Bool) (held : Bool) → xs ++ y ∷ ys ≡ (if held then true ∷ [] else []) → xs ≡ []
alone_if xs y ys false e = absurd (not_empty xs y ys e)
alone_if xs y ys true e = alone_of xs y true ys e

-- contexts have one value
pub one_value : (direction : Direction) (contexts : List ContextView) (v w : CreateView) → HaveValue direction contexts v
    → HaveValue direction contexts w → v ≡ w
one_value direction contexts v w first second = grind arith

module _ (direction : Direction) (before : List ContextView) (v : CreateView) (have : HaveValue direction before v)
    (context : ContextView) where
  same : {X : Type 0} (part : Meaning → Option X) (meaning : Meaning) → meaning_of direction context ≡ meaning
      → part meaning ≡ None → values_of_kind direction part (before ++ context ∷ []) ≡ values_of_kind direction part before
  same part meaning is none = values_of_kind-more direction part before context meaning [] is
      ∙ rw none (append-nil (values_of_kind direction part before))

  other : {X : Type 0} (part : Meaning → Option X) (meaning : Meaning) (y : X) → meaning_of direction context ≡ meaning
      → part meaning ≡ Some y → values_of_kind direction part before ≡ []
      → values_of_kind direction part (before ++ context ∷ []) ≡ y ∷ []
  other part meaning y is some none = values_of_kind-more direction part before context meaning [] is ∙ rw (some, none) refl

  adds_lease : (lease : LeaseView) (held : Option LeaseView) → v.lease ≡ held → meaning_of direction context ≡ Lease lease
      → Adds direction before context (with_lease v context.place lease held)
  adds_lease lease (Some held) is_held is = tt
  adds_lease lease None is_held is = record {
    lengths = same wrong_length_in (Lease lease) is refl ∙ have.lengths;
    lease = other lease_in (Lease lease) lease is refl (have.lease ∙ ap option_to_list is_held);
    durable = same durable_in (Lease lease) is refl ∙ have.durable;
    reconnect = same reconnect_in (Lease lease) is refl ∙ have.reconnect;
  }

  adds_durable : (held : Bool) → v.durable ≡ held → meaning_of direction context ≡ Durable
      → Adds direction before context (with_durable v context.place held)
  adds_durable true is_held is = tt
  adds_durable false is_held is = record {
    lengths = same wrong_length_in Durable is refl ∙ have.lengths;
    lease = same lease_in Durable is refl ∙ have.lease;
    durable = other durable_in Durable true is refl (have.durable ∙ ap (λ b. if b then true ∷ [] else []) is_held);
    reconnect = same reconnect_in Durable is refl ∙ have.reconnect;
  }

  adds_reconnect : (file_id : ℕ) (held : Option ℕ) → v.reconnect ≡ held → meaning_of direction context ≡ Reconnect file_id
      → Adds direction before context (with_reconnect v context.place file_id held)
  adds_reconnect file_id (Some held) is_held is = tt
  adds_reconnect file_id None is_held is = record {
    lengths = same wrong_length_in (Reconnect file_id) is refl ∙ have.lengths;
    lease = same lease_in (Reconnect file_id) is refl ∙ have.lease;
    durable = same durable_in (Reconnect file_id) is refl ∙ have.durable;
    reconnect = other reconnect_in (Reconnect file_id) file_id is refl (have.reconnect ∙ ap option_to_list is_held);
  }

  pub adds : (meaning : Meaning) → meaning_of direction context ≡ meaning
      → Adds direction before context (with_meaning v context.place meaning)
  adds Unknown is = record {
    lengths = same wrong_length_in Unknown is refl ∙ have.lengths;
    lease = same lease_in Unknown is refl ∙ have.lease;
    durable = same durable_in Unknown is refl ∙ have.durable;
    reconnect = same reconnect_in Unknown is refl ∙ have.reconnect;
  }
  adds WrongLength is = tt
  adds (Lease lease) is = adds_lease lease v.lease refl is
  adds Durable is = adds_durable v.durable refl is
  adds (Reconnect file_id) is = adds_reconnect file_id v.reconnect refl is

  -- the fault that stops the gathering is the rule that is broken
  pub faults : (place : ℕ) (meaning : Meaning)
      → fault_in (with_meaning v place meaning) ≡ meaning_fault direction before place meaning
  faults place meaning = grind arith

  -- where a value is had with this context and others behind it, the context breaks no rule
  pub passes : (w : CreateView) (behind : List ContextView) → HaveValue direction (before ++ context ∷ behind) w
      → (place : ℕ) (meaning : Meaning) → meaning_of direction context ≡ meaning
      → meaning_fault direction before place meaning ≡ None
  passes w behind whole place Unknown is = refl
  passes w behind whole place WrongLength is =
      let some = values_of_kind-more direction wrong_length_in before context WrongLength behind is in
      let none = sym some ∙ whole.lengths in
      absurd (not_empty (values_of_kind direction wrong_length_in before) true _ none)
  passes w behind whole place (Lease lease) is =
      let some = values_of_kind-more direction lease_in before context (Lease lease) behind is in
      let none = alone (values_of_kind direction lease_in before) lease _ w.lease (sym some ∙ whole.lease) in
      rw none refl
  passes w behind whole place Durable is =
      let some = values_of_kind-more direction durable_in before context Durable behind is in
      let none = alone_if (values_of_kind direction durable_in before) true _ w.durable (sym some ∙ whole.durable) in
      rw none refl
  passes w behind whole place (Reconnect file_id) is =
      let some = values_of_kind-more direction reconnect_in before context (Reconnect file_id) behind is in
      let none = alone (values_of_kind direction reconnect_in before) file_id _ w.reconnect (sym some ∙ whole.reconnect) in
      rw none refl
