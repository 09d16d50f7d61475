-- One more context: what it adds to the value of those before it, or the rule of names that it breaks.
use Rattle.std.proofs.Common.{◌≡◌, ℕ, Bool, true, false, if◌then◌else◌, List, [], ◌∷◌, ◌++◌, Option, Some, None}
use Rattle.std.proofs.Common.{option_to_list, refl, sym, ◌∙◌, ap}
use Rattle.std.specs.List.{cons_option}
use Rattle.std.proofs.lemmas.List.{append-nil}
use Rattle.std.proofs.lemmas.List.Elements.{filter_map-append}
use Rattle.lease_wire.specs.Chain.{ContextView}
use Rattle.lease_wire.specs.declared.create.Direction.{Direction}
use Rattle.lease_wire_v2.specs.Names.{Meaning, LeaseView, DurableView, ReconnectView, CreateView, HaveValue, meaning_of}
use Rattle.lease_wire_v2.specs.Names.{values_of_kind, lease_part, durable_part, reconnect_part, wrong_part, goes_with, go_together}
use Rattle.lease_wire_v2.specs.Names.Meaning.{Unknown, WrongLength, Lease, Durable, Reconnect}
use Rattle.lease_wire_v2.specs.Faults.{meaning_fault, lease_fault, durable_fault, reconnect_fault}
use Rattle.lease_wire_v2.specs.Gathering.{added, no_values}
use Rattle.lease_wire_v2.specs.declared.fault.CreateFault.{CreateFault}
use Rattle.lease_wire_v2.specs.declared.fault.CreateFault.TheVariants.{Excluded}

pub value_of_nothing : (direction : Direction) → HaveValue direction [] no_values
value_of_nothing direction = record { lengths = refl; lease = refl; durable = refl; reconnect = refl; together = refl }

-- what is said behind one more context
values_of_kind-more : {X : Type 0} (direction : Direction) (part : Meaning → Option X) (before : List ContextView)
    (context : ContextView) (meaning : Meaning) (behind : List ContextView) → meaning_of direction context ≡ meaning
    → values_of_kind direction part (before ++ context ∷ behind)
    ≡ values_of_kind direction part before ++ cons_option (part meaning) (values_of_kind direction part behind)
values_of_kind-more direction part before context meaning behind is = rw (filter_map-append, is) refl

not_empty : {X : Type 0} (xs : List X) (y : X) (ys : List X) → xs ++ y ∷ ys ≡ [] → ⊥
not_empty [] y ys e = cc
not_empty (x ∷ xs) y ys e = cc

-- one of a kind is all of it
alone : {X : Type 0} (xs : List X) (y : X) (ys : List X) (held : Option X) → xs ++ y ∷ ys ≡ option_to_list held → xs ≡ []
alone xs y ys None e = absurd (not_empty xs y ys e)
alone [] y ys (Some z) e = refl
alone (x ∷ xs) y ys (Some z) e = let none : xs ++ y ∷ ys ≡ [] = cc in absurd (not_empty xs y ys none)

first_held : {X : Type 0} (y : X) (ys : List X) (held : Option X) → y ∷ ys ≡ option_to_list held → held ≡ Some y
first_held y ys None e = cc
first_held y ys (Some z) e = cc

none_held : {X : Type 0} (held : Option X) → option_to_list held ≡ [] → held ≡ None
none_held None e = refl
none_held (Some x) e = cc

same_option : {X : Type 0} (a b : Option X) → option_to_list a ≡ option_to_list b → a ≡ b
same_option None None e = refl
same_option None (Some y) e = cc
same_option (Some x) None e = cc
same_option (Some x) (Some y) e = cc

same_value : (a a' : Option LeaseView) (b b' : Option DurableView) (c c' : Option ReconnectView) → a ≡ a' → b ≡ b' → c ≡ c'
    → ◌≡◌ {A = CreateView} (record { lease = a; durable = b; reconnect = c })
    (record { lease = a'; durable = b'; reconnect = c' })
same_value a a' b b' c c' ea eb ec = rw (ea, eb, ec) refl

-- contexts have one value
pub one_value : (direction : Direction) (contexts : List ContextView) (v w : CreateView) → HaveValue direction contexts v
    → HaveValue direction contexts w → v ≡ w
one_value direction contexts v w first second = same_value _ _ _ _ _ _
    (same_option v.lease w.lease (sym first.lease ∙ second.lease))
    (same_option v.durable w.durable (sym first.durable ∙ second.durable))
    (same_option v.reconnect w.reconnect (sym first.reconnect ∙ second.reconnect))

-- what a test that was passed says
no_lease : {X : Type 0} (place : ℕ) (held : Option X) → lease_fault place held ≡ None → held ≡ None
no_lease place None e = refl
no_lease place (Some x) e = cc

allowed : (b : Bool) (place : ℕ) → ◌≡◌ {A = Option CreateFault} (if b then None else Some (Excluded place)) None → b ≡ true
allowed true place e = refl
allowed false place e = cc

no_durable : (place : ℕ) (durable : DurableView) (held : Option DurableView) (reconnect : Option ReconnectView)
    → durable_fault place durable held reconnect ≡ None → held ≡ None
no_durable place durable None reconnect e = refl
no_durable place durable (Some other) reconnect e = cc

durable_together : (place : ℕ) (durable : DurableView) (held : Option DurableView) (reconnect : Option ReconnectView)
    → durable_fault place durable held reconnect ≡ None → go_together (Some durable) reconnect ≡ true
durable_together place durable (Some other) reconnect e = cc
durable_together place durable None None e = refl
durable_together place durable None (Some reconnect) e = allowed (goes_with durable reconnect) place e

no_reconnect : (place : ℕ) (reconnect : ReconnectView) (held : Option ReconnectView) (durable : Option DurableView)
    → reconnect_fault place reconnect held durable ≡ None → held ≡ None
no_reconnect place reconnect None durable e = refl
no_reconnect place reconnect (Some other) durable e = cc

reconnect_together : (place : ℕ) (reconnect : ReconnectView) (held : Option ReconnectView) (durable : Option DurableView)
    → reconnect_fault place reconnect held durable ≡ None → go_together durable (Some reconnect) ≡ true
reconnect_together place reconnect (Some other) durable e = cc
reconnect_together place reconnect None None e = refl
reconnect_together place reconnect None (Some durable) e = allowed (goes_with durable reconnect) place e

-- and the tests that are passed
passes_durable : (place : ℕ) (durable : DurableView) (held : Option DurableView) (reconnect : Option ReconnectView)
    → held ≡ None → go_together (Some durable) reconnect ≡ true → durable_fault place durable held reconnect ≡ None
passes_durable place durable held None none together = rw none refl
passes_durable place durable held (Some reconnect) none together = rw (none, together) refl

passes_reconnect : (place : ℕ) (reconnect : ReconnectView) (held : Option ReconnectView) (durable : Option DurableView)
    → held ≡ None → go_together durable (Some reconnect) ≡ true → reconnect_fault place reconnect held durable ≡ None
passes_reconnect place reconnect held None none together = rw none refl
passes_reconnect place reconnect held (Some durable) none together = rw (none, together) refl

-- what goes together goes together where less is held
less_reconnect : (durable : DurableView) (held : Option ReconnectView) (all : Option ReconnectView)
    → ((reconnect : ReconnectView) → held ≡ Some reconnect → all ≡ Some reconnect)
    → go_together (Some durable) all ≡ true → go_together (Some durable) held ≡ true
less_reconnect durable None all more together = refl
less_reconnect durable (Some reconnect) all more together = rw (more reconnect refl) at together

less_durable : (reconnect : ReconnectView) (held : Option DurableView) (all : Option DurableView)
    → ((durable : DurableView) → held ≡ Some durable → all ≡ Some durable)
    → go_together all (Some reconnect) ≡ true → go_together held (Some reconnect) ≡ true
less_durable reconnect None all more together = refl
less_durable reconnect (Some durable) all more together = rw (more durable refl) at together

module _ (direction : Direction) (before : List ContextView) (v : CreateView) (have : HaveValue direction before v)
    (context : ContextView) where
  same : {X : Type 0} (part : Meaning → Option X) (meaning : Meaning) → meaning_of direction context ≡ meaning
      → part meaning ≡ None → values_of_kind direction part (before ++ context ∷ []) ≡ values_of_kind direction part before
  same part meaning is none = values_of_kind-more direction part before context meaning [] is
      ∙ rw none (append-nil (values_of_kind direction part before))

  other : {X : Type 0} (part : Meaning → Option X) (meaning : Meaning) (y : X) → meaning_of direction context ≡ meaning
      → part meaning ≡ Some y → values_of_kind direction part before ≡ []
      → values_of_kind direction part (before ++ context ∷ []) ≡ y ∷ []
  other part meaning y is some none = values_of_kind-more direction part before context meaning [] is ∙ rw (some, none) refl

  -- a context that breaks no rule adds to the value
  pub adds : (place : ℕ) (meaning : Meaning) → meaning_of direction context ≡ meaning → meaning_fault v place meaning ≡ None
      → HaveValue direction (before ++ context ∷ []) (added v meaning)
  adds place Unknown is none = record {
    lengths = same wrong_part Unknown is refl ∙ have.lengths;
    lease = same lease_part Unknown is refl ∙ have.lease;
    durable = same durable_part Unknown is refl ∙ have.durable;
    reconnect = same reconnect_part Unknown is refl ∙ have.reconnect;
    together = have.together;
  }
  adds place WrongLength is none = cc none
  adds place (Lease lease) is none = record {
    lengths = same wrong_part (Lease lease) is refl ∙ have.lengths;
    lease = other lease_part (Lease lease) lease is refl (have.lease ∙ ap option_to_list (no_lease place v.lease none));
    durable = same durable_part (Lease lease) is refl ∙ have.durable;
    reconnect = same reconnect_part (Lease lease) is refl ∙ have.reconnect;
    together = have.together;
  }
  adds place (Durable durable) is none = record {
    lengths = same wrong_part (Durable durable) is refl ∙ have.lengths;
    lease = same lease_part (Durable durable) is refl ∙ have.lease;
    durable = other durable_part (Durable durable) durable is refl
        (have.durable ∙ ap option_to_list (no_durable place durable v.durable v.reconnect none));
    reconnect = same reconnect_part (Durable durable) is refl ∙ have.reconnect;
    together = durable_together place durable v.durable v.reconnect none;
  }
  adds place (Reconnect reconnect) is none = record {
    lengths = same wrong_part (Reconnect reconnect) is refl ∙ have.lengths;
    lease = same lease_part (Reconnect reconnect) is refl ∙ have.lease;
    durable = same durable_part (Reconnect reconnect) is refl ∙ have.durable;
    reconnect = other reconnect_part (Reconnect reconnect) reconnect is refl
        (have.reconnect ∙ ap option_to_list (no_reconnect place reconnect v.reconnect v.durable none));
    together = reconnect_together place reconnect v.reconnect v.durable none;
  }

  -- what was held before is held of all
  still : {X : Type 0} (part : Meaning → Option X) (x : X) (held all : Option X) (behind : List ContextView)
      → values_of_kind direction part before ≡ option_to_list held
      → values_of_kind direction part (before ++ context ∷ behind) ≡ option_to_list all → held ≡ Some x → all ≡ Some x
  still part x held all behind some whole is =
      let cut : values_of_kind direction part (before ++ context ∷ behind)
      ≡ values_of_kind direction part before ++ values_of_kind direction part (context ∷ behind) = rw filter_map-append refl in
      let first : x ∷ values_of_kind direction part (context ∷ behind)
      ≡ option_to_list all = sym (cut ∙ rw (some, is) refl) ∙ whole in
      first_held x _ all first

  -- one of this context's kind is not held before it
  free : {X : Type 0} (part : Meaning → Option X) (meaning : Meaning) (x : X) (held all : Option X) (behind : List ContextView)
      → meaning_of direction context ≡ meaning → part meaning ≡ Some x
      → values_of_kind direction part before ≡ option_to_list held
      → values_of_kind direction part (before ++ context ∷ behind) ≡ option_to_list all → (held ≡ None) × (all ≡ Some x)
  free part meaning x held all behind is kind some whole =
      let more = values_of_kind-more direction part before context meaning behind is ∙ rw kind refl in
      let none = alone (values_of_kind direction part before) x _ all (sym more ∙ whole) in
      let first : values_of_kind direction part before ++ x ∷ values_of_kind direction part behind
      ≡ x ∷ values_of_kind direction part behind = rw none refl in
      (none_held held (sym some ∙ none), first_held x _ all (sym first ∙ sym more ∙ whole))

  -- where a value is had with this context and others behind it, the context breaks no rule
  pub passes : (w : CreateView) (behind : List ContextView) → HaveValue direction (before ++ context ∷ behind) w
      → (place : ℕ) (meaning : Meaning) → meaning_of direction context ≡ meaning → meaning_fault v place meaning ≡ None
  passes w behind whole place Unknown is = refl
  passes w behind whole place WrongLength is =
      let some = values_of_kind-more direction wrong_part before context WrongLength behind is in
      absurd (not_empty (values_of_kind direction wrong_part before) true _ (sym some ∙ whole.lengths))
  passes w behind whole place (Lease lease) is =
      let none = free lease_part (Lease lease) lease v.lease w.lease behind is refl have.lease whole.lease in
      rw (none.0) refl
  passes w behind whole place (Durable durable) is =
      let none = free durable_part (Durable durable) durable v.durable w.durable behind is refl have.durable whole.durable in
      let together : go_together (Some durable) w.reconnect ≡ true = rw (none.1) at whole.together in
      passes_durable place durable v.durable v.reconnect none.0 (less_reconnect durable v.reconnect w.reconnect
      (λ r held. still reconnect_part r v.reconnect w.reconnect behind have.reconnect whole.reconnect held) together)
  passes w behind whole place (Reconnect reconnect) is =
      let none = free reconnect_part (Reconnect reconnect) reconnect v.reconnect w.reconnect behind is refl have.reconnect
      whole.reconnect in
      let together : go_together w.durable (Some reconnect) ≡ true = rw (none.1) at whole.together in
      passes_reconnect place reconnect v.reconnect v.durable none.0 (less_durable reconnect v.durable w.durable
      (λ d held. still durable_part d v.durable w.durable behind have.durable whole.durable held) together)
