-- A reader's answer is right for every text.
use Rattle.std.proofs.Common.{◌≡◌, ◌≢◌, ℕ, List, [], ◌∷◌, ◌++◌, map, length, Option, Some, None, Result, Ok, Err}
use Rattle.std.proofs.Common.{refl, zero-add, sym, ◌∙◌, ap, subst, ◌⊎◌, inl, inr}
use Rattle.std.specs.List.{concat}
use Rattle.std.proofs.lemmas.List.{append-nil, append_assoc}
use Rattle.lease_wire.specs.Chain.{ContextView, HoldsContexts, AreLinked}
use Rattle.lease_wire.specs.Reading.{Item, items_of, items_behind, layout_fault, context_at}
use Rattle.lease_wire.specs.Faults as wire
use Rattle.lease_wire.specs.declared.create.Direction.{Direction}
use Rattle.lease_wire.specs.declared.fault.WireFault.{WireFault}
use Rattle.lease_wire.proofs.ItemLaws.{items_are}
use Rattle.lease_wire.proofs.ReadText.{last_or_more}
use Rattle.lease_wire.proofs.Items.{items_behind-fault, items_behind-last, items_behind-more}
use Rattle.lease_wire_v2.specs.Names.{CreateView, HaveValue, HoldsValue, meaning_of}
use Rattle.lease_wire_v2.specs.Faults.{meaning_fault, first_fault, IsFaultOf}
use Rattle.lease_wire_v2.specs.Gathering.{gathered, added, no_values, value_of, IsReadingOf, ValueIsRead}
use Rattle.lease_wire_v2.specs.declared.fault.CreateFault.{CreateFault}
use Rattle.lease_wire_v2.specs.declared.fault.CreateFault.TheVariants.{Wire}
use Rattle.lease_wire_v2.proofs.LaidItems.{CutAt, held_items, linked_items, cut_linked, cut_held}
use Rattle.lease_wire_v2.proofs.Adding.{value_of_nothing, one_value, adds, passes}

-- one context that breaks no rule is passed
gathered-passed : (direction : Direction) (v : CreateView) (context : ContextView) (items : List Item)
    → meaning_fault v context.place (meaning_of direction context) ≡ None
    → gathered direction v (Ok context ∷ items) ≡ gathered direction (added v (meaning_of direction context)) items
unfolding gathered
gathered-passed direction v context items none = rw none refl

-- and one that breaks a rule ends the reading
gathered-broken : (direction : Direction) (v : CreateView) (context : ContextView) (items : List Item) (fault : CreateFault)
    → meaning_fault v context.place (meaning_of direction context) ≡ Some fault
    → gathered direction v (Ok context ∷ items) ≡ Err fault
unfolding gathered
gathered-broken direction v context items fault broken = rw broken refl

gathered-fault : (direction : Direction) (v : CreateView) (fault : WireFault) (items : List Item)
    → gathered direction v (Err fault ∷ items) ≡ Err (Wire fault)
unfolding gathered
gathered-fault direction v fault items = refl

gathered-end : (direction : Direction) (v : CreateView) → gathered direction v [] ≡ Ok v
unfolding gathered
gathered-end direction v = refl

-- contexts that have a value are passed with it
gathered-all : (direction : Direction) (contexts before : List ContextView) (v w : CreateView) (items : List Item)
    → HaveValue direction before v → HaveValue direction (before ++ contexts) w
    → gathered direction v (map Ok contexts ++ items) ≡ gathered direction w items
gathered-all direction [] before v w items have whole =
    let same : v ≡ w = one_value direction before v w have (rw (append-nil before) at whole) in
    rw same refl
gathered-all direction (context ∷ contexts) before v w items have whole =
    let none = passes direction before v have context w contexts whole context.place (meaning_of direction context) refl in
    let more = adds direction before v have context context.place (meaning_of direction context) refl none in
    gathered-passed direction v context (map Ok contexts ++ items) none
    ∙ gathered-all direction contexts (before ++ context ∷ []) (added v (meaning_of direction context)) w items more
    (rw append_assoc whole)

-- the first of contexts that breaks a rule
record Breaks (direction : Direction) (before contexts : List ContextView) (fault : CreateFault) : Type 0 where
  front : List ContextView
  context : ContextView
  behind : List ContextView
  value : CreateView
  whole : contexts ≡ front ++ context ∷ behind
  have : HaveValue direction (before ++ front) value
  broken : meaning_fault value context.place (meaning_of direction context) ≡ Some fault

-- contexts have a value, or one of them breaks a rule, and the gathering ends there
abbrev Tried : Direction → List ContextView → List ContextView → CreateView → List Item → Type 0
Tried direction before contexts v items =
    ((w : CreateView) × HaveValue direction (before ++ contexts) w)
    ⊎ ((fault : CreateFault) × Breaks direction before contexts fault
    × (gathered direction v (map Ok contexts ++ items) ≡ Err fault))

tried : (direction : Direction) (contexts before : List ContextView) (v : CreateView) (items : List Item)
    → HaveValue direction before v → Tried direction before contexts v items
tried direction [] before v items have = inl (v, rw (append-nil before) have)
tried direction (context ∷ contexts) before v items have =
    by_fault (meaning_fault v context.place (meaning_of direction context)) refl
    (λ none. tried direction contexts (before ++ context ∷ []) (added v (meaning_of direction context)) items
    (adds direction before v have context context.place (meaning_of direction context) refl none))
  where
    later : meaning_fault v context.place (meaning_of direction context) ≡ None
        → Tried direction (before ++ context ∷ []) contexts (added v (meaning_of direction context)) items
        → Tried direction before (context ∷ contexts) v items
    later none (inl (w, whole)) = inl (w, rw append_assoc at whole)
    later none (inr (fault, breaks, e)) = inr (
      fault,
      record {
        front = context ∷ breaks.front;
        context = breaks.context;
        behind = breaks.behind;
        value = breaks.value;
        whole = ap (λ behind. context ∷ behind) breaks.whole;
        have = rw append_assoc at breaks.have;
        broken = breaks.broken;
      },
      gathered-passed direction v context (map Ok contexts ++ items) none ∙ e,
    )

    by_fault : (answer : Option CreateFault) → meaning_fault v context.place (meaning_of direction context) ≡ answer
        → (meaning_fault v context.place (meaning_of direction context) ≡ None
        → Tried direction (before ++ context ∷ []) contexts (added v (meaning_of direction context)) items)
        → Tried direction before (context ∷ contexts) v items
    by_fault (Some fault) broken further = inr (
      fault,
      record {
        front = [];
        context = context;
        behind = contexts;
        value = v;
        whole = refl;
        have = rw (append-nil before) have;
        broken = broken;
      },
      gathered-broken direction v context (map Ok contexts ++ items) fault broken,
    )
    by_fault None none further = later none (further none)

ok_is_no_err : {V E : Type 0} (v : V) (fault : E) → ◌≡◌ {A = Result V E} (Ok v) (Err fault) → ⊥
ok_is_no_err v fault e = cc

same_ok : {V E : Type 0} (v w : V) → ◌≡◌ {A = Result V E} (Ok v) (Ok w) → v ≡ w
same_ok v w e = cc

same_err : {V E : Type 0} (one other : E) → ◌≡◌ {A = Result V E} (Err one) (Err other) → one ≡ other
same_err one other e = cc

-- contexts alone
gathered-only : (direction : Direction) (contexts : List ContextView) (v : CreateView) (answer : Result CreateView CreateFault)
    → gathered direction v (map Ok contexts ++ []) ≡ answer → gathered direction v (map Ok contexts) ≡ answer
gathered-only direction contexts v answer e = rw (append-nil {A = Item} (map Ok contexts)) at e

-- what the reader makes of all contexts
all_given : (direction : Direction) (text : List ℕ) (contexts : List ContextView) (w : CreateView)
    → items_of text ≡ map Ok contexts → HaveValue direction contexts w → value_of direction text ≡ Ok w
all_given direction text contexts w given have =
    let read = gathered-all direction contexts [] no_values w [] (value_of_nothing direction) have ∙ gathered-end direction w in
    rw given (gathered-only direction contexts no_values (Ok w) read)

-- or of one that breaks a rule
one_broken : (direction : Direction) (text : List ℕ) (contexts : List ContextView) (fault : CreateFault)
    → items_of text ≡ map Ok contexts → gathered direction no_values (map Ok contexts ++ []) ≡ Err fault
    → value_of direction text ≡ Err fault
one_broken direction text contexts fault given stopped = rw given (gathered-only direction contexts no_values (Err fault) stopped)

-- the same of a text whose layout has a fault
items_given : (direction : Direction) (text : List ℕ) (items : List Item) (answer : Result CreateView CreateFault)
    → items_of text ≡ items → gathered direction no_values items ≡ answer → value_of direction text ≡ answer
items_given direction text items answer given e = rw given e

module _ (direction : Direction) (text : List ℕ) where
  held_value : (v : CreateView) → HoldsValue direction text v → value_of direction text ≡ Ok v
  held_value v (contexts, holds, have) = all_given direction text contexts v (held_items text contexts holds) have

  value_held : (v : CreateView) → value_of direction text ≡ Ok v → HoldsValue direction text v
  value_held v e = by_items (items_are text)
    where
      by_contexts : (contexts : List ContextView) → HoldsContexts text contexts → items_of text ≡ map Ok contexts
          → Tried direction [] contexts no_values [] → HoldsValue direction text v
      by_contexts contexts holds given (inl (w, have)) =
          let same : w ≡ v = same_ok w v (sym (all_given direction text contexts w given have) ∙ e) in
          (contexts, holds, subst (HaveValue direction contexts) same have)
      by_contexts contexts holds given (inr (fault, breaks, stopped)) =
          absurd (ok_is_no_err v fault (sym e ∙ one_broken direction text contexts fault given stopped))

      by_fault : (fault : WireFault) (contexts : List ContextView) → items_of text ≡ map Ok contexts ++ Err fault ∷ []
          → Tried direction [] contexts no_values (Err fault ∷ []) → ⊥
      by_fault fault contexts given (inl (w, have)) =
          let read = gathered-all direction contexts [] no_values w (Err fault ∷ []) (value_of_nothing direction) have
          ∙ gathered-fault direction w fault [] in
          ok_is_no_err v (Wire fault) (sym e ∙ items_given direction text _ _ given read)
      by_fault fault contexts given (inr (other, breaks, stopped)) = ok_is_no_err v other
          (sym e ∙ items_given direction text _ _ given stopped)

      by_items : wire.AreItemsOf text (items_of text) → HoldsValue direction text v
      by_items (inl (contexts, holds, given)) = by_contexts contexts holds given
          (tried direction contexts [] no_values [] (value_of_nothing direction))
      by_items (inr (fault, pieces, contexts, rest, stops)) = absurd (by_fault fault contexts stops.given
          (tried direction contexts [] no_values (Err fault ∷ []) (value_of_nothing direction)))

  -- the fault of a context that breaks a rule, where the text can be cut before it
  broken_at : (fault : CreateFault) (contexts : List ContextView) (breaks : Breaks direction [] contexts fault)
      → text ≢ [] → CutAt 0 text breaks.front breaks.context → IsFaultOf direction text fault
  unfolding context_at
  broken_at fault contexts breaks some cut =
      let place : breaks.context.place ≡ length (concat cut.pieces) = ap (λ context. context.place) (sym cut.is) ∙ zero-add _ in
      let none : layout_fault (length (concat cut.pieces)) cut.rest
      ≡ None = rw (zero-add (length (concat cut.pieces))) at cut.none in
      let is : context_at (length (concat cut.pieces)) cut.rest
      ≡ breaks.context = rw (zero-add (length (concat cut.pieces))) at cut.is in (
        some,
        (
          cut.pieces,
          breaks.front,
          cut.rest,
          breaks.value,
          record {
            whole = cut.whole;
            linked = cut.linked;
            named = breaks.have;
            first = rw (none, is, ← place) (breaks.broken);
          },
        ),
      )

  fault_had : (fault : CreateFault) → text ≢ [] → value_of direction text ≡ Err fault → IsFaultOf direction text fault
  fault_had fault some e = by_items (items_are text)
    where
      by_contexts : (contexts : List ContextView) → HoldsContexts text contexts → items_of text ≡ map Ok contexts
          → Tried direction [] contexts no_values [] → IsFaultOf direction text fault
      by_contexts contexts holds given (inl (w, have)) =
          absurd (ok_is_no_err w fault (sym (all_given direction text contexts w given have) ∙ e))
      by_contexts contexts holds given (inr (other, breaks, stopped)) =
          let same : other ≡ fault = same_err other fault (sym (one_broken direction text contexts other given stopped) ∙ e) in
          let cut = cut_held text breaks.front breaks.context breaks.behind (subst (HoldsContexts text) breaks.whole holds) in
          subst (IsFaultOf direction text) same (broken_at other contexts breaks some cut)

      by_fault : (other : WireFault) (pieces : List (List ℕ)) (contexts : List ContextView) (rest : List ℕ)
          → wire.StopsAt text (items_of text) other pieces contexts rest
          → Tried direction [] contexts no_values (Err other ∷ []) → IsFaultOf direction text fault
      by_fault other pieces contexts rest stops (inl (w, have)) =
          let read = gathered-all direction contexts [] no_values w (Err other ∷ []) (value_of_nothing direction) have
          ∙ gathered-fault direction w other [] in
          let same : Wire other ≡ fault = same_err (Wire other) fault
          (sym (items_given direction text _ _ stops.given read) ∙ e) in (
            some,
            (
              pieces,
              contexts,
              rest,
              w,
              record {
                whole = stops.whole;
                linked = stops.linked;
                named = have;
                first = rw (stops.first, same) refl;
              },
            ),
          )
      by_fault other pieces contexts rest stops (inr (broken, breaks, stopped)) =
          let same : broken ≡ fault = same_err broken fault (sym (items_given direction text _ _ stops.given stopped) ∙ e) in
          let linked = subst (AreLinked 0 pieces) breaks.whole stops.linked in
          let cut = cut_linked 0 pieces rest breaks.front breaks.context breaks.behind linked in
          subst (IsFaultOf direction text) same (broken_at broken contexts breaks some (rw (stops.whole) at cut))

      by_items : wire.AreItemsOf text (items_of text) → IsFaultOf direction text fault
      by_items (inl (contexts, holds, given)) = by_contexts contexts holds given
          (tried direction contexts [] no_values [] (value_of_nothing direction))
      by_items (inr (other, pieces, contexts, rest, stops)) = by_fault other pieces contexts rest stops
          (tried direction contexts [] no_values (Err other ∷ []) (value_of_nothing direction))

-- what is left begins with the fault
module _ (direction : Direction) (w : CreateView) (place : ℕ) (rest : List ℕ) (fault : CreateFault)
    (first : first_fault direction w place rest ≡ Some fault) where
  stops_at_name : (items : List Item) → layout_fault place rest ≡ None
      → gathered direction w (Ok (context_at place rest) ∷ items) ≡ Err fault
  unfolding context_at
  stops_at_name items none = gathered-broken direction w (context_at place rest) items fault (rw none at first)

  stops_by_fault : (answer : Option WireFault) → layout_fault place rest ≡ answer
      → gathered direction w (items_behind place 0 rest) ≡ Err fault
  stops_by_fault (Some other) is =
      let same : ◌≡◌ {A = Option CreateFault} (Some (Wire other)) (Some fault) = rw is at first in
      let equal : Wire other ≡ fault = cc in
      rw (items_behind-fault place rest other is, ← equal) (gathered-fault direction w other [])
  stops_by_fault None none = elim (last_or_more rest) [
    | inl last ↦ rw (items_behind-last place rest none last) (stops_at_name _ none)
    | inr more ↦ rw (items_behind-more place rest none more) (stops_at_name _ none)
  ]

  stops : gathered direction w (items_behind place 0 rest) ≡ Err fault
  stops = stops_by_fault (layout_fault place rest) refl

had_fault : (direction : Direction) (text : List ℕ) (fault : CreateFault) → IsFaultOf direction text fault
    → value_of direction text ≡ Err fault
had_fault direction [] fault (some, faulty) = absurd (some refl)
had_fault direction (byte ∷ bytes) fault (some, (pieces, contexts, rest, v, is)) =
    let items : items_of (byte ∷ bytes) ≡ map Ok contexts ++ items_behind (length (concat pieces)) 0 rest =
    rw (is.whole, zero-add (length (concat pieces))) at (linked_items 0 pieces contexts rest is.linked) in
    rw items (gathered-all direction contexts [] no_values v (items_behind (length (concat pieces)) 0 rest)
    (value_of_nothing direction) is.named ∙ stops direction v (length (concat pieces)) rest fault is.first)

nothing_read : (direction : Direction) (fault : CreateFault) → value_of direction [] ≡ Err fault → ⊥
unfolding gathered
nothing_read direction fault e = cc

fault_of : (direction : Direction) (text : List ℕ) (fault : CreateFault) → value_of direction text ≡ Err fault
    → IsFaultOf direction text fault
fault_of direction [] fault e = absurd (nothing_read direction fault e)
fault_of direction (byte ∷ bytes) fault e = fault_had direction (byte ∷ bytes) fault (λ none. cc) e

pub value_is_read : ValueIsRead
value_is_read direction text = record {
  value = λ v. (value_held direction text v, held_value direction text v);
  fault = λ fault. (fault_of direction text fault, had_fault direction text fault);
}

pub reading_by_value : (direction : Direction) (text : List ℕ) (answer : Result CreateView CreateFault)
    → answer ≡ value_of direction text → IsReadingOf direction text answer
reading_by_value direction text answer e =
    let P : Result CreateView CreateFault → Type 0 = IsReadingOf direction text in
    subst P (sym e) (value_is_read direction text)

pub value_held_of : (direction : Direction) (text : List ℕ) (v : CreateView) → value_of direction text ≡ Ok v
    → HoldsValue direction text v
value_held_of direction text v e = value_held direction text v e
