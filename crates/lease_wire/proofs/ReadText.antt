-- What a reader makes of a text is the value that the text holds, or its fault; part one: from the
-- reader to the layout.
use Rattle.std.proofs.Common.{◌≡◌, ◌≢◌, ◌≤◌, ℕ, zero, suc, ◌+◌, List, [], ◌∷◌, ◌++◌, length, take, drop, Option, Some, None}
use Rattle.std.proofs.Common.{Result, Ok, Err, refl, arith, sym, ◌∙◌, subst, ◌⊎◌, inl, inr, length-append, add-zero}
use Rattle.std.specs.List.{concat}
use Rattle.std.proofs.lemmas.List.{take-append-drop, append-nil, append_assoc}
use Rattle.lease_wire.specs.Chain.{ContextView, IsContext, LeadsOn, AreLinked, AreLaidOut, next_of}
use Rattle.lease_wire.specs.Reading.{items_behind, layout_fault, context_at}
use Rattle.lease_wire.specs.Names.{CreateView, HaveValue, meaning_of}
use Rattle.lease_wire.specs.Faults.{first_fault}
use Rattle.lease_wire.specs.Gathering.{gathered, carried, with_meaning}
use Rattle.lease_wire.specs.declared.create.Direction.{Direction}
use Rattle.lease_wire.specs.declared.fault.WireFault.{WireFault}
use Rattle.lease_wire.proofs.Items.{items_behind-fault, items_behind-last, items_behind-more}
use Rattle.lease_wire.proofs.Pieces.{LeadingIs, whole_is, leading_is}
use Rattle.lease_wire.proofs.Values.{Adds, adds, faults, fault_in}

-- a value that is carried on
pub carried_ok : (r : Result CreateView WireFault) (further : CreateView → Result CreateView WireFault) (w : CreateView)
    → carried r further ≡ Ok w → (v : CreateView) × (r ≡ Ok v) × (further v ≡ Ok w)
carried_ok r further w e = grind arith

-- a fault comes at once or later
carried_err : (r : Result CreateView WireFault) (further : CreateView → Result CreateView WireFault) (fault : WireFault)
    → carried r further ≡ Err fault → (r ≡ Err fault) ⊎ ((v : CreateView) × (r ≡ Ok v) × (further v ≡ Err fault))
carried_err r further fault e = grind arith

-- the bytes from a place on are laid out, and what they hold gives the value
pub record LaidFrom (direction : Direction) (start : ℕ) (bytes : List ℕ) (before : List ContextView) (w : CreateView) : Type 0
  where
    pub pieces : List (List ℕ)
    pub contexts : List ContextView
    pub whole : concat pieces ≡ bytes
    pub laid : AreLaidOut start pieces contexts
    pub value : HaveValue direction (before ++ contexts) w

pub laid_on : (start next : ℕ) (piece : List ℕ) (pieces : List (List ℕ)) (context : ContextView) (contexts : List ContextView)
    → IsContext start piece context → LeadsOn piece → length piece ≡ next
    → AreLaidOut (start + next) pieces contexts → AreLaidOut start (piece ∷ pieces) (context ∷ contexts)
laid_on start next piece pieces context contexts is on long laid = grind arith

laid_last : (direction : Direction) (start : ℕ) (bytes : List ℕ) (before : List ContextView) (w : CreateView)
    → layout_fault start bytes ≡ None → next_of bytes ≡ 0
    → HaveValue direction (before ++ context_at start bytes ∷ []) w → LaidFrom direction start bytes before w
laid_last direction start bytes before w none last value = record {
  pieces = bytes ∷ [];
  contexts = context_at start bytes ∷ [];
  whole = append-nil bytes;
  laid = (whole_is start bytes none last, last, refl);
  value = value;
}

laid_more : (direction : Direction) (start : ℕ) (bytes : List ℕ) (before : List ContextView) (w : CreateView)
    → LeadingIs start bytes
    → LaidFrom direction (start + next_of bytes) (drop (next_of bytes) bytes) (before ++ context_at start bytes ∷ []) w
    → LaidFrom direction start bytes before w
laid_more direction start bytes before w leading more = record {
  pieces = take (next_of bytes) bytes ∷ more.pieces;
  contexts = context_at start bytes ∷ more.contexts;
  whole = rw (more.whole) (take-append-drop (next_of bytes) bytes);
  laid = laid_on start (next_of bytes) (take (next_of bytes) bytes) more.pieces (context_at start bytes) more.contexts leading.is
      leading.on leading.long more.laid;
  value = rw append_assoc at more.value;
}

-- one more context gives the value that it adds to
value_after : (direction : Direction) (before : List ContextView) (v w : CreateView) (context : ContextView)
    → HaveValue direction before v
    → with_meaning v context.place (meaning_of direction context) ≡ Ok w → HaveValue direction (before ++ context ∷ []) w
value_after direction before v w context have e =
    let P : Result CreateView WireFault → Type 0 = Adds direction before context in
    subst P e (adds direction before v have context (meaning_of direction context) refl)

pub last_or_more : (bytes : List ℕ) → (next_of bytes ≡ 0) ⊎ (next_of bytes ≢ 0)
last_or_more bytes = grind arith

-- one context of a text that is read well, given what is behind it
module _ (direction : Direction) (start : ℕ) (bytes : List ℕ) (before : List ContextView) (v w : CreateView)
    (have : HaveValue direction before v) (e : gathered direction v (items_behind start 0 bytes) ≡ Ok w)
    (further : (x : CreateView) → HaveValue direction (before ++ context_at start bytes ∷ []) x → next_of bytes ≢ 0
    → length (drop (next_of bytes) bytes) + 16 ≤ length bytes
    → gathered direction x (items_behind (start + next_of bytes) 0 (drop (next_of bytes) bytes)) ≡ Ok w
    → LaidFrom direction (start + next_of bytes) (drop (next_of bytes) bytes) (before ++ context_at start bytes ∷ []) w) where
  laid_by_next : layout_fault start bytes ≡ None → ((next_of bytes ≡ 0) ⊎ (next_of bytes ≢ 0))
      → LaidFrom direction start bytes before w
  unfolding gathered
  laid_by_next none (inl last) =
      let read = rw (items_behind-last start bytes none last) at e in
      let step = carried_ok _ _ w read in
      let same : step.0 ≡ w = cc (step.2) in
      let P : CreateView → Type 0 = λ x. HaveValue direction (before ++ context_at start bytes ∷ []) x in
      laid_last direction start bytes before w none last (subst P same (value_after direction before v step.0
      (context_at start bytes) have step.1))
  laid_by_next none (inr more) =
      let read = rw (items_behind-more start bytes none more) at e in
      let step = carried_ok _ _ w read in
      let leading = leading_is start bytes none more in
      laid_more direction start bytes before w leading
      (further step.0 (value_after direction before v step.0 (context_at start bytes) have step.1) more leading.less step.2)

  laid_by_fault : (answer : Option WireFault) → layout_fault start bytes ≡ answer → LaidFrom direction start bytes before w
  unfolding gathered
  laid_by_fault (Some fault) is = let clash : ◌≡◌ {A = Result CreateView WireFault} (Err fault)
      (Ok w) = rw (items_behind-fault start bytes fault is) at e in cc
  laid_by_fault None none = laid_by_next none (last_or_more bytes)

pub text_laid : (room : ℕ) (direction : Direction) (start : ℕ) (bytes : List ℕ) (before : List ContextView) (v w : CreateView)
    → length bytes ≤ room → HaveValue direction before v
    → gathered direction v (items_behind start 0 bytes) ≡ Ok w → LaidFrom direction start bytes before w
text_laid zero direction start bytes before v w within have e =
    laid_by_fault direction start bytes before v w have e (λ x value more less read. absurd (omega arith))
    (layout_fault start bytes) refl
text_laid (suc room) direction start bytes before v w within have e =
    laid_by_fault direction start bytes before v w have e (λ x value more less read. text_laid room direction _ _ _ x w
    (omega arith) value read) (layout_fault start bytes) refl

-- the bytes from a place on lead to a fault
pub record FaultyFrom (direction : Direction) (start : ℕ) (bytes : List ℕ) (before : List ContextView) (fault : WireFault) : Type
    0 where
  pub pieces : List (List ℕ)
  pub contexts : List ContextView
  pub rest : List ℕ
  pub whole : concat pieces ++ rest ≡ bytes
  pub linked : AreLinked start pieces contexts
  pub value : CreateView
  pub named : HaveValue direction (before ++ contexts) value
  pub first : first_fault direction (before ++ contexts) (start + length (concat pieces)) rest ≡ Some fault

faulty_here : (direction : Direction) (start : ℕ) (bytes : List ℕ) (before : List ContextView) (v : CreateView)
    (fault : WireFault) → HaveValue direction before v
    → first_fault direction before start bytes ≡ Some fault → FaultyFrom direction start bytes before fault
faulty_here direction start bytes before v fault have first = record {
  pieces = [];
  contexts = [];
  rest = bytes;
  whole = refl;
  linked = tt;
  value = v;
  named = rw (append-nil before) have;
  first = rw (append-nil before, add-zero start) first;
}

faulty_more : (direction : Direction) (start : ℕ) (bytes : List ℕ) (before : List ContextView) (fault : WireFault)
    → LeadingIs start bytes
    → FaultyFrom direction (start + next_of bytes) (drop (next_of bytes) bytes) (before ++ context_at start bytes ∷ []) fault
    → FaultyFrom direction start bytes before fault
faulty_more direction start bytes before fault leading more =
    let piece : List ℕ = take (next_of bytes) bytes in
    let far : start + next_of bytes + length (concat more.pieces)
    ≡ start + length (piece ++ concat more.pieces) = omega (arith, length-append piece (concat more.pieces), leading.long) in
    let P : ℕ → Type 0 = λ size. AreLinked (start + size) more.pieces more.contexts in
    record {
      pieces = piece ∷ more.pieces;
      contexts = context_at start bytes ∷ more.contexts;
      rest = more.rest;
      whole = rw (append_assoc, more.whole) (take-append-drop (next_of bytes) bytes);
      linked = (leading.is, leading.on, subst P (sym leading.long) more.linked);
      value = more.value;
      named = rw append_assoc at more.named;
      first = rw (append_assoc, far) at more.first;
    }

module _ (direction : Direction) (start : ℕ) (bytes : List ℕ) (before : List ContextView) (v : CreateView) (fault : WireFault)
    (have : HaveValue direction before v) (e : gathered direction v (items_behind start 0 bytes) ≡ Err fault)
    (further : (x : CreateView) → HaveValue direction (before ++ context_at start bytes ∷ []) x
    → length (drop (next_of bytes) bytes) + 16 ≤ length bytes
    → gathered direction x (items_behind (start + next_of bytes) 0 (drop (next_of bytes) bytes)) ≡ Err fault
    → FaultyFrom direction (start + next_of bytes) (drop (next_of bytes) bytes) (before ++ context_at start bytes ∷ []) fault)
  where
    -- the rule of names that the context here breaks
    faulty_name : layout_fault start bytes ≡ None
        → with_meaning v (context_at start bytes).place (meaning_of direction (context_at start bytes)) ≡ Err fault
        → FaultyFrom direction start bytes before fault
    unfolding context_at
    faulty_name none broken =
        let values_of_kind = faults direction before v have (context_at start bytes) start
        (meaning_of direction (context_at start bytes)) in
        let stopped : fault_in (with_meaning v start (meaning_of direction (context_at start bytes)))
        ≡ Some fault = rw broken refl in
        faulty_here direction start bytes before v fault have (rw none (sym values_of_kind ∙ stopped))

    faulty_by_next : layout_fault start bytes ≡ None → ((next_of bytes ≡ 0) ⊎ (next_of bytes ≢ 0))
        → FaultyFrom direction start bytes before fault
    unfolding gathered
    faulty_by_next none (inl last) =
        let read = rw (items_behind-last start bytes none last) at e in
        elim (carried_err _ _ fault read) [
          | inl broken ↦ faulty_name none broken
          | inr step ↦ let clash : ◌≡◌ {A = Result CreateView WireFault} (Ok step.0) (Err fault) = step.2 in cc
        ]
    faulty_by_next none (inr more) =
        let read = rw (items_behind-more start bytes none more) at e in
        let leading = leading_is start bytes none more in
        elim (carried_err _ _ fault read) [
          | inl broken ↦ faulty_name none broken
          | inr step ↦ faulty_more direction start bytes before fault leading
              (further step.0 (value_after direction before v step.0 (context_at start bytes) have step.1) leading.less step.2)
        ]

    faulty_by_fault : (answer : Option WireFault) → layout_fault start bytes ≡ answer
        → FaultyFrom direction start bytes before fault
    unfolding gathered
    faulty_by_fault (Some other) is =
        let same : ◌≡◌ {A = Result CreateView WireFault} (Err other) (Err fault) = rw (items_behind-fault start bytes other is) at
        e in
        let equal : other ≡ fault = cc in
        faulty_here direction start bytes before v fault have (rw (is, equal) refl)
    faulty_by_fault None none = faulty_by_next none (last_or_more bytes)

pub text_faulty : (room : ℕ) (direction : Direction) (start : ℕ) (bytes : List ℕ) (before : List ContextView) (v : CreateView)
    (fault : WireFault) → length bytes ≤ room → HaveValue direction before v
    → gathered direction v (items_behind start 0 bytes) ≡ Err fault → FaultyFrom direction start bytes before fault
text_faulty zero direction start bytes before v fault within have e =
    faulty_by_fault direction start bytes before v fault have e (λ x value less read. absurd (omega arith))
    (layout_fault start bytes) refl
text_faulty (suc room) direction start bytes before v fault within have e =
    faulty_by_fault direction start bytes before v fault have e (λ x value less read. text_faulty room direction _ _ _ x fault
    (omega arith) value read) (layout_fault start bytes) refl
