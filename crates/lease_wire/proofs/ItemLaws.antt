-- The items that a reader gives are those of the text.
use Rattle.std.proofs.Common.{◌≡◌, ◌≢◌, ◌≤◌, ℕ, zero, suc, ◌+◌, ◌*◌, List, [], ◌∷◌, ◌++◌, map, length, take, drop, Option, Some}
use Rattle.std.proofs.Common.{None, Ok, Err, refl, arith, zero-add, add-zero, sym, ◌∙◌, subst, ◌⊎◌, inl, inr, length-append}
use Rattle.std.specs.List.{concat}
use Rattle.std.proofs.lemmas.List.{take-append-drop, append-nil, append_assoc}
use Rattle.lease_wire.specs.Chain.{ContextView, AreLinked, AreLaidOut, next_of}
use Rattle.lease_wire.specs.Reading.{items_behind, items_of, layout_fault, context_at}
use Rattle.lease_wire.specs.Faults.{AreItemsOf}
use Rattle.lease_wire.specs.declared.fault.WireFault.{WireFault}
use Rattle.lease_wire.proofs.Items.{items_behind-fault, items_behind-last, items_behind-more}
use Rattle.lease_wire.proofs.Pieces.{LeadingIs, whole_is, leading_is}
use Rattle.lease_wire.proofs.ReadText.{laid_on, last_or_more}

record LaidItems (start : ℕ) (bytes : List ℕ) : Type 0 where
  pieces : List (List ℕ)
  contexts : List ContextView
  whole : concat pieces ≡ bytes
  laid : AreLaidOut start pieces contexts
  given : items_behind start 0 bytes ≡ map Ok contexts

record FaultyItems (start : ℕ) (bytes : List ℕ) : Type 0 where
  fault : WireFault
  pieces : List (List ℕ)
  contexts : List ContextView
  rest : List ℕ
  whole : concat pieces ++ rest ≡ bytes
  linked : AreLinked start pieces contexts
  first : layout_fault (start + length (concat pieces)) rest ≡ Some fault
  given : items_behind start 0 bytes ≡ map Ok contexts ++ Err fault ∷ []

module _ (start : ℕ) (bytes : List ℕ) (further : length (drop (next_of bytes) bytes) + 16 ≤ length bytes
    → LaidItems (start + next_of bytes) (drop (next_of bytes) bytes)
    ⊎ FaultyItems (start + next_of bytes) (drop (next_of bytes) bytes)) where
  laid_more : layout_fault start bytes ≡ None → next_of bytes ≢ 0 → LeadingIs start bytes
      → LaidItems (start + next_of bytes) (drop (next_of bytes) bytes) → LaidItems start bytes
  laid_more none more leading behind = record {
    pieces = take (next_of bytes) bytes ∷ behind.pieces;
    contexts = context_at start bytes ∷ behind.contexts;
    whole = rw (behind.whole) (take-append-drop (next_of bytes) bytes);
    laid = laid_on start (next_of bytes) (take (next_of bytes) bytes) behind.pieces (context_at start bytes) behind.contexts
        leading.is leading.on leading.long behind.laid;
    given = items_behind-more start bytes none more ∙ rw (behind.given) refl;
  }

  faulty_more : layout_fault start bytes ≡ None → next_of bytes ≢ 0 → LeadingIs start bytes
      → FaultyItems (start + next_of bytes) (drop (next_of bytes) bytes) → FaultyItems start bytes
  faulty_more none more leading behind =
      let piece : List ℕ = take (next_of bytes) bytes in
      let far : start + next_of bytes + length (concat behind.pieces)
      ≡ start + length (piece ++ concat behind.pieces) = omega (
        arith,
        length-append piece (concat behind.pieces),
        leading.long,
      ) in
      let P : ℕ → Type 0 = λ size. AreLinked (start + size) behind.pieces behind.contexts in
      record {
        fault = behind.fault;
        pieces = piece ∷ behind.pieces;
        contexts = context_at start bytes ∷ behind.contexts;
        rest = behind.rest;
        whole = rw (append_assoc, behind.whole) (take-append-drop (next_of bytes) bytes);
        linked = (leading.is, leading.on, subst P (sym leading.long) behind.linked);
        first = rw far at behind.first;
        given = items_behind-more start bytes none more ∙ rw (behind.given) refl;
      }

  by_next : layout_fault start bytes ≡ None → ((next_of bytes ≡ 0) ⊎ (next_of bytes ≢ 0))
      → LaidItems start bytes ⊎ FaultyItems start bytes
  by_next none (inl last) = inl (record {
    pieces = bytes ∷ [];
    contexts = context_at start bytes ∷ [];
    whole = append-nil bytes;
    laid = (whole_is start bytes none last, last, refl);
    given = items_behind-last start bytes none last;
  })
  by_next none (inr more) =
      let leading = leading_is start bytes none more in
      elim (further leading.less) [
        | inl behind ↦ inl (laid_more none more leading behind)
        | inr behind ↦ inr (faulty_more none more leading behind)
      ]

  by_fault : (answer : Option WireFault) → layout_fault start bytes ≡ answer → LaidItems start bytes ⊎ FaultyItems start bytes
  by_fault (Some fault) is = inr (record {
    fault = fault;
    pieces = [];
    contexts = [];
    rest = bytes;
    whole = refl;
    linked = tt;
    first = rw (add-zero start) is;
    given = items_behind-fault start bytes fault is;
  })
  by_fault None none = by_next none (last_or_more bytes)

items_read : (room start : ℕ) (bytes : List ℕ) → length bytes ≤ room → LaidItems start bytes ⊎ FaultyItems start bytes
items_read zero start bytes within = by_fault start bytes (λ less. absurd (omega arith)) (layout_fault start bytes) refl
items_read (suc room) start bytes within = by_fault start bytes (λ less. items_read room _ _ (omega arith))
    (layout_fault start bytes) refl

pub items_are : (text : List ℕ) → AreItemsOf text (items_of text)
items_are [] = inl ([], refl, refl)
items_are (byte ∷ bytes) = elim (items_read (length (byte ∷ bytes)) 0 (byte ∷ bytes) (omega arith)) [
  | inl laid ↦ inl (laid.contexts, (laid.pieces, laid.whole, laid.laid), laid.given)
  | inr faulty ↦ inr (
    faulty.fault,
    faulty.pieces,
    faulty.contexts,
    faulty.rest,
    record {
      some = λ none. cc;
      whole = faulty.whole;
      linked = faulty.linked;
      first = rw (zero-add (length (concat faulty.pieces))) at faulty.first;
      given = faulty.given;
    },
  )
]

-- ---- how many items there are
-- each context takes sixteen bytes at least, and a fault may take none
module _ (start : ℕ) (bytes : List ℕ) (further : length (drop (next_of bytes) bytes) + 16 ≤ length bytes
    → 16 * length (items_behind (start + next_of bytes) 0 (drop (next_of bytes) bytes))
    ≤ length (drop (next_of bytes) bytes) + 16) where
  few_by_next : layout_fault start bytes ≡ None → ((next_of bytes ≡ 0) ⊎ (next_of bytes ≢ 0))
      → 16 * length (items_behind start 0 bytes) ≤ length bytes + 16
  few_by_next none (inl last) = rw (items_behind-last start bytes none last) (omega arith)
  few_by_next none (inr more) =
      let leading = leading_is start bytes none more in
      let less : length (drop (next_of bytes) bytes) + 16 ≤ length bytes = leading.less in
      let behind = further less in
      rw (items_behind-more start bytes none more) (omega arith)

  few_by_fault : (answer : Option WireFault) → layout_fault start bytes ≡ answer
      → 16 * length (items_behind start 0 bytes) ≤ length bytes + 16
  few_by_fault (Some fault) is = rw (items_behind-fault start bytes fault is) (omega arith)
  few_by_fault None none = few_by_next none (last_or_more bytes)

few_items : (room start : ℕ) (bytes : List ℕ) → length bytes ≤ room → 16 * length (items_behind start 0 bytes) ≤ length bytes + 16
few_items zero start bytes within = few_by_fault start bytes (λ less. absurd (omega arith)) (layout_fault start bytes) refl
few_items (suc room) start bytes within = few_by_fault start bytes (λ less. few_items room _ _ (omega arith))
    (layout_fault start bytes) refl

pub length-items_behind : (start : ℕ) (bytes : List ℕ) → 16 * length (items_behind start 0 bytes) ≤ length bytes + 16
length-items_behind start bytes = few_items (length bytes) start bytes (omega arith)
