-- What a reader makes of a text is the value that the text holds, or its fault; part two: from the
-- layout to the reader.
use Rattle.std.proofs.Common.{◌≡◌, ◌≢◌, ℕ, ◌+◌, List, [], ◌∷◌, ◌++◌, length, Option, Some, None, Result, Ok, Err, refl, arith}
use Rattle.std.proofs.Common.{◌∙◌, inl, inr, length-append, add-zero}
use Rattle.std.specs.List.{concat}
use Rattle.std.proofs.Math.Seq.{drop-append_seam}
use Rattle.std.proofs.lemmas.List.{append-nil, append_assoc}
use Rattle.std.proofs.lemmas.Bool.Decides.{eqb_tells}
use Rattle.lease_wire.specs.Chain.{ContextView, IsContext, LeadsOn, AreLinked, AreLaidOut, next_of}
use Rattle.lease_wire.specs.Reading.{items_behind, layout_fault, context_at}
use Rattle.lease_wire.specs.Names.{CreateView, HaveValue, meaning_of}
use Rattle.lease_wire.specs.Faults.{first_fault}
use Rattle.lease_wire.specs.Gathering.{gathered, with_meaning}
use Rattle.lease_wire.specs.declared.create.Direction.{Direction}
use Rattle.lease_wire.specs.declared.fault.WireFault.{WireFault}
use Rattle.lease_wire.proofs.Items.{items_behind-fault, items_behind-last, items_behind-more}
use Rattle.lease_wire.proofs.Pieces.{ends_last, ends_on, front_reads, next_of-front}
use Rattle.lease_wire.proofs.Values.{Adds, adds, faults, passes, one_value}

-- the items of a last piece
items_of_last : (start : ℕ) (piece : List ℕ) (context : ContextView) → IsContext start piece context → next_of piece ≡ 0
    → items_behind start 0 (piece ++ []) ≡ Ok context ∷ []
items_of_last start piece context is last =
    let reads = front_reads start piece [] context is (ends_last piece last) in
    let end : next_of (piece ++ []) ≡ 0 = next_of-front piece [] is.header ∙ last in
    items_behind-last start (piece ++ []) reads.0 end ∙ rw (reads.1) refl

-- the items of a piece that others follow
items_of_leading : (start : ℕ) (piece others : List ℕ) (context : ContextView) → IsContext start piece context → LeadsOn piece
    → items_behind start 0 (piece ++ others) ≡ Ok context ∷ items_behind (start + length piece) 0 others
items_of_leading start piece others context is on =
    let reads = front_reads start piece others context is (ends_on piece others is.header on) in
    let next : next_of (piece ++ others) ≡ length piece = next_of-front piece others is.header ∙ on.next in
    let long = is.header in
    let more : next_of (piece ++ others) ≢ 0 = λ zero. absurd (omega arith) in
    items_behind-more start (piece ++ others) reads.0 more ∙ rw (reads.1, next, drop-append_seam piece others) refl

-- a context that breaks no rule adds to the value
record Added (direction : Direction) (before : List ContextView) (v : CreateView) (context : ContextView) : Type 0 where
  value : CreateView
  adds : with_meaning v context.place (meaning_of direction context) ≡ Ok value
  have : HaveValue direction (before ++ context ∷ []) value

added : (direction : Direction) (before : List ContextView) (v w : CreateView) (context : ContextView) (behind : List ContextView)
    → HaveValue direction before v → HaveValue direction (before ++ context ∷ behind) w → Added direction before v context
added direction before v w context behind have whole =
    by_result (with_meaning v context.place (meaning_of direction context)) refl
    (adds direction before v have context (meaning_of direction context) refl)
  where
    by_result : (answer : Result CreateView WireFault) → with_meaning v context.place (meaning_of direction context) ≡ answer
        → Adds direction before context (with_meaning v context.place (meaning_of direction context))
        → Added direction before v context
    by_result (Ok value) is has = record { value = value; adds = is; have = rw is at has }
    by_result (Err fault) is has =
        let values_of_kind = faults direction before v have context context.place (meaning_of direction context) in
        let none = passes direction before v have context w behind whole context.place (meaning_of direction context) refl in
        let clash : ◌≡◌ {A = Option WireFault} (Some fault) None = rw is at values_of_kind ∙ none in
        cc

pub laid_reads : (direction : Direction) (start : ℕ) (pieces : List (List ℕ)) (contexts before : List ContextView)
    (v w : CreateView)
    → AreLaidOut start pieces contexts → HaveValue direction before v → HaveValue direction (before ++ contexts) w
    → gathered direction v (items_behind start 0 (concat pieces)) ≡ Ok w
unfolding gathered
laid_reads direction start [] contexts before v w laid have whole = absurd laid
laid_reads direction start (piece ∷ pieces) [] before v w laid have whole = absurd laid
laid_reads direction start (piece ∷ []) (context ∷ contexts) before v w (is, last, none) have whole =
    let more = added direction before v w context contexts have whole in
    let same : more.value ≡ w = one_value direction (before ++ context ∷ []) more.value w more.have (rw none at whole) in
    rw (items_of_last start piece context is last, more.adds, same) refl
laid_reads direction start (piece ∷ next ∷ pieces) (context ∷ contexts) before v w (is, on, laid) have whole =
    let more = added direction before v w context contexts have whole in
    let further = laid_reads direction (start + length piece) (next ∷ pieces) contexts (before ++ context ∷ []) more.value w laid
    more.have (rw append_assoc whole) in
    rw (items_of_leading start piece (next ++ concat pieces) context is on, more.adds) further

-- pieces that lead on are passed with the value that they have
pub linked_reads : (direction : Direction) (start : ℕ) (pieces : List (List ℕ)) (contexts before : List ContextView)
    (rest : List ℕ) (v w : CreateView)
    → AreLinked start pieces contexts → HaveValue direction before v → HaveValue direction (before ++ contexts) w
    → gathered direction v (items_behind start 0 (concat pieces ++ rest))
    ≡ gathered direction w (items_behind (start + length (concat pieces)) 0 rest)
unfolding gathered
linked_reads direction start [] [] before rest v w linked have whole =
    let same : v ≡ w = one_value direction before v w have (rw (append-nil before) at whole) in
    rw (same, add-zero start) refl
linked_reads direction start [] (context ∷ contexts) before rest v w linked have whole = absurd linked
linked_reads direction start (piece ∷ pieces) [] before rest v w linked have whole = absurd linked
linked_reads direction start (piece ∷ pieces) (context ∷ contexts) before rest v w (is, on, linked) have whole =
    let more = added direction before v w context contexts have whole in
    let further = linked_reads direction (start + length piece) pieces contexts (before ++ context ∷ []) rest more.value w linked
    more.have (rw append_assoc whole) in
    let far : start + length piece + length (concat pieces)
    ≡ start + length (piece ++ concat pieces) = omega (arith, length-append piece (concat pieces)) in
    rw (append_assoc, items_of_leading start piece (concat pieces ++ rest) context is on, more.adds, ← far) further

-- what is left begins with the fault
module _ (direction : Direction) (contexts : List ContextView) (w : CreateView) (place : ℕ) (rest : List ℕ) (fault : WireFault)
    (have : HaveValue direction contexts w) (first : first_fault direction contexts place rest ≡ Some fault) where
  stops_at_name : layout_fault place rest ≡ None
      → with_meaning w (context_at place rest).place (meaning_of direction (context_at place rest)) ≡ Err fault
  unfolding context_at
  stops_at_name none = grind arith

  stops_by_fault : (answer : Option WireFault) → layout_fault place rest ≡ answer
      → gathered direction w (items_behind place 0 rest) ≡ Err fault
  unfolding gathered
  stops_by_fault (Some other) is =
      let same : ◌≡◌ {A = Option WireFault} (Some other) (Some fault) = rw is at first in
      let equal : other ≡ fault = cc in
      rw (items_behind-fault place rest other is, equal) refl
  stops_by_fault None none = elim (eqb_tells (next_of rest) 0) [
    | inl last ↦ rw (items_behind-last place rest none last.1, stops_at_name none) refl
    | inr more ↦ rw (items_behind-more place rest none more.1, stops_at_name none) refl
  ]

  pub stops : gathered direction w (items_behind place 0 rest) ≡ Err fault
  stops = stops_by_fault (layout_fault place rest) refl
