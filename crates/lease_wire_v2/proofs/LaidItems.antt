-- The items of a text that is laid out are its contexts, and a text can be cut before each of them.
use Rattle.std.proofs.Common.{◌≡◌, ◌≢◌, ℕ, ◌+◌, List, [], ◌∷◌, ◌++◌, map, length, None, Ok, refl, arith, ◌∙◌}
use Rattle.std.proofs.Common.{length-append, add-zero}
use Rattle.std.specs.List.{concat}
use Rattle.std.proofs.Math.Seq.{drop-append_seam}
use Rattle.std.proofs.lemmas.List.{append_assoc}
use Rattle.lease_wire.specs.Chain.{ContextView, IsContext, LeadsOn, AreLinked, AreLaidOut, HoldsContexts, next_of}
use Rattle.lease_wire.specs.Reading.{items_behind, items_of, layout_fault, context_at}
use Rattle.lease_wire.proofs.Items.{items_behind-last, items_behind-more}
use Rattle.lease_wire.proofs.Pieces.{Ends, ends_last, ends_on, front_reads, next_of-front}

-- the items of a last piece
items_of_last : (start : ℕ) (piece : List ℕ) (context : ContextView) → IsContext start piece context → next_of piece ≡ 0
    → items_behind start 0 (piece ++ []) ≡ Ok context ∷ []
items_of_last start piece context is last =
    let reads = front_reads start piece [] context is (ends_last piece last) in
    let end : next_of (piece ++ []) ≡ 0 = next_of-front piece [] is.header ∙ last in
    items_behind-last start (piece ++ []) reads.0 end ∙ rw (reads.1) refl

-- the items of a piece that others follow
items_of_leading : (start : ℕ) (piece others : List ℕ) (context : ContextView) → IsContext start piece context → LeadsOn piece
    → items_behind start 0 (piece ++ others) ≡ Ok context ∷ items_behind (start + length piece) 0 others
items_of_leading start piece others context is on =
    let reads = front_reads start piece others context is (ends_on piece others is.header on) in
    let next : next_of (piece ++ others) ≡ length piece = next_of-front piece others is.header ∙ on.next in
    let long = is.header in
    let more : next_of (piece ++ others) ≢ 0 = λ zero. absurd (omega arith) in
    items_behind-more start (piece ++ others) reads.0 more ∙ rw (reads.1, next, drop-append_seam piece others) refl

laid_items : (start : ℕ) (pieces : List (List ℕ)) (contexts : List ContextView) → AreLaidOut start pieces contexts
    → items_behind start 0 (concat pieces) ≡ map Ok contexts
laid_items start [] contexts laid = absurd laid
laid_items start (piece ∷ pieces) [] laid = absurd laid
laid_items start (piece ∷ []) (context ∷ contexts) (is, last, none) = rw none (items_of_last start piece context is last)
laid_items start (piece ∷ next ∷ pieces) (context ∷ contexts) (is, on, laid) =
    let further = laid_items (start + length piece) (next ∷ pieces) contexts laid in
    items_of_leading start piece (next ++ concat pieces) context is on ∙ rw further refl

pub held_items : (text : List ℕ) (contexts : List ContextView) → HoldsContexts text contexts → items_of text ≡ map Ok contexts
held_items [] contexts none = rw none refl
held_items (byte ∷ bytes) contexts (pieces, whole, laid) = rw whole at (laid_items 0 pieces contexts laid)

-- pieces that lead on give their contexts, and then what is behind them
pub linked_items : (start : ℕ) (pieces : List (List ℕ)) (contexts : List ContextView) (rest : List ℕ)
    → AreLinked start pieces contexts
    → items_behind start 0 (concat pieces ++ rest)
    ≡ map Ok contexts ++ items_behind (start + length (concat pieces)) 0 rest
linked_items start [] [] rest linked = rw (add-zero start) refl
linked_items start [] (context ∷ contexts) rest linked = absurd linked
linked_items start (piece ∷ pieces) [] rest linked = absurd linked
linked_items start (piece ∷ pieces) (context ∷ contexts) rest (is, on, linked) =
    let further = linked_items (start + length piece) pieces contexts rest linked in
    let far : start + length piece + length (concat pieces)
    ≡ start + length (piece ++ concat pieces) = omega (arith, length-append piece (concat pieces)) in
    rw (append_assoc, items_of_leading start piece (concat pieces ++ rest) context is on, further, far) refl

-- the bytes from a place on, cut before a context that others lead to
pub record CutAt (start : ℕ) (bytes : List ℕ) (front : List ContextView) (context : ContextView) : Type 0 where
  pub pieces : List (List ℕ)
  pub rest : List ℕ
  pub whole : concat pieces ++ rest ≡ bytes
  pub linked : AreLinked start pieces front
  pub none : layout_fault (start + length (concat pieces)) rest ≡ None
  pub is : context_at (start + length (concat pieces)) rest ≡ context

cut_here : (start : ℕ) (piece others : List ℕ) (context : ContextView) → IsContext start piece context → Ends piece others
    → CutAt start (piece ++ others) [] context
cut_here start piece others context is ends =
    let reads = front_reads start piece others context is ends in
    record {
      pieces = [];
      rest = piece ++ others;
      whole = refl;
      linked = tt;
      none = rw (add-zero start) (reads.0);
      is = rw (add-zero start) (reads.1);
    }

cut_on : (start : ℕ) (piece others : List ℕ) (first context : ContextView) (front : List ContextView)
    → IsContext start piece first → LeadsOn piece → CutAt (start + length piece) others front context
    → CutAt start (piece ++ others) (first ∷ front) context
cut_on start piece others first context front is on more =
    let far : start + length piece + length (concat more.pieces)
    ≡ start + length (piece ++ concat more.pieces) = omega (arith, length-append piece (concat more.pieces)) in
    record {
      pieces = piece ∷ more.pieces;
      rest = more.rest;
      whole = rw (append_assoc, more.whole) refl;
      linked = (is, on, more.linked);
      none = rw far at more.none;
      is = rw far at more.is;
    }

cut_laid : (start : ℕ) (pieces : List (List ℕ)) (front : List ContextView) (context : ContextView) (behind : List ContextView)
    → AreLaidOut start pieces (front ++ context ∷ behind) → CutAt start (concat pieces) front context
cut_laid start [] front context behind laid = absurd laid
cut_laid start (piece ∷ []) [] context behind (is, last, none) = cut_here start piece [] context is (ends_last piece last)
cut_laid start (piece ∷ next ∷ pieces) [] context behind (is, on, laid) =
    cut_here start piece (next ++ concat pieces) context is (ends_on piece (next ++ concat pieces) is.header on)
cut_laid start (piece ∷ []) (first ∷ front) context behind (is, last, none) = absurd (not_empty front context behind none)
  where
    not_empty : (front : List ContextView) (context : ContextView) (behind : List ContextView) → front ++ context ∷ behind
        ≡ [] → ⊥
    not_empty [] context behind e = cc
    not_empty (first ∷ front) context behind e = cc
cut_laid start (piece ∷ next ∷ pieces) (first ∷ front) context behind (is, on, laid) =
    cut_on start piece (next ++ concat pieces) first context front is on
    (cut_laid (start + length piece) (next ∷ pieces) front context behind laid)

pub cut_linked : (start : ℕ) (pieces : List (List ℕ)) (rest : List ℕ) (front : List ContextView) (context : ContextView)
    (behind : List ContextView)
    → AreLinked start pieces (front ++ context ∷ behind) → CutAt start (concat pieces ++ rest) front context
cut_linked start [] rest [] context behind linked = absurd linked
cut_linked start [] rest (first ∷ front) context behind linked = absurd linked
cut_linked start (piece ∷ pieces) rest [] context behind (is, on, linked) =
    rw append_assoc (cut_here start piece (concat pieces ++ rest) context is (ends_on piece (concat pieces ++ rest) is.header on))
cut_linked start (piece ∷ pieces) rest (first ∷ front) context behind (is, on, linked) =
    rw append_assoc (cut_on start piece (concat pieces ++ rest) first context front is on
    (cut_linked (start + length piece) pieces rest front context behind linked))

pub cut_held : (text : List ℕ) (front : List ContextView) (context : ContextView) (behind : List ContextView)
    → HoldsContexts text (front ++ context ∷ behind) → CutAt 0 text front context
cut_held [] [] context behind none = cc
cut_held [] (first ∷ front) context behind none = cc
cut_held (byte ∷ bytes) front context behind (pieces, whole, laid) = rw whole at (cut_laid 0 pieces front context behind laid)
