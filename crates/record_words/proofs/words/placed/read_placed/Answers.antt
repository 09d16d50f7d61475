use Rattle.std.proofs.Common.{◌≡◌, ℕ, ◌+◌, true, List, [], ◌∷◌, ◌++◌, length, refl, sym, ap, ◌∙◌, arith}
use Rattle.std.specs.Prelude.{◌==◌}
use Rattle.std.proofs.lemmas.Bool.{eqb-true}
use Rattle.std.proofs.lemmas.List.{append-nil}
use Rattle.lease_texts.proofs.Cut.{nothing_left}
use Rattle.lease_texts.specs.Pieces.{pieces, lines_of}
use Rattle.lease_texts.specs.Records.{with_line}
use Rattle.record_words.specs.words.Placed.{fact_lines}
use Rattle.record_words.proofs.words.placed.read_placed.Goals as goal

-- no line is left, and so none that tells a fact
none_left : (text : List ℕ) (number : ℕ) → length text ≡ 0 → fact_lines number (lines_of text) ≡ []
unfolding pieces fact_lines
none_left [] number e = refl
none_left (byte ∷ text) number e = absurd (omega arith)

pub returns : goal.returns
returns c =
    let empty : (length c.loop-rest.rest.now == 0) ≡ true = sym c.is_empty.ensures ∙ c.loop-rest-test.false in
    record {
      facts = nothing_left with_line (c.loop-rest.number + 1) c.loop-rest.placed.facts.items c.loop-rest.rest.now _ empty
          c.loop-rest.invariant.whole;
      lines = sym (append-nil c.loop-rest.placed.lines.items) ∙ (ap (λ (lines : List ℕ). c.loop-rest.placed.lines.items ++ lines)
          (sym (none_left c.loop-rest.rest.now (c.loop-rest.number + 1) (eqb-true _ 0 empty))) ∙ c.loop-rest.invariant.placed);
    }
