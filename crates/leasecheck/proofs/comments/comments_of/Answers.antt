use Rattle.std.proofs.Common.{◌≡◌, ℕ, true, List, [], ◌∷◌, ◌++◌, length, refl, sym, ap, ◌∙◌, arith}
use Rattle.std.specs.Prelude.{◌==◌}
use Rattle.std.proofs.lemmas.Bool.{eqb-true}
use Rattle.std.proofs.lemmas.List.{append-nil}
use Rattle.lease_texts.specs.Pieces.{pieces, lines_of}
use Rattle.leasecheck.specs.Comments.{comments_from}
use Rattle.leasecheck.proofs.comments.comments_of.Goals as goal

-- no line is left, and so none that tells a fact
none_left : (before text : List ℕ) → length text ≡ 0 → comments_from before (lines_of text) ≡ []
unfolding pieces comments_from
none_left before [] e = refl
none_left before (byte ∷ text) e = absurd (omega arith)

pub returns : goal.returns
returns c =
    let empty : (length c.loop-before.rest.now == 0) ≡ true = sym c.is_empty.ensures ∙ c.loop-before-test.false in
    sym (append-nil c.loop-before.found.items) ∙ (ap (λ (said : List (List ℕ)). c.loop-before.found.items ++ said)
    (sym (none_left c.loop-before.before.now c.loop-before.rest.now (eqb-true _ 0 empty))) ∙ c.loop-before.invariant)
