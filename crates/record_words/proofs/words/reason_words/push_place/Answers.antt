use Rattle.std.proofs.Common.{ℕ, ◌++◌, ap, ◌∙◌}
use Rattle.std.specs.String.{string_bytes}
use Rattle.std.specs.Prelude.{Option}
use Rattle.record_words.proofs.Chain.{on_ok, four_parts}
use Rattle.lease_facts.specs.declared.fact.Fact.{Fact}
use Rattle.record_words.specs.words.ReasonWords.{words_of, place_line, line_words}
use Rattle.record_words.proofs.words.reason_words.push_place.Goals as goal

pub returns : goal.returns
unfolding place_line
returns c = on_ok c.push_words-2.result (λ h. four_parts _ _ _ _ _ _ _ _ _
    (c.in_ok-write.ensures.bytes ∙ ap (λ (n : ℕ). string_bytes c.args.text.now ++ line_words n) c.line-number.ensures)
    (c.in_ok-push_fact.ensures ∙ ap (λ (f : Option Fact). string_bytes c.write.new.self ++ words_of f) c.fact.ensures)
    c.in_ok-push_words.ensures h) c.push_words-2.ensures
