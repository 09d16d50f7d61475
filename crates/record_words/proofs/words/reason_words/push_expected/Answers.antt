use Rattle.std.proofs.Common.{List, ℕ, ◌++◌, ap, ◌∙◌}
use Rattle.std.specs.String.{string_bytes}
use Rattle.record_words.proofs.Chain.{on_ok, eight_parts}
use Rattle.record_words.proofs.words.reason_words.push_expected.Goals as goal
use Rattle.record_words.specs.words.FactWords.{shown_bytes}
use Rattle.record_words.specs.words.ReasonWords.{waiting_lines}

pub returns : goal.returns
returns c = on_ok c.push_waiting.result (λ h. eight_parts _ _ _ _ _ _ _ _ _ _ _ _ _ _ _ _ _ c.in_ok-push_words.ensures
    (c.in_ok-push_bytes.ensures ∙ ap (λ (bytes : List ℕ). string_bytes c.push_words.new.text ++ shown_bytes bytes)
    c.as_slice.ensures) c.in_ok-push_words-2.ensures
    c.in_ok-push_place.ensures c.in_ok-push_place-2.ensures c.in_ok-push_place_if.ensures c.in_ok-push_place_if-2.ensures
    (h ∙ ap (λ (places : List ℕ). string_bytes c.push_place_if-2.new.text ++ waiting_lines c.args.placed.now places)
    c.as_slice-2.ensures.value)) c.push_waiting.ensures
