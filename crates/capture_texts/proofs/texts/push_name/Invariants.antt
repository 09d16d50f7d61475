use Rattle.std.proofs.Common.{◌≡◌, ◌++◌, length}
use Rattle.{std.specs.String.string_bytes, capture_texts.specs.Texts.name_text}
use Rattle.capture_texts.proofs.texts.push_name.Given as goal

-- what is written so far, and the text of what is left, are all
abbrev pub invariant-loop-rest : goal.invariant-loop-rest
invariant-loop-rest l = string_bytes l.text ++ name_text l.rest ≡ string_bytes l.fn.text ++ name_text l.bytes

abbrev pub decreases-loop-rest : goal.decreases-loop-rest
decreases-loop-rest l = length l.rest
