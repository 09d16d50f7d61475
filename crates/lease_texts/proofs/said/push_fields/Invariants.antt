use Rattle.std.proofs.Common.{◌≡◌, ◌++◌, take}
use Rattle.{lease_texts.specs.Written.texts_behind, std.specs.String.string_bytes}
use Rattle.lease_texts.proofs.said.push_fields.Given as goal

abbrev pub invariant-loop-one : goal.invariant-loop-one
invariant-loop-one l = string_bytes l.text ≡ string_bytes l.fn.text ++ texts_behind (take l.one-index l.said)
