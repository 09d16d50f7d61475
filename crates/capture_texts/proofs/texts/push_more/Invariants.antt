use Rattle.std.proofs.Common.{◌≡◌, ◌++◌, flat_map, take}
use Rattle.{std.specs.String.string_bytes, capture_texts.specs.Texts.one_more}
use Rattle.capture_texts.proofs.texts.push_more.Given as goal

abbrev pub invariant-loop-client : goal.invariant-loop-client
invariant-loop-client l = string_bytes l.text ≡ string_bytes l.fn.text ++ flat_map one_more (take l.client-index l.clients)
