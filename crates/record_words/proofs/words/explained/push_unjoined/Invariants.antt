use Rattle.std.proofs.Common.{◌≡◌, ◌++◌, take}
use Rattle.std.specs.List.{flat_map}
use Rattle.std.specs.String.{string_bytes}
use Rattle.record_words.specs.words.Explained.{unjoined_line}
use Rattle.record_words.proofs.words.explained.push_unjoined.Given as goal

abbrev pub invariant-loop-client : goal.invariant-loop-client
invariant-loop-client l = string_bytes l.text ≡ string_bytes l.fn.text ++ flat_map unjoined_line (take l.client-index l.clients)
