use Rattle.std.proofs.Common.{length}
use Rattle.capture_texts.specs.Names.{names_in}
use Rattle.capture_texts.proofs.Remaining.{Left}
use Rattle.capture_texts.proofs.names.names_in.Given as goal

abbrev pub invariant-loop-name : goal.invariant-loop-name
invariant-loop-name l = Left l.items.items l.rest (names_in l.bytes)

abbrev pub decreases-loop-name : goal.decreases-loop-name
decreases-loop-name l = length l.rest
