use Rattle.std.proofs.Common.{List, ◌++◌, length}
use Rattle.capture_wire.specs.declared.message.Message.{Message}
use Rattle.capture_walk.specs.Compounds.{HoldsMessages, FailsAfter}
use Rattle.capture_walk.specs.declared.compound.FrameFault.{FrameFault}
use Rattle.capture_walk.proofs.compound.read_frame.Given as goal

-- what the rest holds, or why it can't be read, is so of the whole
abbrev pub invariant-loop-first : goal.invariant-loop-first
invariant-loop-first l = record {
  holds : (later : List Message) → HoldsMessages l.rest later → HoldsMessages l.bytes (l.messages.items ++ later);
  fails : (later : List Message) (found : FrameFault) → FailsAfter l.rest later found
      → FailsAfter l.bytes (l.messages.items ++ later) found;
}

abbrev pub decreases-loop-first : goal.decreases-loop-first
decreases-loop-first l = length l.rest
