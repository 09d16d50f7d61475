use Rattle.std.proofs.Common.{◌≡◌, ◌+◌, List, drop}
use Rattle.capture_walk.specs.Events.{Knows}
use Rattle.capture_walk.specs.Frames.{seen_behind, seen_after}
use Rattle.capture_walk.specs.declared.note.Seen.{Seen}
use Rattle.capture_walk.proofs.walk.Walk.take_frame.Given as goal

-- what is left leads to what is seen after all
abbrev pub invariant-loop-index : goal.invariant-loop-index
invariant-loop-index l = record {
  counted : l.number ≡ l.frame.number + l.index;
  known : (past : List Seen) → Knows past l.fn.self
      → (now : List Seen) × Knows now l.self
      × (seen_behind l.frame l.number l.before (drop l.index l.messages) now ≡ seen_after l.frame l.messages past);
}
