use Rattle.std.proofs.Common.{◌≡◌, ◌++◌, ◌+◌, ◌≤◌, length}
use Rattle.lease_texts.specs.Pieces.{lines_of}
use Rattle.leasecheck.specs.Idle.{event_lines}
use Rattle.leasecheck.proofs.idle.event_lines.Given as goal

-- what is left gives the whole
abbrev pub invariant-loop-rest : goal.invariant-loop-rest
invariant-loop-rest l = record {
  whole : l.lines.items ++ event_lines (l.number + 1) (lines_of l.rest) ≡ event_lines 1 (lines_of l.text);
  counted : l.number + length l.rest ≤ length l.text;
}

abbrev pub decreases-loop-rest : goal.decreases-loop-rest
decreases-loop-rest l = length l.rest
