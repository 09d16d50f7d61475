use Rattle.std.proofs.Common.{◌≡◌, ◌+◌, ◌≤◌, length, List}
use Rattle.lease_texts.specs.Pieces.{lines_of}
use Rattle.lease_texts.specs.Reading.{reads_on}
use Rattle.capture_texts.specs.Captures.{Knows, capture_in, with_text}
use Rattle.capture_texts.specs.declared.line.Line.{Line}
use Rattle.capture_texts.proofs.whole.read_capture.Given as goal

-- what is left gives the whole
abbrev pub invariant-loop-rest : goal.invariant-loop-rest
invariant-loop-rest l = record {
  whole : (past : List Line) × (reads_on with_text (l.number + 1) past (lines_of l.rest) ≡ capture_in l.text)
      × Knows past l.capture;
  at : l.capture.at ≡ l.fn.at;
  counted : l.number + length l.rest ≤ length l.text;
}

abbrev pub decreases-loop-rest : goal.decreases-loop-rest
decreases-loop-rest l = length l.rest
