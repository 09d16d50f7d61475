use Rattle.std.proofs.Common.{◌≡◌, ◌+◌, ◌≤◌, ◌++◌, length}
use Rattle.lease_texts.specs.Pieces.{lines_of}
use Rattle.lease_texts.specs.Reading.{reads_on}
use Rattle.lease_texts.specs.Records.{with_line, record_in}
use Rattle.record_words.specs.words.Placed.{fact_lines}
use Rattle.record_words.proofs.words.placed.read_placed.Given as goal

-- what is left gives the whole
abbrev pub invariant-loop-rest : goal.invariant-loop-rest
invariant-loop-rest l = record {
  whole : reads_on with_line (l.number + 1) l.placed.facts.items (lines_of l.rest) ≡ record_in l.text;
  placed : l.placed.lines.items ++ fact_lines (l.number + 1) (lines_of l.rest) ≡ fact_lines 1 (lines_of l.text);
  counted : l.number + length l.rest ≤ length l.text;
}

abbrev pub decreases-loop-rest : goal.decreases-loop-rest
decreases-loop-rest l = length l.rest
