use Rattle.std.proofs.Common.{length}
use Rattle.record_words.proofs.pictures.svg.push_note_lines.Given as goal

abbrev pub decreases-loop-rest : goal.decreases-loop-rest
decreases-loop-rest l = length l.rest
