use Rattle.std.proofs.Common.{List, take}
use Rattle.capture_walk.specs.declared.note.Seen.{Seen}
use Rattle.capture_texts.specs.Captures.{HasSeen}
use Rattle.capture_texts.specs.Reports.{AreFound}
use Rattle.capture_texts.specs.declared.line.Line.{Line}
use Rattle.capture_texts.proofs.capture.Capture.findings_by.Given as goal

abbrev pub invariant-loop-file : goal.invariant-loop-file
invariant-loop-file l = (past : List Line) (seen : List Seen) → HasSeen past seen l.self
    → AreFound past seen (take l.file-index l.file-items) l.findings.items
