use Rattle.std.proofs.Common.{List, take}
use Rattle.capture_walk.specs.declared.note.Seen.{Seen}
use Rattle.capture_texts.specs.Captures.{HasSeen}
use Rattle.capture_texts.specs.Reports.{AreEpochsFound}
use Rattle.capture_texts.specs.declared.line.Line.{Line}
use Rattle.capture_texts.proofs.capture.Capture.epoch_findings.Given as goal

abbrev pub invariant-loop-one : goal.invariant-loop-one
invariant-loop-one l = (past : List Line) (seen : List Seen) → HasSeen past seen l.self
    → AreEpochsFound past (take l.one-index l.one-items) l.findings.items
