use Rattle.std.proofs.Common.{List, take}
use Rattle.capture_walk.specs.declared.note.Seen.{Seen}
use Rattle.capture_texts.specs.Captures.{HasSeen}
use Rattle.capture_texts.specs.Reports.{AreClientsFound}
use Rattle.capture_texts.specs.declared.line.Line.{Line}
use Rattle.capture_texts.proofs.capture.Capture.client_findings.Given as goal

abbrev pub invariant-loop-loss : goal.invariant-loop-loss
invariant-loop-loss l = (past : List Line) (seen : List Seen) → HasSeen past seen l.self
    → AreClientsFound past (take l.loss-index l.loss-items) l.findings.items
