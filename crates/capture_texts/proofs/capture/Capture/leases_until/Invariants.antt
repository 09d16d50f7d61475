use Rattle.std.proofs.Common.{List, take}
use Rattle.capture_walk.specs.declared.note.Seen.{Seen}
use Rattle.capture_texts.specs.Captures.{HasSeen}
use Rattle.capture_texts.specs.Reports.{AreLeasesFound}
use Rattle.capture_texts.specs.declared.line.Line.{Line}
use Rattle.capture_texts.proofs.capture.Capture.leases_until.Given as goal

abbrev pub invariant-loop-told : goal.invariant-loop-told
invariant-loop-told l = (past : List Line) (seen : List Seen) → HasSeen past seen l.self
    → AreLeasesFound past seen (take l.told-index l.told-items) l.findings.items
