use Rattle.std.proofs.Common.{◌≡◌, List, map, take}
use Rattle.std.specs.List.{AllZip}
use Rattle.capture_texts.specs.declared.finding.FileFinding.{FileFinding}
use Rattle.capture_texts.specs.records.Casts.{IsAt}
use Rattle.capture_texts.specs.records.Changes.{shown, changes_of}
use Rattle.capture_texts.proofs.records.change.changes_of.Given as goal

abbrev pub invariant-loop-index : goal.invariant-loop-index
invariant-loop-index l = (chosen : List FileFinding) → AllZip (IsAt l.files) l.findings chosen
    → map shown l.changes.items ≡ changes_of l.clients l.findings (take l.index chosen)
