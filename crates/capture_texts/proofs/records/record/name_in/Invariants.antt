use Rattle.std.proofs.Common.{◌≡◌, drop}
use Rattle.capture_texts.specs.records.Remarks.{name_in}
use Rattle.capture_texts.proofs.records.record.name_in.Given as goal

-- what is left gives the whole
abbrev pub invariant-loop-file : goal.invariant-loop-file
invariant-loop-file l = name_in l.client (drop l.file-index l.files) ≡ name_in l.client l.files
