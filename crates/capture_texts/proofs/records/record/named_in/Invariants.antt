use Rattle.std.proofs.Common.{◌≡◌, drop}
use Rattle.capture_texts.specs.records.Remarks.{named_in}
use Rattle.capture_texts.proofs.records.record.named_in.Given as goal

-- what is left gives the whole
abbrev pub invariant-loop-name : goal.invariant-loop-name
invariant-loop-name l = named_in l.client (drop l.name-index l.names) ≡ named_in l.client l.names
