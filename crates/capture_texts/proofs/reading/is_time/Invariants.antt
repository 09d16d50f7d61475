use Rattle.std.proofs.Common.{◌≡◌, drop, false, nat_lt}
use Rattle.capture_texts.specs.Lines.{is_time}
use Rattle.capture_texts.proofs.reading.is_time.Given as goal

-- what is left gives the whole
abbrev pub invariant-loop-index : goal.invariant-loop-index
invariant-loop-index l = is_time (nat_lt 0 l.index) (drop l.index l.word) ≡ is_time false l.word
