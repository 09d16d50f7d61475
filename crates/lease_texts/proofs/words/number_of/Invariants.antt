use Rattle.std.proofs.Common.{◌≡◌, Some, drop}
use Rattle.lease_texts.specs.Fields.{number_after}
use Rattle.lease_texts.proofs.words.number_of.Given as goal

-- what is left gives the whole
abbrev pub invariant-loop-digit : goal.invariant-loop-digit
invariant-loop-digit l = number_after (Some l.value) (drop l.digit-index l.digits) ≡ number_after (Some 0) l.digits
