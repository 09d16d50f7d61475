use Rattle.std.proofs.Common.{◌≡◌}
use Rattle.lease_texts.specs.Complaints.{leaves}
use Rattle.lease_texts.proofs.complaints.finding.leaves.Given as goal

-- what is left gives the whole
abbrev pub invariant-loop-field : goal.invariant-loop-field
invariant-loop-field l = leaves l.field l.expected l.words ≡ leaves 2 l.first l.fn.words
