use Rattle.std.proofs.Common.{◌≡◌, ◌++◌, length}
use Rattle.lease_texts.specs.Pieces.{lines_of}
use Rattle.leasecheck.specs.Comments.{comments, comments_from}
use Rattle.leasecheck.proofs.comments.comments_of.Given as goal

-- what is left gives the whole
abbrev pub invariant-loop-before : goal.invariant-loop-before
invariant-loop-before l = l.found.items ++ comments_from l.before (lines_of l.rest) ≡ comments l.text

abbrev pub decreases-loop-before : goal.decreases-loop-before
decreases-loop-before l = length l.rest
