use Rattle.lease_laws.proofs.Words.{◌++◌, ◌≡◌, List, ℕ, length}
use Rattle.lease_texts.specs.Pieces.{lines_of}
use Rattle.leasecheck.specs.Judging.{HasRead}
use Rattle.leasecheck.proofs.judging.Progress.take_lines.Given as goal

-- what was taken and what is left are the whole text
abbrev pub invariant-loop-rest : goal.invariant-loop-rest
invariant-loop-rest l = (lines : List (List ℕ)) → HasRead l.fn.self lines
    → (taken : List (List ℕ)) × HasRead l.progress (lines ++ taken) × (taken ++ lines_of l.rest ≡ lines_of l.text)

abbrev pub decreases-loop-rest : goal.decreases-loop-rest
decreases-loop-rest l = length l.rest
