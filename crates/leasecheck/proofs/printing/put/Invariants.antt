use Rattle.lease_laws.proofs.Words.{◌++◌, ◌≡◌, [], Appends, List, ℕ}
use Rattle.leasecheck.proofs.printing.put.Given as goal

-- what was written and what is left are the text; where that is empty, it is seen at the first turn
abbrev pub invariant-loop-turn : goal.invariant-loop-turn
invariant-loop-turn g l = (part : List ℕ) × (part ++ l.left ≡ l.text)
    × Appends (g.W.Write.contents l.fn.out) (g.W.Write.contents l.out) part × (l.text ≡ [] → l._turn ≡ 0)
