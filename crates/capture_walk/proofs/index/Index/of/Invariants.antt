use Rattle.std.proofs.Common.{drop}
use Rattle.capture_walk.specs.Index.{Leads}
use Rattle.capture_walk.proofs.index.Index.of.Given as goal

-- what is left leads to the index of all
abbrev pub invariant-loop-place : goal.invariant-loop-place
invariant-loop-place l = Leads (drop l.place l.events) l.events l.index
