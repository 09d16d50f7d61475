use Rattle.lease_laws.proofs.Words.{◌++◌, ◌≡◌, List, ℕ, drop}
use Rattle.leasecheck.specs.Idle.{idle_line, record_told}
use Rattle.leasecheck.specs.Recording.{HasGathered, facts_told}
use Rattle.leasecheck.proofs.recording.write_facts.Given as goal

-- what is told and what is left are the whole
abbrev pub invariant-loop-count : goal.invariant-loop-count
invariant-loop-count g l = (told : List ℕ) × HasGathered (g.O.Write.contents l.fn.out) (g.O.Write.contents l.out) l.gathered told
    × (told ++ record_told (idle_line l.recorded.lines.items) l.count (drop l.count l.recorded.facts.items) l.messages l.idle
    ≡ facts_told l.recorded)
