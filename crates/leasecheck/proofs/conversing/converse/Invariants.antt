use Rattle.lease_lines.specs.Tables.{machines_of}
use Rattle.leasecheck.proofs.Spoken.{IsSoFar}
use Rattle.leasecheck.proofs.conversing.converse.Given as goal

abbrev pub invariant-loop-number : goal.invariant-loop-number
invariant-loop-number g l = IsSoFar (g.I.Read.remaining l.fn.input) (g.I.Read.remaining l.input) (machines_of l.fn.machines)
    (machines_of l.machines) l.number (g.O.Write.contents l.fn.out) (g.O.Write.contents l.out) (g.F.Write.contents l.fn.faults)
    (g.F.Write.contents l.faults)
