use Rattle.std.specs.Io.KnownBytes.{Keeps}
use Rattle.leasecheck.proofs.judging.read_block.Given as goal

-- a read that was interrupted gave nothing
abbrev pub invariant-loop-turn : goal.invariant-loop-turn
invariant-loop-turn g l = Keeps (g.I.Read.remaining l.fn.input) (g.I.Read.remaining l.input)
