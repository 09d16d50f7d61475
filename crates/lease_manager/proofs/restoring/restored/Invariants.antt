use Rattle.lease_laws.proofs.Words.{take}
use Rattle.lease_manager.proofs.opens.Restoring.{IsSoFar}
use Rattle.lease_manager.proofs.restoring.restored.Given as goal

abbrev pub invariant-loop-one : goal.invariant-loop-one
invariant-loop-one l = IsSoFar l.fn.rules l.fn.files.0 l.fn.last.0 l.tables (take l.one-index l.kept)
