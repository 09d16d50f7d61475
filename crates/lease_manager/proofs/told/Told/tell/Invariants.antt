use Rattle.lease_laws.proofs.Words.{◌++◌, ◌≡◌, drop, map}
use Rattle.manager_model.specs.Decisions.{told_of}
use Rattle.lease_manager.specs.Outs.{out_of}
use Rattle.lease_manager.proofs.told.Told.tell.Given as goal

abbrev pub invariant-loop-out : goal.invariant-loop-out
invariant-loop-out l = l.self ++ told_of l.tag.0 (map out_of (drop l.out-index l.out-items)) ≡ l.fn.self ++ told_of l.tag.0 l.outs
