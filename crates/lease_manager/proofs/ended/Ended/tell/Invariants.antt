use Rattle.lease_laws.proofs.Words.{◌++◌, ◌≡◌, map}
use Rattle.manager_model.specs.Decisions.{Decision}
use Rattle.lease_manager.specs.Ending.{ids_in}
use Rattle.lease_manager.specs.LeftOpens.{numbers}
use Rattle.lease_manager.proofs.ended.Ended.tell.Given as goal

abbrev pub invariant-loop-id : goal.invariant-loop-id
invariant-loop-id l = l.told ++ map Decision.Ended (numbers l.id-iterator) ≡ l.fn.told ++ map Decision.Ended (ids_in l.self)
