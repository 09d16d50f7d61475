use Rattle.lease_laws.proofs.Words.{◌++◌, ◌≡◌, drop, map}
use Rattle.manager_model.specs.Decisions.{Decision}
use Rattle.lease_manager.specs.LeftOpens.{numbers}
use Rattle.lease_manager.proofs.told.Told.left_behind_all.Given as goal

abbrev pub invariant-loop-id : goal.invariant-loop-id
invariant-loop-id l = l.self ++ map Decision.LeftBehind (numbers (drop l.id-index l.ids))
    ≡ l.fn.self ++ map Decision.LeftBehind (numbers l.ids)
