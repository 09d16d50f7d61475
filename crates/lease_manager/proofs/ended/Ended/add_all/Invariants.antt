use Rattle.lease_laws.proofs.Words.{◌≡◌, drop}
use Rattle.lease_manager.specs.Ending.{all_added, ids_in}
use Rattle.lease_manager.specs.LeftOpens.{numbers}
use Rattle.lease_manager.proofs.ended.Ended.add_all.Given as goal

abbrev pub invariant-loop-id : goal.invariant-loop-id
invariant-loop-id l = all_added (ids_in l.self) (numbers (drop l.id-index l.ids)) ≡ all_added (ids_in l.fn.self) (numbers l.ids)
