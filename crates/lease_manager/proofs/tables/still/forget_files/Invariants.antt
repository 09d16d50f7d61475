use Rattle.lease_laws.proofs.Words.{map, take}
use Rattle.lease_manager.specs.Kept.{is_one_of}
use Rattle.lease_manager.specs.StillWaiting.{HaveForgotten}
use Rattle.lease_manager.proofs.tables.still.forget_files.Given as goal

abbrev pub invariant-loop-id : goal.invariant-loop-id
invariant-loop-id l = HaveForgotten (is_one_of (map (λ id. id.0) (take l.id-index l.ids))) l.opens l.fn.waiting l.waiting
