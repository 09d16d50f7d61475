use Rattle.lease_laws.proofs.Words.{◌≡◌, map, take}
use Rattle.lease_manager.specs.Kept.{is_one_of, disconnected_where}
use Rattle.lease_manager.proofs.tables.changes.disconnect_all.Given as goal

abbrev pub invariant-loop-id : goal.invariant-loop-id
invariant-loop-id l = l.opens ≡ map (disconnected_where (is_one_of (map (λ id. id.0) (take l.id-index l.ids)))) l.fn.opens
