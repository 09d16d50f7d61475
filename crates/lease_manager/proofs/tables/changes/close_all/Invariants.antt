use Rattle.lease_laws.proofs.Words.{map, take}
use Rattle.lease_manager.specs.Kept.{HaveClosed}
use Rattle.lease_manager.specs.Summaries.{Agrees}
use Rattle.lease_manager.proofs.tables.changes.close_all.Given as goal

abbrev pub invariant-loop-id : goal.invariant-loop-id
invariant-loop-id l = Agrees l.fn.summaries l.fn.opens
    → HaveClosed l.fn.opens (map (λ id. id.0) (take l.id-index l.ids)) l.fn.summaries l.opens l.summaries
