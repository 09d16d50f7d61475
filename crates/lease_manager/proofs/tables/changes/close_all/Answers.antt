use Rattle.lease_laws.proofs.Words.{FileId}
use Rattle.std.proofs.lemmas.List.{map_more}
use Rattle.lease_manager.proofs.opens.Tabling.{closed_none, closed_more}
use Rattle.lease_manager.proofs.tables.changes.close_all.Goals as goal

pub loop-id-init : goal.loop-id-init
loop-id-init c = λ agree. closed_none c.args.opens.now c.args.summaries.now agree

pub loop-id-preserved : goal.loop-id-preserved
loop-id-preserved c = λ agree.
    let closed = c.loop-id.invariant agree in
    rw (map_more (λ (id : FileId). id.0) c.args.ids.now c.loop-id.id-index (record { 0 = 0 }) c.loop-id-test.true)
    (closed_more c.args.opens.now _ _ c.args.summaries.now c.loop-id.summaries c.close_one.new.summaries c.loop-id.opens
    c.close_one.new.opens closed c.close_one.ensures.opens (c.close_one.ensures.agrees closed.agree)
    (c.close_one.ensures.leases closed.agree))
