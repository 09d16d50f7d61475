use Rattle.lease_laws.proofs.Words.{Progress, [], ap, is_left_behind, refl}
use Rattle.lease_manager.proofs.tries.Breaking.{dropped}
use Rattle.lease_manager.proofs.tries.Calling.{at_now, closed_told}
use Rattle.lease_manager.proofs.calls.end_open.Goals as goal

pub returns : goal.returns
returns c = at_now c.args.tables.now c.close.new.self c.args.told.now c.ended_all.new.self _
    (ap (λ (p : Progress). p.server) (dropped c.args.tables.now c.close.new.self [] _ c.in_ok-ids.ensures.closed))
    c.in_ok-ids.ensures.queues
    (closed_told c.args.tables.now _ c.args.told.now c.ended_all.new.self _ (is_left_behind c.args.fid.0)
    c.in_ok-ids.ensures.in_order
    c.in_ok-ids.ensures.ids refl (rw c.deref.ensures.value at c.in_ok-ended_all.ensures))
