use Rattle.lease_laws.proofs.Words.{◌∙◌, [], has_key, refl}
use Rattle.lease_manager.proofs.tries.Breaking.{dropped, silent}
use Rattle.lease_manager.proofs.tries.Calling.{at_now, closed_told, lease_ended}
use Rattle.lease_manager.proofs.calls.end_lease.Goals as goal

pub returns : goal.returns
returns c =
    let after = lease_ended c.args.tables.now c.close.new.self c.expire.new.self c.args.key (has_key c.args.key)
    (dropped c.args.tables.now c.close.new.self [] _ c.in_ok-ids.ensures.closed)
    (silent c.close.new.self c.expire.new.self [] _ c.in_ok-expire.ensures.changed) in
    at_now c.args.tables.now c.expire.new.self c.args.told.now c.ended_all.new.self _ after
    (c.in_ok-expire.ensures.queues ∙ c.in_ok-ids.ensures.queues)
    (closed_told c.args.tables.now _ c.args.told.now c.ended_all.new.self _ (has_key c.args.key) c.in_ok-ids.ensures.in_order
    c.in_ok-ids.ensures.ids refl
    (rw c.deref.ensures.value at c.in_ok-ended_all.ensures))
