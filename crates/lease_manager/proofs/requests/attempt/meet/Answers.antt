use Rattle.lease_laws.proofs.Words.{◌∙◌, Server, ap, is_left_open, lease_broken}
use Rattle.lease_manager.specs.Ending.{ids_in}
use Rattle.lease_manager.proofs.tries.Breaking.{dropped}
use Rattle.lease_manager.proofs.tries.Ending.{ends_closed, ends_same, ends_then}
use Rattle.lease_manager.proofs.requests.attempt.meet.Goals as goal

pub returns-clause-step : goal.returns-clause-step
returns-clause-step c = rw (← c.want.view_is) (c.in_ok-break_lease.ensures.step
    ∙ ap (lease_broken _ _) (dropped c.args.tables.now c.close.new.self c.args.outs.now _ c.in_ok-ids.ensures.closed))

pub returns-clause-queues : goal.returns-clause-queues
returns-clause-queues c = c.in_ok-break_lease.ensures.queues ∙ c.in_ok-ids.ensures.queues

pub returns-clause-ends : goal.returns-clause-ends
returns-clause-ends c = ends_then c.args.tables.now.opens c.close.new.self.opens c.break_lease.new.tables.opens
    (ids_in c.args.ended.now) (ids_in c.add_all.new.self) (ids_in c.add_all.new.self)
    (ends_closed c.args.tables.now.opens c.close.new.self.opens (ids_in c.args.ended.now) (ids_in c.add_all.new.self) _
    (is_left_open c.want.inside.key) c.in_ok-ids.ensures.ids
    (ap (λ (server : Server). server.opens) c.in_ok-ids.ensures.closed) (rw c.deref.ensures.value at c.in_ok-add_all.ensures))
    (ends_same c.close.new.self.opens c.break_lease.new.tables.opens (ids_in c.add_all.new.self)
    c.in_ok-break_lease.ensures.opens)
