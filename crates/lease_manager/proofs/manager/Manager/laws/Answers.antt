use Rattle.lease_manager.specs.contracts.manager.Manager.{the_view}
use Rattle.lease_manager.proofs.follows.Always as always
use Rattle.lease_manager.proofs.manager.Manager.laws.Goals as goal

pub returns-clause-lasting : goal.returns-clause-lasting
returns-clause-lasting c = rw (← c.self.view_is) (always.what_lasts (the_view c.self.inside) c.self.invariant)

pub returns-clause-connected : goal.returns-clause-connected
returns-clause-connected c = rw (← c.self.view_is) (always.waiters_connected (the_view c.self.inside) c.self.invariant)

pub returns-clause-waiting : goal.returns-clause-waiting
returns-clause-waiting c = rw (← c.self.view_is) (always.waiters_wait (the_view c.self.inside) c.self.invariant)

pub returns-clause-idly : goal.returns-clause-idly
returns-clause-idly c = rw (← c.self.view_is) (always.nothing_idle (the_view c.self.inside) c.self.invariant)

pub returns-clause-whole : goal.returns-clause-whole
returns-clause-whole c = rw (← c.self.view_is) c.self.invariant
