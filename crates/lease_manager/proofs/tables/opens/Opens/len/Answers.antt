use Rattle.lease_manager.proofs.tables.opens.Opens.len.Goals as goal

pub returns-clause-in_order : goal.returns-clause-in_order
returns-clause-in_order c = rw (← c.self.view_is) c.self.invariant.1
