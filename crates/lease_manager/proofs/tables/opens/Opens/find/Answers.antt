use Rattle.lease_laws.proofs.Words.{◌∙◌}
use Rattle.lease_manager.proofs.opens.Filing.{find_filed}
use Rattle.lease_manager.proofs.tables.opens.Opens.find.Goals as goal

pub returns-clause-found : goal.returns-clause-found
returns-clause-found c = rw (← c.self.view_is)
    (c.get.ensures.value ∙ find_filed c.args.fid.0 c.self.inside.by_id.entries c.self.invariant.0)

pub returns-clause-in_order : goal.returns-clause-in_order
returns-clause-in_order c = rw (← c.self.view_is) c.self.invariant.1
