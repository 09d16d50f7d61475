use Rattle.lease_manager.specs.contracts.manager.Manager.{the_view}
use Rattle.lease_manager.proofs.follows.Durable.{durable_answered}
use Rattle.lease_manager.proofs.manager.Manager.law_of_durable_opens.Goals as goal

pub returns : goal.returns
returns c = rw (← c.self.view_is) (durable_answered (the_view c.self.inside))
