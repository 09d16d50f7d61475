use Rattle.lease_manager.specs.contracts.manager.Manager.{the_view}
use Rattle.lease_manager.proofs.follows.Breaking.{breaks_stand_first}
use Rattle.lease_manager.proofs.manager.Manager.law_of_breaks.Goals as goal

pub returns : goal.returns
returns c = rw (← c.self.view_is) (breaks_stand_first (the_view c.self.inside) c.self.invariant)
