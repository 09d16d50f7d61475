use Rattle.lease_manager.proofs.opens.Tabling.{kept_raised}
use Rattle.lease_manager.proofs.tables.Tables.raise_last_id.Goals as goal

pub invariant_of-self : goal.invariant_of-self
invariant_of-self c = (
  kept_raised c.self.inside.opens c.self.inside.summaries c.self.inside.last_id c.args.last.0 c.self.invariant.0
      (rw (← c.self.view_is) at c.requires),
  c.self.invariant.1,
  c.self.invariant.2,
)
