use Rattle.lease_laws.proofs.Words.{◌∙◌, sym}
use Rattle.lease_manager.proofs.opens.Tabling.{listed_lease}
use Rattle.lease_manager.proofs.tables.Tables.lease.Goals as goal

pub returns : goal.returns
returns c = rw (← c.self.view_is) (c.lease.ensures ∙ sym (listed_lease c.self.inside.summaries c.args.key))
