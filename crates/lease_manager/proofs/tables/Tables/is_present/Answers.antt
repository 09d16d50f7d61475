use Rattle.lease_laws.proofs.Words.{◌∙◌}
use Rattle.lease_manager.proofs.opens.Joining.{present_is}
use Rattle.lease_manager.proofs.tables.Tables.is_present.Goals as goal

pub returns : goal.returns
returns c = rw (← c.self.view_is) (c.contains.ensures ∙ present_is c.self.inside.present c.args.client)
