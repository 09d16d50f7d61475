use Rattle.lease_laws.proofs.Words.{◌∙◌}
use Rattle.lease_manager.proofs.sums.Asking.{is_known}
use Rattle.lease_manager.proofs.tables.summaries.Summaries.has_lease.Goals as goal

pub returns : goal.returns
returns c = λ server stand. c.contains_key.ensures ∙ is_known c.args.key server.opens _ (stand.agree.records c.args.key)
