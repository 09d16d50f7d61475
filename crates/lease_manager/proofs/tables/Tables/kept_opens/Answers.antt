use Rattle.std.proofs.lemmas.Result.{IfOk-weaker}
use Rattle.lease_manager.specs.Summaries.{lease_in}
use Rattle.lease_manager.specs.Table.{server_of}
use Rattle.lease_manager.specs.contracts.tables.Tables.{the_view}
use Rattle.lease_manager.proofs.opens.Restarting.{kept_of}
use Rattle.lease_manager.proofs.opens.Tabling.{leases_are}
use Rattle.lease_manager.proofs.tables.Tables.kept_opens.Goals as goal

pub returns : goal.returns
returns c =
    let table = the_view c.self.inside in
    rw (← c.self.view_is)
    (IfOk-weaker c.kept.result _ _ (λ kept are. kept_of (server_of table) (lease_in c.self.inside.summaries) kept.items
    (leases_are c.self.inside.summaries) are) c.kept.ensures)
