use Rattle.lease_laws.proofs.Words.{refl}
use Rattle.lease_manager.specs.Table.{server_of}
use Rattle.lease_manager.specs.contracts.tables.Tables.{the_view}
use Rattle.lease_manager.proofs.opens.Tabling.{stands_now}
use Rattle.lease_manager.proofs.tables.Tables.is_any_wanted.Goals as goal

pub returns : goal.returns
returns c =
    let table = the_view c.self.inside in
    rw (← c.self.view_is)
    (c.is_any_wanted.ensures (server_of table) (stands_now table c.self.inside.summaries c.self.invariant.0 refl))
