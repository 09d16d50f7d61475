use Rattle.lease_laws.proofs.Words.{refl}
use Rattle.lease_manager.specs.Table.{server_of}
use Rattle.lease_manager.specs.contracts.tables.Tables.{the_view}
use Rattle.lease_manager.proofs.opens.Tabling.{stands_now, leased_by}
use Rattle.lease_manager.proofs.tables.Tables.is_leased_elsewhere.Goals as goal

pub returns-in-Some : goal.returns-in-Some
returns-in-Some c =
    let table = the_view c.self.inside in
    rw (← c.self.view_is) (leased_by (server_of table) c.args.own c.in-Some.key c.args.file.0 _ c.in-Some.is
    (c.is_elsewhere.ensures (server_of table) (stands_now table c.self.inside.summaries c.self.invariant.0 refl)))
