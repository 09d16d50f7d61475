use Rattle.lease_laws.proofs.Words.{◌∙◌, ap, map, refl}
use Rattle.lease_manager.specs.Table.{server_of}
use Rattle.lease_manager.specs.Wishes.{want_of}
use Rattle.lease_manager.specs.contracts.tables.Tables.{the_view}
use Rattle.lease_manager.proofs.opens.Tabling.{stands_now}
use Rattle.lease_manager.proofs.sums.Wanting.{wants_are}
use Rattle.lease_manager.proofs.tables.Tables.wants.Goals as goal

pub returns : goal.returns
returns c =
    let table = the_view c.self.inside in
    rw (← c.self.view_is) (rw (← c.self.view_is) at c.in_ok-wants.ensures
    ∙ (ap (map (want_of c.args.wish (server_of table))) (c.deref.ensures.value ∙ c.in_ok-keys.ensures (server_of table)
    (stands_now table c.self.inside.summaries c.self.invariant.0 refl))
    ∙ wants_are c.args.wish (server_of table) c.args.own c.args.file))
