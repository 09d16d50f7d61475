use Rattle.lease_laws.proofs.Words.{refl, subst, sym}
use Rattle.std.proofs.lemmas.Result.{IfOk-weaker}
use Rattle.lease_manager.specs.Listings.{AreLeases}
use Rattle.lease_manager.specs.Table.{server_of}
use Rattle.lease_manager.specs.contracts.tables.Tables.{the_view}
use Rattle.lease_manager.proofs.opens.Tabling.{stands_now}
use Rattle.lease_manager.proofs.sums.Listed.{leases_are}
use Rattle.lease_manager.proofs.tables.Tables.listed_leases.Goals as goal

pub returns : goal.returns
returns c =
    let table = the_view c.self.inside in
    let are = leases_are c.self.inside.summaries (server_of table)
    (stands_now table c.self.inside.summaries c.self.invariant.0 refl) c.listed.ensures.ordered in
    rw (← c.self.view_is)
    (IfOk-weaker c.listed.result _ _ (λ leases same. subst (AreLeases (server_of table)) (sym same) are) c.listed.ensures.listed)
