use Rattle.lease_laws.proofs.Words.{refl, subst, sym}
use Rattle.std.proofs.lemmas.Result.{IfOk-weaker}
use Rattle.lease_manager.specs.Listings.{AreWaiting}
use Rattle.lease_manager.specs.contracts.tables.Tables.{the_view}
use Rattle.lease_manager.proofs.waits.Listed.{waiting_are}
use Rattle.lease_manager.proofs.tables.Tables.listed_requests.Goals as goal

pub returns : goal.returns
returns c =
    let table = the_view c.self.inside in
    let are = waiting_are table c.self.inside.queues refl c.listed.ensures.ordered in
    rw (← c.self.view_is)
    (IfOk-weaker c.listed.result _ _ (λ requests same. subst (AreWaiting table) (sym same) are) c.listed.ensures.listed)
