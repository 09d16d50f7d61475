use Rattle.lease_laws.proofs.Words.{◌∙◌, ap, is_breaking, refl, sym}
use Rattle.lease_manager.specs.Table.{server_of}
use Rattle.lease_manager.specs.contracts.tables.Tables.{the_view}
use Rattle.lease_manager.proofs.opens.Tabling.{listed_lease, stands_now}
use Rattle.lease_manager.proofs.tables.Tables.are_handles_going.Goals as goal

pub returns : goal.returns
returns c =
    let table = the_view c.self.inside in
    rw (← c.self.view_is) (λ yes. (
      c.are_handlers_breaking.ensures (server_of table) (stands_now table c.self.inside.summaries c.self.invariant.0 refl) yes,
      λ known key breaks. c.self.invariant.2 c.if-not-self.false key
          (sym (ap is_breaking (listed_lease c.self.inside.summaries key)) ∙ breaks),
    ))
