use Rattle.lease_laws.proofs.Words.{◌∙◌, ap, option_map, refl, sym}
use Rattle.lease_manager.proofs.opens.Homes.{home_is, none_found}
use Rattle.lease_manager.proofs.opens.Tabling.{stands_now}
use Rattle.lease_manager.specs.Table.{server_of}
use Rattle.lease_manager.specs.contracts.tables.Tables.{the_view}
use Rattle.lease_manager.proofs.tables.Tables.file_of_key.Goals as goal

pub returns-then-has_lease : goal.returns-then-has_lease
returns-then-has_lease c =
    let table = the_view c.self.inside in
    let has = c.has_lease.ensures (server_of table) (stands_now table c.self.inside.summaries c.self.invariant.0 refl) in
    rw (← c.self.view_is) (home_is c.args.key c.self.inside.opens (option_map (λ file. file.0) c.home.result)
    (c.home.ensures c.self.inside.opens c.self.invariant.0.agree) (sym has ∙ c.if-has_lease.true))

pub returns-else-has_lease : goal.returns-else-has_lease
returns-else-has_lease c =
    let table = the_view c.self.inside in
    let has = c.has_lease.ensures (server_of table) (stands_now table c.self.inside.summaries c.self.invariant.0 refl) in
    rw (← c.self.view_is) (sym (ap (option_map (λ one. one.file))
    (none_found c.args.key c.self.inside.opens (sym has ∙ c.if-has_lease.false))))
