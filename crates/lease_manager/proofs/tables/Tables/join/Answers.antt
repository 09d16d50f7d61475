use Rattle.lease_laws.proofs.Words.{true}
use Rattle.lease_manager.specs.Expired.{ran_out}
use Rattle.lease_manager.specs.contracts.tables.Tables.{the_view}
use Rattle.lease_manager.proofs.opens.Expiring.{expired_less}
use Rattle.lease_manager.proofs.opens.Joining.{present_put, tables_joined}
use Rattle.lease_manager.proofs.tables.Tables.join.Goals as goal

pub returns-clause-joined : goal.returns-clause-joined
returns-clause-joined c = rw (← c.self.view_is)
    (tables_joined (the_view c.self.inside) c.insert.new.self.keys (ran_out c.clear.new.self) c.args.client
    (present_put c.self.inside.present c.insert.new.self c.args.client true c.in_ok-insert.ensures.updates)
    (expired_less c.self.inside.expired c.clear.new.self c.args.client c.clear.ensures))
