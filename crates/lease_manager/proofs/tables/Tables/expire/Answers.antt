use Rattle.std.proofs.lemmas.Result.{on_ok_weaker}
use Rattle.lease_manager.specs.Expired.{ran_out}
use Rattle.lease_manager.specs.contracts.tables.Tables.{the_view}
use Rattle.lease_manager.proofs.opens.Expiring.{expired_more, table_expired}
use Rattle.lease_manager.proofs.tables.Tables.expire.Goals as goal

pub returns-clause-changed : goal.returns-clause-changed
returns-clause-changed c = on_ok_weaker c.insert.result (λ changed. rw (← c.self.view_is, ← c.key.view_is)
    (table_expired (the_view c.self.inside) (ran_out c.insert.new.self) _
    (expired_more c.self.inside.expired c.insert.new.self c.key.inside.client c.key.inside.bytes changed)))
    c.insert.ensures.one_more
