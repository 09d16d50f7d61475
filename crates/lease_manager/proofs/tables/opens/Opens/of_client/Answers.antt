use Rattle.lease_laws.proofs.Words.{values_of}
use Rattle.std.proofs.lemmas.Result.{IfOk-weaker}
use Rattle.lease_manager.proofs.tables.opens.Opens.of_client.Goals as goal

pub returns-clause-ids : goal.returns-clause-ids
returns-clause-ids c = IfOk-weaker c.of_client.result _ _
    (λ ids are. rw (← c.self.view_is) (are (values_of c.self.inside.by_id.entries) c.self.invariant.2)) c.of_client.ensures

pub returns-clause-in_order : goal.returns-clause-in_order
returns-clause-in_order c = rw (← c.self.view_is) c.self.invariant.1
