use Rattle.lease_laws.proofs.Words.{on_ok_weaker}
use Rattle.manager_model.specs.Hosting.{Coming}
use Rattle.lease_manager.proofs.follows.Always.{keeps}
use Rattle.lease_manager.proofs.keeping.join.Goals as goal

pub returns-clause-lawful : goal.returns-clause-lawful
returns-clause-lawful c =
    on_ok_weaker c.join.result (keeps c.args.tables.now _ (Coming.Joins c.args.client.0) _ c.requires) c.join.ensures.step
