use Rattle.lease_laws.proofs.Words.{on_ok_weaker}
use Rattle.manager_model.specs.Hosting.{Coming}
use Rattle.lease_manager.specs.LeftOpens.{numbers}
use Rattle.lease_manager.specs.Parting.{tag_numbers}
use Rattle.lease_manager.proofs.follows.Always.{keeps}
use Rattle.lease_manager.proofs.keeping.leave.Goals as goal

pub returns-clause-lawful : goal.returns-clause-lawful
returns-clause-lawful c = on_ok_weaker c.leave.result (keeps c.args.tables.now _
    (Coming.Leaves c.args.client.0 (numbers c.args.file_ids.now) (tag_numbers c.args.tags.now)) _ c.requires.lawful)
    c.leave.ensures.step
