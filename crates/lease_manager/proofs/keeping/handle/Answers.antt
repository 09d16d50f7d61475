use Rattle.lease_laws.proofs.Words.{on_ok_weaker}
use Rattle.lease_manager.proofs.follows.Always.{call_keeps}
use Rattle.lease_manager.proofs.keeping.handle.Goals as goal

pub returns-clause-lawful : goal.returns-clause-lawful
returns-clause-lawful c =
    on_ok_weaker c.handle.result (call_keeps c.args.tables.now _ c.args.coming _ c.requires.lawful) c.handle.ensures.step
