use Rattle.lease_laws.proofs.Words.{Some}
use Rattle.lease_manager.proofs.waits.StillWaiting.{count_changed}
use Rattle.lease_manager.proofs.tables.waiting.Waiting.put.Goals as goal

pub returns-clause-put : goal.returns-clause-put
returns-clause-put c = count_changed c.args.self.now (record { counts = c.insert.new.self }) c.args.file (Some c.args.count)
    c.in_ok-insert.ensures.updates
