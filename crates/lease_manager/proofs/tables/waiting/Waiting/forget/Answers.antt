use Rattle.lease_laws.proofs.Words.{None}
use Rattle.lease_manager.proofs.waits.StillWaiting.{count_changed}
use Rattle.lease_manager.proofs.tables.waiting.Waiting.forget.Goals as goal

pub returns : goal.returns
returns c = count_changed c.args.self.now (record { counts = c.remove.new.self }) c.args.file None c.remove.ensures.updates
