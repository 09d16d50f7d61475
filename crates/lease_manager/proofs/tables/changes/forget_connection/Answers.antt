use Rattle.lease_laws.proofs.Words.{false}
use Rattle.lease_manager.proofs.opens.Joining.{present_put}
use Rattle.lease_manager.proofs.tables.changes.forget_connection.Goals as goal

pub returns : goal.returns
returns c = present_put c.args.present.now c.remove.new.self c.args.client false c.remove.ensures.updates
