use Rattle.lease_manager.proofs.waits.Counted.{none_in}
use Rattle.lease_manager.proofs.tables.waiting.Waiting.is_empty.Goals as goal

pub returns : goal.returns
returns c = λ yes file. none_in c.args.self.now file (c.is_empty.ensures.0 yes)
