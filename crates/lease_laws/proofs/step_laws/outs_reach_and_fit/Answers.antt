use Rattle.lease_laws.proofs.server.StepOuts.{replies-find, changes-short}
use Rattle.lease_laws.proofs.step_laws.outs_reach_and_fit.Goals as goal

pub returns-clause-replies : goal.returns-clause-replies
returns-clause-replies c = replies-find

pub returns-clause-changes : goal.returns-clause-changes
returns-clause-changes c = changes-short
