use Rattle.std.proofs.Common.{◌∙◌}
use Rattle.capture_walk.proofs.Later.{said_now}
use Rattle.capture_walk.proofs.latest.Latest.said.Goals as goal

pub returns-in-Some : goal.returns-in-Some
returns-in-Some c = λ before knows. c.in-Some.ensures.value ∙ said_now before c.args.self.now knows c.args.lease

pub returns-in-None : goal.returns-in-None
returns-in-None c = λ before knows. c.in-None.ensures.value ∙ said_now before c.args.self.now knows c.args.lease
