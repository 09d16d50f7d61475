use Rattle.capture_walk.proofs.Opening.{opens_are_made}
use Rattle.capture_walk.proofs.laws.opens_are_made.Goals as goal

pub returns : goal.returns
returns c = opens_are_made
