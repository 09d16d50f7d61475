use Rattle.lease_world.proofs.records.Judges.{nothing_judged}
use Rattle.lease_world.proofs.judging.Judge.new.Goals as goal

pub returns : goal.returns
returns c = rw c.new.ensures nothing_judged
