use Rattle.lease_laws.proofs.Words.{rules}
use Rattle.lease_world.proofs.records.Judges.{stepped}
use Rattle.lease_world.proofs.judging.Judge.add_next.Goals as goal

pub returns-then-ne : goal.returns-then-ne
returns-then-ne c = stepped _ _ _ (search rules)

pub returns : goal.returns
returns c = stepped _ _ _ (search rules)
