use Rattle.lease_facts.proofs.Places.{value_at}
use Rattle.lease_world.proofs.judging.numbers.put_number.Goals as goal

pub returns : goal.returns
returns c = λ n. rw (c.in_ok-insert.ensures.updates.0 n) (value_at n c.args.number _ _)
