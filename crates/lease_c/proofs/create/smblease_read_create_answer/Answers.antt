use Rattle.lease_c.proofs.Held.{answer_is_held}
use Rattle.lease_c.proofs.create.smblease_read_create_answer.Goals as goal

pub returns-in-Ok-clause-value : goal.returns-in-Ok-clause-value
returns-in-Ok-clause-value c = rw (← c.in-Ok.ensures.value, c.holding.ensures)
    (answer_is_held c.has_other_lease.result c.in-Ok.answer)
