use Rattle.lease_laws.proofs.Words.{◌∙◌}
use Rattle.lease_world.specs.judge.Seen.{unseen_client}
use Rattle.lease_facts.proofs.Places.{one_more}
use Rattle.lease_world.proofs.judging.clients.reach.Goals as goal

pub loop-client-preserved : goal.loop-client-preserved
loop-client-preserved c = λ n.
    rw (c.in_ok-push.ensures.items, c.new.ensures) (one_more unseen_client _ n ∙ c.loop-client.invariant n)
