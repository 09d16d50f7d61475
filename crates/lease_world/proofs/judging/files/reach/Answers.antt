use Rattle.lease_laws.proofs.Words.{◌∙◌}
use Rattle.lease_world.specs.judge.Seen.{unseen_file}
use Rattle.lease_facts.proofs.Places.{one_more}
use Rattle.lease_world.proofs.judging.files.reach.Goals as goal

pub loop-file-preserved : goal.loop-file-preserved
loop-file-preserved c = λ n. rw (c.in_ok-push.ensures.items, c.new.ensures) (one_more unseen_file _ n ∙ c.loop-file.invariant n)
