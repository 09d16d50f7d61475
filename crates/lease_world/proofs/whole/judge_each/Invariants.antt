use Rattle.lease_laws.proofs.Words.{map}
use Rattle.lease_facts.specs.Facts.{fact_of}
use Rattle.lease_world.specs.judge.Judged.{HasJudged}
use Rattle.lease_world.proofs.whole.judge_each.Given as goal

abbrev pub invariant-loop-fact : goal.invariant-loop-fact
invariant-loop-fact g l = HasJudged l.judge (map (λ fact. fact_of fact.now) l.yielded)
