use Rattle.lease_laws.proofs.Words.{◌∷◌, [], map-append, refl, subst, sym, true}
use Rattle.std.proofs.iter.runs.Made.{run, to_end}
use Rattle.lease_facts.specs.Facts.{fact_of}
use Rattle.lease_world.specs.judge.Judged.{HasJudged}
use Rattle.lease_world.proofs.records.Telling.{told_on}
use Rattle.lease_world.proofs.whole.judge_each.Goals as goal

pub loop-fact-preserved : goal.loop-fact-preserved
loop-fact-preserved g c = subst (λ facts. HasJudged c.add.new.self facts)
    (sym (map-append (λ fact. fact_of fact.now) c.loop-fact.yielded (c.in-Some.fact ∷ [])))
    (c.in_ok-add.ensures.judged _ c.loop-fact.invariant)

pub returns : goal.returns
returns g c = (
  run g.I.Iterator.next_gives _ c.loop-fact.yielded true
      (to_end g.I.Iterator.next_gives _ c.loop-fact.yielded (_, (_, c.loop-fact.yielded_by, c.in-None.ensures.steps))),
  c.into_iter-fact-iterator.ensures.into_iter_gives,
  refl,
  told_on _ _ (c.verdict.ensures.computed _ c.loop-fact.invariant),
)
