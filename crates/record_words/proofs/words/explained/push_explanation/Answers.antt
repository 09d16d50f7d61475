use Rattle.std.proofs.Common.{List, ◌++◌, map, refl, subst}
use Rattle.lease_facts.specs.Facts.{fact_of}
use Rattle.lease_facts.specs.declared.fact.Fact.{Fact}
use Rattle.lease_reasons.specs.Extent.{IsExtent}
use Rattle.lease_reasons.specs.Reasons.{Explains}
use Rattle.record_words.specs.words.Explained.{bad_place, bad_lines, extent_lines}
use Rattle.record_words.proofs.words.explained.push_explanation.Goals as goal

pub returns : goal.returns
returns c = (
  bad_lines c.args.placed.now (bad_place c.args.verdict.now) c.in_ok-reason.reason ++ extent_lines c.in_ok-extent.extent,
  record {
    reason = c.in_ok-reason.reason;
    extent = c.in_ok-extent.extent;
    explains = subst (λ (facts : List Fact). Explains (map fact_of facts) c.args.verdict.now c.in_ok-reason.reason)
        c.as_slice-facts.ensures.value c.in_ok-reason.ensures;
    judged = subst (λ (facts : List Fact). IsExtent facts c.args.verdict.now c.in_ok-extent.extent)
        c.as_slice-facts.ensures.value c.in_ok-extent.ensures;
    text_is = refl;
  },
  c.in_ok-push_reasoned.ensures,
)
