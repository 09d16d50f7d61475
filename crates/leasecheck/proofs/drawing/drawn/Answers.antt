use Rattle.lease_laws.proofs.Words.{◌∙◌, List, ℕ, ap, ap₂, length, map, subst}
use Rattle.lease_facts.specs.Facts.{fact_of}
use Rattle.lease_facts.specs.declared.fact.Fact.{Fact}
use Rattle.lease_model.specs.records.Verdict as model
use Rattle.lease_reasons.specs.Reasons.{Explains}
use Rattle.record_words.specs.pictures.Captions.{captions}
use Rattle.record_words.specs.pictures.Remarks.{said_of}
use Rattle.leasecheck.proofs.drawing.drawn.Goals as goal

pub returns-in-Ok-clause-drawn : goal.returns-in-Ok-clause-drawn
returns-in-Ok-clause-drawn c = record {
  verdict = c.in_ok-verdict.verdict;
  reason = c.in_ok-reason.reason;
  verdict_is = c.in_ok-verdict.ensures.computed
      ∙ ap (λ (facts : List Fact). model.verdict (map fact_of facts)) c.as_slice-facts.ensures.value;
  explains = subst (λ (facts : List Fact). Explains (map fact_of facts) c.in_ok-verdict.verdict c.in_ok-reason.reason)
      c.as_slice-facts.ensures.value c.in_ok-reason.ensures;
  marks = c.in-Ok.ensures.marks
      ∙ ap₂ (λ (bad : List ℕ) (facts : List Fact). captions bad 1 facts) (c.as_slice.ensures.value ∙ c.in_ok-bad.ensures)
      c.as_slice-facts.ensures.value;
  requests = c.in-Ok.ensures.requests;
  remarks = c.in-Ok.ensures.remarks
      ∙ ap (λ (facts : List Fact). said_of (length facts) c.args.said.now) c.as_slice-facts.ensures.value;
}
