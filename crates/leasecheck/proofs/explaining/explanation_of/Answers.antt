use Rattle.lease_laws.proofs.Words.{◌++◌, ◌∙◌, List, ℕ, ap, map, subst, sym}
use Rattle.lease_facts.specs.Facts.{fact_of}
use Rattle.lease_facts.specs.declared.fact.Fact.{Fact}
use Rattle.lease_model.specs.records.Verdict as model
use Rattle.record_words.specs.words.Explained.{IsExplained}
use Rattle.leasecheck.proofs.explaining.explanation_of.Goals as goal

pub returns-clause-told : goal.returns-clause-told
returns-clause-told c = record {
  placed = c.in_ok-placed.placed;
  read = c.in_ok-placed.ensures.read;
  verdict = c.in_ok-verdict.ensures.computed
      ∙ ap (λ (facts : List Fact). model.verdict (map fact_of facts)) c.as_slice.ensures.value;
  explained = subst (λ (text : List ℕ). IsExplained c.in_ok-placed.placed c.in_ok-verdict.verdict text)
      (sym (c.in_ok-push_explanation.ensures.2 ∙ ap (λ (text : List ℕ). text ++ c.in_ok-push_explanation.ensures.0)
      c.new-told.ensures.bytes)) c.in_ok-push_explanation.ensures.1;
}
