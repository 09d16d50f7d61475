use Rattle.lease_laws.proofs.Words.{◌∙◌, Fact, List, ℕ, ap, start_of, sym, take}
use Rattle.lease_facts.specs.Facts.{fact_of}
use Rattle.lease_reasons.specs.Places.{past_of}
use Rattle.lease_reasons.specs.Reads.{with_start}
use Rattle.lease_reasons.proofs.Pasts.{past-next}
use Rattle.lease_reasons.proofs.Seen.{start-none, start-more}
use Rattle.lease_reasons.proofs.reads.start_of.Goals as goal

pub loop-fact-init : goal.loop-fact-init
loop-fact-init c = c.new-bytes.ensures.items ∙ sym (start-none c.args.file.0)

pub loop-fact-preserved : goal.loop-fact-preserved
loop-fact-preserved c = c.in_ok-put_start.ensures
    ∙ (ap (λ (bytes : List ℕ). with_start c.args.file.0 (fact_of c.fact-item.result) bytes) c.loop-fact.invariant
    ∙ (sym (start-more c.args.file.0 (fact_of c.fact-item.result) (past_of (take c.loop-fact.fact-index c.args.facts.now)))
    ∙ ap (λ (past : List Fact). start_of c.args.file.0 past)
    (sym (past-next c.args.facts.now c.loop-fact.fact-index c.fact-item.result c.loop-fact-test.true c.fact-item.is))))
