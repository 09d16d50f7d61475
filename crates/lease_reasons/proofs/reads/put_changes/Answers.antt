use Rattle.lease_laws.proofs.Words.{◌∙◌, Fact, List, ℕ, ap, changes_of, patches, sym, take}
use Rattle.lease_facts.specs.Facts.{fact_of}
use Rattle.lease_reasons.specs.Places.{past_of}
use Rattle.lease_reasons.specs.Reads.{with_change}
use Rattle.lease_reasons.proofs.Pasts.{past-next}
use Rattle.lease_reasons.proofs.Seen.{changes-none, changes-more}
use Rattle.lease_reasons.proofs.reads.put_changes.Goals as goal

pub loop-fact-init : goal.loop-fact-init
loop-fact-init c = sym (changes-none c.args.file.0 c.args.bytes.now.items)

pub loop-fact-preserved : goal.loop-fact-preserved
loop-fact-preserved c = c.in_ok-put_change.ensures
    ∙ (ap (λ (bytes : List ℕ). with_change c.args.file.0 (fact_of c.fact-item.result) bytes) c.loop-fact.invariant
    ∙ (sym (changes-more c.args.file.0 c.args.bytes.now.items (fact_of c.fact-item.result) (past_of (take c.loop-fact.fact-index
    c.args.facts.now))) ∙ ap (λ (past : List Fact). patches c.args.bytes.now.items (changes_of c.args.file.0 past))
    (sym (past-next c.args.facts.now c.loop-fact.fact-index c.fact-item.result c.loop-fact-test.true c.fact-item.is))))
