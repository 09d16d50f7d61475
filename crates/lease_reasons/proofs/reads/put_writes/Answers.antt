use Rattle.lease_laws.proofs.Words.{◌∙◌, ◌≡◌, Bool, Fact, List, ℕ, ap, arith, length, patches, sym, take, unsettled}
use Rattle.lease_facts.specs.Facts.{fact_of}
use Rattle.lease_reasons.specs.Places.{past_of}
use Rattle.lease_reasons.specs.Reads.{with_write}
use Rattle.lease_reasons.proofs.Pasts.{past-next, past_all}
use Rattle.lease_reasons.proofs.Seen.{writes-none, writes-more}
use Rattle.lease_reasons.proofs.reads.put_writes.Goals as goal

pub loop-fact-init : goal.loop-fact-init
loop-fact-init c = λ past all. sym (writes-none c.args.client.0 c.args.file.0 past c.args.bytes.now.items)

pub loop-fact-preserved : goal.loop-fact-preserved
loop-fact-preserved c = λ past all. c.in_ok-put_write.ensures
    ∙ (ap (λ (bytes : List ℕ). with_write c.is_waiting.result (fact_of c.fact-item.result) bytes) (c.loop-fact.invariant past all)
    ∙ (ap (λ (b : Bool). with_write b (fact_of c.fact-item.result) (patches c.args.bytes.now.items
    (unsettled c.args.client.0 c.args.file.0 past (past_of (take c.loop-fact.fact-index c.args.facts.now))))) c.is_waiting.ensures
    ∙ (sym (writes-more c.args.client.0 c.args.file.0 past c.args.settled.now.keys c.args.bytes.now.items (fact_of
    c.fact-item.result) (past_of (take c.loop-fact.fact-index c.args.facts.now)) all)
    ∙ ap (λ (facts : List Fact). patches c.args.bytes.now.items (unsettled c.args.client.0 c.args.file.0 past facts))
    (sym (past-next c.args.facts.now c.loop-fact.fact-index c.fact-item.result c.loop-fact-test.true c.fact-item.is)))))

pub returns : goal.returns
returns c = λ past all.
    let at_end : c.loop-fact.fact-index ≡ length c.args.facts.now = omega arith in
    c.loop-fact.invariant past all
    ∙ ap (λ (facts : List Fact). patches c.args.bytes.now.items (unsettled c.args.client.0 c.args.file.0 past facts))
    (ap (λ n. past_of (take n c.args.facts.now)) at_end ∙ past_all c.args.facts.now)
