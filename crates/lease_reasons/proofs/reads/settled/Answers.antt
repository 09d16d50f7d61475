use Rattle.lease_laws.proofs.Words.{◌||◌, ◌∙◌, Bool, Fact, List, Option, ℕ, ap, is_settled, sym, take}
use Rattle.lease_facts.specs.Facts.{fact_of}
use Rattle.lease_reasons.specs.Places.{past_of}
use Rattle.lease_reasons.specs.Reads.{is_number, settled_told, is_settled_by}
use Rattle.lease_reasons.proofs.Pasts.{past-next}
use Rattle.lease_reasons.proofs.Seen.{settled-none, settled-more}
use Rattle.lease_reasons.proofs.reads.settled.Goals as goal

pub loop-fact-init : goal.loop-fact-init
loop-fact-init c = λ n. ap (λ (keys : List ℕ). is_number n keys) c.new-numbers.ensures.empty ∙ settled-none c.args.client.0 n

pub loop-fact-preserved : goal.loop-fact-preserved
loop-fact-preserved c = λ n. c.in_ok-note_settled.ensures n
    ∙ (ap (λ (told : Option ℕ). is_settled_by n told || is_number n c.loop-fact.numbers.keys) c.settled_told.ensures
    ∙ (ap (λ (b : Bool). is_settled_by n (settled_told c.args.client.0 (fact_of c.fact-item.result)) || b) (c.loop-fact.invariant
    n)
    ∙ (sym (settled-more c.args.client.0 n (fact_of c.fact-item.result) (past_of (take c.loop-fact.fact-index c.args.facts.now)))
    ∙ ap (λ (past : List Fact). is_settled c.args.client.0 n past)
    (sym (past-next c.args.facts.now c.loop-fact.fact-index c.fact-item.result c.loop-fact-test.true c.fact-item.is)))))
