use Rattle.lease_laws.proofs.Words.{◌++◌, ◌+◌, ◌∙◌, ◌∷◌, Bool, Fact, List, ℕ, [], ap, arith, if◌then◌else◌, sym, take}
use Rattle.lease_facts.specs.Facts.{fact_of}
use Rattle.lease_reasons.specs.Places.{past_of}
use Rattle.lease_reasons.specs.Reads.{is_waiting, unsettled_places}
use Rattle.lease_reasons.proofs.Pasts.{past-next, taken-length}
use Rattle.lease_reasons.proofs.Seen.{places-none, places-more}
use Rattle.lease_reasons.proofs.reads.waiting.Goals as goal

pub loop-index-init : goal.loop-index-init
loop-index-init c = λ past all. c.new-places.ensures.items ∙ sym (places-none c.args.client.0 c.args.file.0 past)

pub loop-index-preserved : goal.loop-index-preserved
loop-index-preserved c = λ past all. c.in_ok-note_place.ensures
    ∙ (ap (λ (places : List ℕ). if c.is_waiting.result then places ++ (c.loop-index.index + 1) ∷ [] else places)
    (c.loop-index.invariant past all)
    ∙ (ap (λ (b : Bool). if b then unsettled_places c.args.client.0 c.args.file.0 past (past_of (take c.loop-index.index
    c.args.facts.now)) ++ (c.loop-index.index + 1) ∷ []
    else unsettled_places c.args.client.0 c.args.file.0 past (past_of (take c.loop-index.index c.args.facts.now)))
    c.is_waiting.ensures
    ∙ (ap (λ (n : ℕ). if is_waiting c.args.client.0 c.args.file.0 c.args.settled.now.keys (fact_of c.index-facts-index.result)
    then unsettled_places c.args.client.0 c.args.file.0 past (past_of (take c.loop-index.index c.args.facts.now)) ++ (n + 1) ∷ []
    else unsettled_places c.args.client.0 c.args.file.0 past (past_of (take c.loop-index.index c.args.facts.now)))
    (sym (taken-length c.args.facts.now c.loop-index.index (omega arith)))
    ∙ (sym (places-more c.args.client.0 c.args.file.0 past c.args.settled.now.keys (fact_of c.index-facts-index.result)
    (past_of (take c.loop-index.index c.args.facts.now)) all)
    ∙ ap (λ (facts : List Fact). unsettled_places c.args.client.0 c.args.file.0 past facts)
    (sym (past-next c.args.facts.now c.loop-index.index c.index-facts-index.result c.loop-index-test.true
    c.index-facts-index.is))))))
