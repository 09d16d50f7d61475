use Rattle.lease_laws.proofs.Words.{Fact, List, subst, sym, take}
use Rattle.lease_reasons.specs.Clients.{Describes}
use Rattle.lease_reasons.specs.Places.{past_of}
use Rattle.lease_reasons.proofs.Pasts.{past-next}
use Rattle.lease_reasons.proofs.Standings.{described-none}
use Rattle.lease_reasons.proofs.clients.Clients.of.Goals as goal

pub loop-fact-init : goal.loop-fact-init
loop-fact-init c = described-none _ c.new.ensures.items c.new-2.ensures.items

pub loop-fact-preserved : goal.loop-fact-preserved
loop-fact-preserved c = subst (λ (past : List Fact). Describes past c.note.new.self)
    (sym (past-next c.args.facts.now c.loop-fact.fact-index c.fact-item.result c.loop-fact-test.true c.fact-item.is))
    (c.in_ok-note.ensures (past_of (take c.loop-fact.fact-index c.args.facts.now)) c.loop-fact.invariant)
