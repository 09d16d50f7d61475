use Rattle.lease_laws.proofs.Words.{Option, Some, refl, subst, sym, take}
use Rattle.std.proofs.lemmas.Result.{IfOk-weaker}
use Rattle.lease_facts.specs.Facts.{fact_of}
use Rattle.lease_facts.specs.declared.verdict.Rule.TheVariants as rule
use Rattle.lease_reasons.specs.Places.{past_of}
use Rattle.lease_reasons.specs.Reasons.{Told}
use Rattle.lease_reasons.specs.declared.reason.Reason.{Reason}
use Rattle.lease_reasons.proofs.Bad.{unsafe-at, by-one, by-two, by-three, by-four, reason-at}
use Rattle.lease_reasons.proofs.Pasts.{past-next}
use Rattle.lease_reasons.proofs.Telling.{late-told, done-told, stale-told}
use Rattle.lease_reasons.proofs.explaining.broken.Goals as goal

pub returns-in-OneWriteCache : goal.returns-in-OneWriteCache
returns-in-OneWriteCache c = rw c.in-OneWriteCache.is (IfOk-weaker c.cached.result _ _ (λ told h e.
    reason-at c.args.facts.now c.args.index c.index-facts-index.result (Some rule.OneWriteCache) told c.requires
    c.index-facts-index.is (h (fact_of c.index-facts-index.result) (past_of (take c.args.index c.args.facts.now))
    (past-next c.args.facts.now c.args.index c.index-facts-index.result c.requires c.index-facts-index.is)
    (by-one 1 _ _ _ _ refl (unsafe-at c.args.facts.now c.args.index c.index-facts-index.result 1 c.requires c.index-facts-index.is
    e)))) c.cached.ensures)

pub returns-in-FreshCachedReads : goal.returns-in-FreshCachedReads
returns-in-FreshCachedReads c = rw c.in-FreshCachedReads.is (IfOk-weaker c.stale.result _ _ (λ told h e.
    reason-at c.args.facts.now c.args.index c.index-facts-index.result (Some rule.FreshCachedReads) told c.requires
    c.index-facts-index.is (stale-told c.index-facts-index.result (past_of (take c.args.index c.args.facts.now)) told h
    (by-two 2 _ _ _ _ refl (unsafe-at c.args.facts.now c.args.index c.index-facts-index.result 2 c.requires c.index-facts-index.is
    e)))) c.stale.ensures)

pub returns-in-NoLateWrite : goal.returns-in-NoLateWrite
returns-in-NoLateWrite c = rw c.in-NoLateWrite.is (λ e.
    reason-at c.args.facts.now c.args.index c.index-facts-index.result (Some rule.NoLateWrite) c.late.result c.requires
    c.index-facts-index.is
    (subst (λ (told : Option Reason). Told (fact_of c.index-facts-index.result) (past_of (take c.args.index c.args.facts.now))
    (Some rule.NoLateWrite) told) (sym c.late.ensures)
    (late-told c.index-facts-index.result (past_of (take c.args.index c.args.facts.now))
    (by-three 3 _ _ _ _ refl (unsafe-at c.args.facts.now c.args.index c.index-facts-index.result 3 c.requires
    c.index-facts-index.is e)))))

pub returns-in-NoFalseDone : goal.returns-in-NoFalseDone
returns-in-NoFalseDone c = rw c.in-NoFalseDone.is (λ e.
    reason-at c.args.facts.now c.args.index c.index-facts-index.result (Some rule.NoFalseDone) c.done.result c.requires
    c.index-facts-index.is
    (subst (λ (told : Option Reason). Told (fact_of c.index-facts-index.result) (past_of (take c.args.index c.args.facts.now))
    (Some rule.NoFalseDone) told) (sym c.done.ensures)
    (done-told c.index-facts-index.result (past_of (take c.args.index c.args.facts.now))
    (by-four 4 _ _ _ _ refl (unsafe-at c.args.facts.now c.args.index c.index-facts-index.result 4 c.requires
    c.index-facts-index.is e)))))
