use Rattle.lease_laws.proofs.Words.{◌+◌, ◌<◌, ◌∙◌, ◌≡◌, ◌≤◌, ◌⊎◌, None, Option, Verdict, ℕ, ap, arith, map, subst, sym}
use Rattle.lease_laws.proofs.Words.{take, verdict}
use Rattle.std.proofs.lemmas.Result.{IfOk-weaker}
use Rattle.lease_facts.specs.Facts.{fact_of}
use Rattle.lease_facts.specs.Verdicts.{rule_number}
use Rattle.lease_reasons.specs.Places.{past_of}
use Rattle.lease_reasons.specs.Reasons.{Told, IsReasonAt}
use Rattle.lease_reasons.specs.declared.reason.Reason.{Reason}
use Rattle.lease_reasons.proofs.Bad.{malformed-at, place-inside, place-inside-malformed, reason-at}
use Rattle.lease_reasons.proofs.Telling.{malformed-told}
use Rattle.lease_reasons.proofs.explaining.explain.Goals as goal

outside : (p n : ℕ) → 1 ≤ p → p ≤ n → (p ≡ 0) ⊎ (n < p) → ⊥
outside p n a b x5 = grind arith

pub returns-in-None : goal.returns-in-None
returns-in-None c =
    let e : verdict (map fact_of c.args.facts.now) ≡ Verdict.Unsafe c.in-Unsafe.place (rule_number c.in-Unsafe.rule) =
    sym (rw c.in-Unsafe.is at c.requires) in
    let inside = place-inside c.args.facts.now c.in-Unsafe.place (rule_number c.in-Unsafe.rule) e in
    absurd (outside c.in-Unsafe.place _ inside.0 inside.1 c.in-None.ensures)

pub returns-in-None-index_of : goal.returns-in-None-index_of
returns-in-None-index_of c =
    let e : verdict (map fact_of c.args.facts.now) ≡ Verdict.Malformed c.in-Malformed.place = sym (rw c.in-Malformed.is at
    c.requires) in
    let inside = place-inside-malformed c.args.facts.now c.in-Malformed.place e in
    absurd (outside c.in-Malformed.place _ inside.0 inside.1 c.in-None-index_of.ensures)

pub returns-in-Some-index_of : goal.returns-in-Some-index_of
returns-in-Some-index_of c =
    let at : c.in-Malformed.place ≡ c.in-Some-index_of.index + 1 = c.in-Some-index_of.ensures.0 in
    let e : verdict (map fact_of c.args.facts.now) ≡ Verdict.Malformed (c.in-Some-index_of.index + 1) =
    sym (rw c.in-Malformed.is at c.requires) ∙ ap (λ (n : ℕ). Verdict.Malformed n) at in
    rw c.in-Malformed.is (IfOk-weaker c.malformed.result _ _ (λ told h.
    subst (λ (place : ℕ). IsReasonAt (map fact_of c.args.facts.now) place None told) (sym at)
    (reason-at c.args.facts.now c.in-Some-index_of.index c.index-facts-index.result None told c.in-Some-index_of.ensures.1
    c.index-facts-index.is
    (subst (λ (t : Option Reason). Told (fact_of c.index-facts-index.result) (past_of (take c.in-Some-index_of.index
    c.args.facts.now)) None t) (sym h)
    (malformed-told c.index-facts-index.result (past_of (take c.in-Some-index_of.index c.args.facts.now))
    (malformed-at c.args.facts.now c.in-Some-index_of.index c.index-facts-index.result c.in-Some-index_of.ensures.1
    c.index-facts-index.is e))))) c.malformed.ensures)
