use Rattle.lease_laws.proofs.Words.{◌++◌, ◌∙◌, ◌∷◌, Bool, ClientNo, Option, ℕ, [], ap, arith, get_or}
use Rattle.lease_laws.proofs.Words.{if◌then◌else◌, slice_set, sym}
use Rattle.lease_facts.specs.Facts.{client_number, fact_of}
use Rattle.lease_reasons.specs.declared.clients.Standing.{Standing}
use Rattle.lease_reasons.proofs.Standings.{described-same, described-more, not_false, not_true}
use Rattle.lease_reasons.proofs.clients.Clients.note.Goals as goal

pub returns-in_default : goal.returns-in_default
returns-in_default c = λ past is. described-same (fact_of c.args.fact.now) past c.args.self.now
    (sym c.client.ensures.number ∙ ap (λ (told : Option ClientNo). client_number told) c.in_default.is) is

pub returns-in_ok-push : goal.returns-in_ok-push
returns-in_ok-push c = λ past is.
    let there = c.in_ok-reach.ensures.there in
    described-more (fact_of c.args.fact.now) past c.in-Some.client c.args.self.now _ c.reach.new.standings.items
    c.index-standing.result.now
    (sym c.client.ensures.number ∙ ap (λ (told : Option ClientNo). client_number told) c.in-Some.is) is c.reach.ensures.same
    (omega (arith, there, c.reach.new.standings.ok))
    (c.index-standing.ensures ∙ ap (λ (n : ℕ). get_or c.reach.new.standings.items n c.index-standing.result.now)
    c.from-index.ensures)
    (ap (λ (n : ℕ). slice_set c.reach.new.standings.items n c.after.result) c.from-index.ensures
    ∙ ap (λ (s : Standing). slice_set c.reach.new.standings.items c.in-Some.client.0 s) c.after.ensures)
    (c.in_ok-push.ensures.items ∙ ap (λ (b : Bool). if b then c.args.self.now.named.items
    else c.args.self.now.named.items ++ c.in-Some.client ∷ []) (sym (not_true c.index-standing.result.now.named
    c.if-not-standing.true)))

pub returns-else-not-standing : goal.returns-else-not-standing
returns-else-not-standing c = λ past is.
    let there = c.in_ok-reach.ensures.there in
    described-more (fact_of c.args.fact.now) past c.in-Some.client c.args.self.now _ c.reach.new.standings.items
    c.index-standing.result.now
    (sym c.client.ensures.number ∙ ap (λ (told : Option ClientNo). client_number told) c.in-Some.is) is c.reach.ensures.same
    (omega (arith, there, c.reach.new.standings.ok))
    (c.index-standing.ensures ∙ ap (λ (n : ℕ). get_or c.reach.new.standings.items n c.index-standing.result.now)
    c.from-index.ensures)
    (ap (λ (n : ℕ). slice_set c.reach.new.standings.items n c.after.result) c.from-index.ensures
    ∙ ap (λ (s : Standing). slice_set c.reach.new.standings.items c.in-Some.client.0 s) c.after.ensures)
    (ap (λ (b : Bool). if b then c.args.self.now.named.items
    else c.args.self.now.named.items ++ c.in-Some.client ∷ []) (sym (not_false c.index-standing.result.now.named
    c.if-not-standing.false)))
