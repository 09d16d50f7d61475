use Rattle.lease_laws.proofs.Words.{◌≡◌, ◌∙◌, false, is_left_open, list_any, subst, sym}
use Rattle.lease_laws.proofs.server.Keys.{key_eq-same}
use Rattle.lease_manager.proofs.sums.Agreeing.{never_has}
use Rattle.lease_manager.proofs.sums.Ordering.{has_key_own}
use Rattle.lease_manager.proofs.tables.changes.opens_settled.Goals as goal

pub returns-in-Some-clause-none : goal.returns-in-Some-clause-none
returns-in-Some-clause-none c = λ yes key has breaks.
    let own = sym c.key.ensures ∙ c.in-Some.is in
    subst (λ k. list_any (is_left_open k) c.args.opens.now ≡ false)
    (sym (key_eq-same key c.in-Some.key (sym (has_key_own c.args.one.now c.in-Some.key key own) ∙ has)))
    (c.keeps_settled.ensures.none yes breaks)

pub returns-in-None-clause-none : goal.returns-in-None-clause-none
returns-in-None-clause-none c = λ yes key has breaks.
    never_has c.args.one.now key (sym c.key.ensures ∙ c.in-None.is) has
