use Rattle.lease_laws.proofs.Words.{◌+◌, ◌<◌, ◌∷◌, ◌≡◌, ◌≤◌, List, ℕ, [], arith, drop, length, refl, rules, subst, suc, sym, zero}
use Rattle.std.specs.List.{remove}
use Rattle.std.proofs.Common.{zero-add}
use Rattle.std.proofs.lemmas.List.{drop-drop}
use Rattle.manager_model.specs.Handling.{Tagged}
use Rattle.lease_manager.proofs.waits.Clients.{among_drop, among_remove, less_of, room_after}
use Rattle.lease_manager.proofs.tables.queue.Queue.remove.Goals as goal

behind_gone : (items : List Tagged) (gone place : ℕ) → gone ≤ length items
    → drop gone (remove items (gone + place)) ≡ remove (drop gone items) place
behind_gone items zero place less = rw (zero-add place) refl
behind_gone [] (suc gone) place less = absurd (omega (arith, less))
behind_gone (one ∷ items) (suc gone) place less =
    let e : suc gone + place ≡ suc (gone + place) = omega arith in rw e (behind_gone items gone place (omega (arith, less)))

pub returns-then-place-ne0 : goal.returns-then-place-ne0
returns-then-place-ne0 c = rw (c.remove-one.ensures.items, ← c.self.view_is) (behind_gone _ _ _ c.self.invariant.0)

pub returns-then-self-len : goal.returns-then-self-len
returns-then-self-len c = rw (c.let_go.ensures, ← c.self.view_is, c.if-place-ne0.false)
    (sym (drop-drop 1 c.self.inside.gone c.self.inside.items.items))

pub returns-else-self-len : goal.returns-else-self-len
returns-else-self-len c = rw (← c.self.view_is, c.if-place-ne0.false)
    (sym (drop-drop 1 c.self.inside.gone c.self.inside.items.items))

pub invariant_of-self : goal.invariant_of-self
invariant_of-self c = (
  rw c.remove-one.ensures.items (room_after c.self.inside.items.items c.self.inside.gone
      c.args.place (subst (λ q. c.args.place < length q) (sym c.self.view_is) c.requires)),
  rw (c.remove-one.ensures.items, behind_gone _ _ c.args.place c.self.invariant.0)
      (less_of _ (drop c.self.inside.gone c.self.inside.items.items) _ c.self.invariant.1 (λ one. among_remove _ c.args.place
      one)),
)

pub invariant_of-self-then-self-len : goal.invariant_of-self-then-self-len
invariant_of-self-then-self-len c = (
  search rules,
  rw (c.let_go.ensures, sym (drop-drop 1 c.self.inside.gone c.self.inside.items.items))
      (less_of _ (drop c.self.inside.gone c.self.inside.items.items) _ c.self.invariant.1 (λ one. among_drop 1 _ one)),
)

pub invariant_of-self-else-self-len : goal.invariant_of-self-else-self-len
invariant_of-self-else-self-len c = (
  search rules,
  rw (sym (drop-drop 1 c.self.inside.gone c.self.inside.items.items))
      (less_of _ (drop c.self.inside.gone c.self.inside.items.items) _ c.self.invariant.1 (λ one. among_drop 1 _ one)),
)
