use Rattle.std.proofs.Common.{◌≡◌, Option, Some, None, refl, sym, true≢false}
use Rattle.lease_texts.proofs.words.guid_in.Goals as goal

none_else : {X : Type 0} (o : Option X) → ((u : X) → o ≡ Some u → ⊥) → None ≡ o
none_else None never = refl
none_else (Some u) never = absurd (never u refl)

pub returns-in-Err : goal.returns-in-Err
returns-in-Err c = none_else _ (λ u is. true≢false (sym (c.in-Err.ensures.ok.1 (u, is))))
