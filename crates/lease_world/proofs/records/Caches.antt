-- What is kept of a client and a file, over one fact more.
use Rattle.std.proofs.Common.{◌≡◌, ℕ, Bool, List, [], ◌∷◌, ◌++◌, refl, sym, ap, ◌∙◌, arith}
use Rattle.std.specs.Prelude.{filter, not}
use Rattle.lease_model.specs.records.Facts.{Fact}
use Rattle.lease_model.specs.records.Past.{is_settled, believed}
use Rattle.lease_world.specs.judge.Knows.{KnowsCache}
use Rattle.lease_world.specs.judge.Covers.{layers_at, stack_in}
use Rattle.lease_world.specs.judge.Seen.{SeenCache, Waiting}
use Rattle.lease_world.specs.judge.Told.{pending, is_unsettled}

-- tests that agree pass the same elements
pub filter-agree : {X : Type 0} (p q : X → Bool) (xs : List X) → ((x : X) → p x ≡ q x) → filter p xs ≡ filter q xs
filter-agree p q [] e = refl
filter-agree p q (x ∷ xs) e = rw (e x, filter-agree p q xs e) refl

-- what is pending depends on what is settled alone
pub pending-agree : (client file : ℕ) (whole other past : List Fact)
    → ((n : ℕ) → is_settled client n whole ≡ is_settled client n other)
    → pending client file whole past ≡ pending client file other past
unfolding pending
pending-agree client file whole other [] e = refl
pending-agree client file whole other (Fact.Wrote writer of_file number patch buffered ∷ past) e =
    let later = pending-agree client file whole other past e in grind arith
pending-agree client file whole other (_ ∷ past) e = pending-agree client file whole other past e

-- Where belief, settled numbers and writes are as before, so is all that is known of a cache.
pub cache_over : (client file : ℕ) (cache : SeenCache) (past next : List Fact)
    → believed client file next ≡ believed client file past → ((n : ℕ) → is_settled client n next ≡ is_settled client n past)
    → pending client file past next ≡ pending client file past past
    → KnowsCache client file cache past → KnowsCache client file cache next
cache_over client file cache past next b s p k = record {
  belief = k.belief ∙ sym b;
  covers = λ position. filter-agree (is_unsettled client next) (is_unsettled client past)
      (layers_at position cache.fresh ++ stack_in cache.covers position) (λ l. ap not (s l.number)) ∙ (k.covers position
      ∙ ap (λ (ws : List Waiting). layers_at position ws) (sym p ∙ sym (pending-agree client file next past next s)));
}
