use Rattle.lease_laws.proofs.Words.{◌∙◌, ◌∷◌, ◌≡◌, List, [], ap, map, refl, subst}
use Rattle.std.proofs.lemmas.Result.{IfOk-weaker}
use Rattle.lease_facts.specs.Facts.{fact_of}
use Rattle.lease_facts.specs.Verdicts.{IsVerdictOn}
use Rattle.lease_world.proofs.whole.judge.Goals as goal

map-map : {A B C : Type 0} (f : B → C) (g : A → B) (xs : List A) → map (λ x. f (g x)) xs ≡ map f (map g xs)
map-map f g [] = refl
map-map f g (x ∷ xs) = ap (λ ys. f (g x) ∷ ys) (map-map f g xs)

pub returns : goal.returns
returns c =
    let told = IfOk-weaker c.judge_each.result _ (λ told. IsVerdictOn (map fact_of c.args.facts.now) told) (λ told h.
    let given = (c.iter.ensures.runs h.0 h.0.seen).4 h.2 in
    let rest = ap (λ i. i.rest.now) h.1 ∙ c.iter.ensures.rest in
    subst (λ facts. IsVerdictOn facts told) (map-map fact_of (λ fact. fact.now) h.0.items ∙ ap (map fact_of) (given ∙ rest)) h.3)
    c.judge_each.ensures in
    record {
      computed = IfOk-weaker c.judge_each.result _ _ (λ told h. h.computed) told;
      safe = IfOk-weaker c.judge_each.result _ _ (λ told h. h.safe) told;
      first_bad = IfOk-weaker c.judge_each.result _ _ (λ told h. h.first_bad) told;
    }
