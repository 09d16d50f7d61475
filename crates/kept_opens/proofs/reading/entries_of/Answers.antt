use Rattle.std.proofs.Common.{◌≡◌, arith, ℕ, List, [], ◌∷◌, ◌++◌, ◌∙◌, sym, subst, rules}
use Rattle.std.proofs.lemmas.List.Elements.{All-push}
use Rattle.kept_opens.specs.Entry.{entry_of, IsBorne, IsNamed}
use Rattle.kept_opens.specs.Kept.{AllBorne, AllNamed, HoldsEntries}
use Rattle.kept_opens.proofs.EntriesLemmas.{laid_more, none_here, holds_others, not_none}
use Rattle.kept_opens.proofs.reading.entries_of.Goals as goal
use Rattle.kept_opens.proofs.reading.entries_of.Goals.{in-Some+in_ok-push, in_default}

pub split_at-requires : goal.split_at-requires
split_at-requires c = omega arith

pub loop-index-preserved : goal.loop-index-preserved
loop-index-preserved c =
    let long = c.loop-index.invariant.0 in
    let back = c.split_at.ensures.back in
    elim c.match-entry_of.branch [
      | in-Some+in_ok-push w ↦
          let items : c.match-entry_of.opens.items ≡ c.loop-index.opens.items ++ w.in-Some.one ∷ [] = search rules in (
            omega arith,
            subst (λ (xs : List ℕ). HoldsEntries xs) (sym back)
                (holds_others c.loop-index.rest.now (omega arith) c.loop-index.invariant.1),
            rw (items, back) (laid_more c.loop-index.opens.items w.in-Some.one c.loop-index.rest.now c.args.bytes.now
                c.loop-index.invariant.2 (w.in-Some.ensures.some ∙ c.split_at.ensures.front)),
            subst (λ xs. AllBorne xs) (sym items) (All-push (λ x. IsBorne (entry_of x)) c.loop-index.opens.items w.in-Some.one
                c.loop-index.invariant.3 w.in-Some.ensures.borne),
            subst (λ xs. AllNamed xs) (sym items) (All-push (λ x. IsNamed x) c.loop-index.opens.items w.in-Some.one
                c.loop-index.invariant.4 w.in-Some.ensures.named),
          )
      | in_default w ↦ absurd (not_none c.loop-index.rest.now c.loop-index.invariant.1
          (none_here c.loop-index.rest.now (omega arith)
          (λ v key e. w.in_default.ensures.none v key (e ∙ sym c.split_at.ensures.front))))
    ]
