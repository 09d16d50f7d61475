use Rattle.std.proofs.Common.{arith, ℕ, List, ◌∙◌, sym, subst}
use Rattle.kept_opens.specs.Kept.{HoldsEntries, HoldsNoEntries}
use Rattle.kept_opens.proofs.EntriesLemmas.{holds_more, none_here, none_more}
use Rattle.kept_opens.proofs.reading.are_entries.Goals as goal

pub loop-index-init : goal.loop-index-init
loop-index-init c = (omega arith, λ held. held, λ none. none)

pub split_at-requires : goal.split_at-requires
split_at-requires c = omega arith

pub returns-in-None-clause-none : goal.returns-in-None-clause-none
returns-in-None-clause-none c is = c.loop-index.invariant.2 (none_here c.loop-index.rest.now (omega arith)
    (λ v key e. c.in-None.ensures.none v key (e ∙ sym c.split_at.ensures.front)))

pub loop-index-preserved : goal.loop-index-preserved
loop-index-preserved c = (
  omega arith,
  λ held. c.loop-index.invariant.1 (holds_more c.loop-index.rest.now c.in-Some._one
      (c.in-Some.ensures.some ∙ c.split_at.ensures.front) c.in-Some.ensures.borne c.in-Some.ensures.named
      (subst (λ (xs : List ℕ). HoldsEntries xs) c.split_at.ensures.back held)),
  λ none. c.loop-index.invariant.2 (none_more c.loop-index.rest.now (omega arith)
      (subst (λ (xs : List ℕ). HoldsNoEntries xs) c.split_at.ensures.back none)),
)
