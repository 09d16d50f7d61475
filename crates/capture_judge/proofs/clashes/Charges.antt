-- Steps that go on to a placement, one by one.
use Rattle.std.proofs.Common.{◌≡◌, ◌+◌, ◌<◌, ◌≤◌, inl, inr, ℕ, List, ◌∷◌, Some, sym, ◌∙◌, arith, subst}
use Rattle.std.proofs.Common.{[], length, reverse, slice_get, slice_index, slice_set}
use Rattle.std.proofs.lemmas.Bool.{cases_eq, cases_lt}
use Rattle.std.proofs.lemmas.List.{length-set, get_or-set_same, get_or-set_other}
use Rattle.std.proofs.lemmas.Option.{same_Some, slice_get_within}
use Rattle.capture_judge.specs.Placing.{change_of, reached, IsPlacement, IsClean, IsCleanBefore}
use Rattle.capture_judge.specs.Beginnings.{MayTake, CanWait}
use Rattle.capture_judge.specs.Charges.{NoneLeft, IsDueStep, GoesOn}
use Rattle.capture_judge.specs.Searching.{AreFeasible, IsKept}
use Rattle.capture_judge.specs.declared.values.Chain.{Chain}
use Rattle.capture_judge.specs.declared.values.Change.{Change}
use Rattle.capture_judge.specs.declared.values.Step.{Step}
use Rattle.capture_judge.specs.declared.ways.Link.{Link}
use Rattle.capture_judge.specs.declared.ways.Way.{Way}
use Rattle.capture_judge.proofs.clashes.Completing.{chain_of, left_of, total, waits-after, less_left, inside-may, in_width}
use Rattle.capture_judge.proofs.placings.Orders.{placement_of, reached-same, reached-other}

-- ---- the step to what is due may be taken, and all else can wait until then

change_from : (chains : List Chain) (i k : ℕ) (chain : Chain) (change : Change) → slice_get chains i ≡ Some chain
    → slice_get chain.changes.items k ≡ Some change → change_of chains i k ≡ Some change
unfolding change_of
change_from chains i k chain change at is = rw at is

changes_at : (chains : List Chain) (i k : ℕ) (chain : Chain) (change : Change) → slice_get chains i ≡ Some chain
    → change_of chains i k ≡ Some change → slice_get chain.changes.items k ≡ Some change
changes_at chains i k chain change at is =
    let found = chain_of chains i k change is
    in subst (λ (c : Chain). slice_get c.changes.items k ≡ Some change) (same_Some found.0 chain (sym found.1 ∙ at)) found.2

may-take : (chains : List Chain) (came : List ℕ) (step : Step) → AreFeasible chains → IsDueStep chains came (length chains) step
    → MayTake chains (slice_index came step.chain) step
may-take chains came step feasible due =
    let is = due.is in let change-is = due.change-is in let position-is = due.position-is
    in let at = subst (λ k. slice_get due.chain.changes.items k ≡ Some is.change) change-is is.at
    in record {
      bounds = record {
        change = is.change;
        is = change_from chains step.chain step.change due.chain is.change due.at at;
        first = let first = feasible step.chain due.chain due.at due.due.change is.hurried is.change is.hurries is.last
            due.due.position is.later is.at is.has is.hurries-at is.hurries-has
            in omega (arith, first, position-is);
        last = λ last has. let low = is.lowest due.due.change is.change last is.from-on
            (slice_get_within due.chain.changes.items due.due.change is.change is.at) is.at has
            in omega (arith, low, position-is);
      };
      order = let from = is.from-on in omega (arith, from, change-is);
      skips = λ k change above below change-at. is.first k change above (omega (arith, below, change-is))
          (changes_at chains step.chain k due.chain change due.at change-at);
    }

pub due-inside : (chains : List Chain) (came : List ℕ) (step : Step) → IsDueStep chains came (length chains) step
    → step.chain < length chains
due-inside chains came step due = slice_get_within chains step.chain due.chain due.at

can-wait : (chains : List Chain) (came : List ℕ) (past : List Step) (step : Step)
    → ((i : ℕ) → slice_index came i ≡ reached past i)
    → IsDueStep chains came (length chains) step → CanWait chains step.position past
can-wait chains came past step came-is due i k change last from at has =
    let found = chain_of chains i k change at
    in let is = came-is i
    in due.lowest i found.0 k change last (slice_get_within chains i found.0 found.1)
    found.1 (omega (arith, is, from)) found.2 has

not-sooner : (chains : List Chain) (came : List ℕ) (past : List Step) (step : Step) (now : ℕ)
    → ((i : ℕ) → slice_index came i ≡ reached past i) → IsDueStep chains came (length chains) step → CanWait chains now past
    → now ≤ step.position
not-sooner chains came past step now came-is due waits =
    let is = due.is in let from = is.from-on in let later = is.later in let position-is = due.position-is
    in let same = came-is step.chain
    in let low = waits step.chain is.hurried is.hurries due.due.position (omega (arith, same, from, later))
    (change_from chains step.chain is.hurried due.chain is.hurries due.at is.hurries-at) is.hurries-has
    in omega (arith, low, position-is)

-- ---- from one step to the next

came-with : (chains : List Chain) (came : List ℕ) (past : List Step) (step : Step)
    → ((i : ℕ) → slice_index came i ≡ reached past i)
    → step.chain < length came → (i : ℕ) → slice_index (slice_set came step.chain (step.change + 1)) i ≡ reached (step ∷ past) i
came-with chains came past step came-is inside i = elim (cases_eq step.chain i)
    as (λ _. slice_index (slice_set came step.chain (step.change + 1)) i ≡ reached (step ∷ past) i) [
      | inl same ↦ let here = reached-same step past i same
          in subst (λ n. slice_index (slice_set came n (step.change + 1)) i ≡ reached (step ∷ past) i) (sym same)
          (get_or-set_same came i (step.change + 1) 0 (subst (λ n. n < length came) same inside) ∙ sym here)
      | inr other ↦ let here = reached-other step past i other
          in get_or-set_other came step.chain i (step.change + 1) 0 (λ is. other (sym is)) ∙ (came-is i ∙ sym here)
    ]

pub goes-next : (chains : List Chain) (position : ℕ) (came : List ℕ) (past : List Step) (step : Step) → AreFeasible chains
    → GoesOn chains position came past → IsDueStep chains came (length chains) step
    → GoesOn chains position (slice_set came step.chain (step.change + 1)) (step ∷ past)
goes-next chains position came past step feasible goes due =
    let may = subst (λ n. MayTake chains n step) (goes.came-is step.chain) (may-take chains came step feasible due)
    in let sooner = not-sooner chains came past step goes.now goes.came-is due goes.waits
    in let within = goes.within in let reaches = goes.reaches in let count = goes.count
    in let inside = inside-may chains (reached past step.chain) step may
    in record {
      steps = (may, omega (arith, within, sooner), goes.steps);
      came-is = came-with chains came past step goes.came-is (omega (arith, inside, count));
      count = length-set came step.chain (step.change + 1) ∙ count;
      clean = ((λ before. absurd (omega (arith, before, sooner, reaches))), goes.clean);
      now = step.position;
      reaches = omega (arith, sooner, reaches);
      within = omega arith;
      waits = waits-after chains step past may (can-wait chains came past step goes.came-is due);
    }

pub left-fewer : (chains : List Chain) (position : ℕ) (came : List ℕ) (past : List Step) (step : Step) → AreFeasible chains
    → GoesOn chains position came past → IsDueStep chains came (length chains) step
    → total (left_of chains (step ∷ past)) (length chains) < total (left_of chains past) (length chains)
left-fewer chains position came past step feasible goes due =
    let may = subst (λ n. MayTake chains n step) (goes.came-is step.chain) (may-take chains came step feasible due)
    in less_left chains step past may (inside-may chains (reached past step.chain) step may)
    (in_width chains step.chain step.change may.bounds.change may.bounds.is)

-- ---- from a way that is kept

pub clean-before : (chains : List Chain) (position : ℕ) (past : List Step) → IsClean chains past
    → IsCleanBefore chains position past
clean-before chains position [] clean = tt
clean-before chains position (step ∷ past) clean = ((λ before. clean.0), clean-before chains position past clean.1)

pub goes-on : (chains : List Chain) (position : ℕ) (way : Way) (trail : List Link) → (kept : IsKept chains position trail way)
    → (steps : List Step) → reverse steps ≡ kept.past → (came : List ℕ) → came ≡ way.came.items
    → GoesOn chains position came (reverse steps)
goes-on chains position way trail kept steps is came same =
    subst (λ (c : List ℕ). GoesOn chains position c (reverse steps)) (sym same)
    (subst (GoesOn chains position way.came.items) (sym is) (record {
      steps = kept.is-way.steps;
      came-is = kept.came;
      count = kept.count;
      clean = clean-before chains position kept.past kept.is-way.clean;
      now = position;
      reaches = omega arith;
      within = kept.is-way.within;
      waits = kept.is-way.waits;
    }))

-- ---- at the end

pub all-placed : (chains : List Chain) (position : ℕ) (came : List ℕ) (past : List Step) → GoesOn chains position came past
    → NoneLeft chains came (length chains) → IsPlacement chains past
all-placed chains position came past goes none = placement_of chains past goes.steps
    (λ i k change last at has. elim (cases_lt k (reached past i)) as (λ _. k < reached past i) [
      | inl passed ↦ passed
      | inr left ↦
          let found = chain_of chains i k change at
          in let is = goes.came-is i
          in let never = none i found.0 (slice_get_within chains i found.0 found.1) found.1 k change (omega (arith, is, left))
          (slice_get_within found.0.changes.items k change found.2) found.2
          in absurd (grind (arith, never, has))
    ])
