-- When changes can be placed in their order, and that there is no placement where they can't.
use Rattle.std.proofs.Common.{◌≡◌, ◌+◌, ◌<◌, ◌≤◌, ◌⊎◌, inl, inr, ℕ, List, ◌∷◌, [], Some, None, refl, sym, ap, ◌∙◌, arith, subst}
use Rattle.std.proofs.Common.{slice_get, nat_cmp, true}
use Rattle.std.specs.List.{AllByRecursion}
use Rattle.std.specs.Ordering.{ord_max}
use Rattle.std.proofs.lemmas.Grind.{common_steps}
use Rattle.std.proofs.lemmas.Bool.{cases_eq}
use Rattle.capture_judge.specs.Placing.{change_at, change_of, reached, is_placed, IsWithinBounds, Precedes, IsInOrder}
use Rattle.capture_judge.specs.Placing.{IsPlacement}
use Rattle.capture_judge.specs.Searching.{IsInfeasible, HasInfeasible}
use Rattle.capture_judge.proofs.placings.Orders.{placed-cases, placed-below, reached-before, within-first, within-last}
use Rattle.capture_judge.specs.declared.values.Change.{Change}
use Rattle.capture_judge.specs.declared.values.Chain.{Chain}
use Rattle.capture_judge.specs.declared.values.Step.{Step}

-- a change that has a last position, before an index
pub record Before (changes : List Change) (n first : ℕ) : Type 0 where
  pub k : ℕ
  pub change : Change
  pub last : ℕ
  pub below : k < n
  pub at : slice_get changes k ≡ Some change
  pub has : change.last ≡ Some last
  pub is : change.first ≡ first

-- The changes before an index can be placed in their order, and none of them that has a last position begins after this one.
pub record Earliest (changes : List Change) (n earliest : ℕ) : Type 0 where
  pub all : (k : ℕ) (change : Change) (last : ℕ) → k < n → slice_get changes k ≡ Some change → change.last ≡ Some last
      → change.first ≤ earliest
  pub one : (earliest ≡ 0) ⊎ Before changes n earliest
  pub feasible : (i j : ℕ) (change other : Change) (last end : ℕ) → i ≤ j → j < n → slice_get changes i ≡ Some change
      → change.last ≡ Some last → slice_get changes j ≡ Some other → other.last ≡ Some end → change.first ≤ end

pub earliest-start : (changes : List Change) → Earliest changes 0 0
earliest-start changes = record {
  all = λ k change last below at has. absurd (omega (arith, below));
  one = inl refl;
  feasible = λ i j change other last end order below at has also-at also-has. absurd (omega (arith, below));
}

before-more : (changes : List Change) (n m first : ℕ) → n ≤ m → (first ≡ 0) ⊎ Before changes n first
    → (first ≡ 0) ⊎ Before changes m first
before-more changes n m first more (inl none) = inl none
before-more changes n m first more (inr one) = inr (record {
  k = one.k;
  change = one.change;
  last = one.last;
  below = let below = one.below in omega (arith, below, more);
  at = one.at;
  has = one.has;
  is = one.is;
})

pub earliest-skip : (changes : List Change) (n earliest : ℕ) (here : Change) → slice_get changes n ≡ Some here → here.last ≡ None
    → Earliest changes n earliest → Earliest changes (n + 1) earliest
earliest-skip changes n earliest here is none before = record {
  all = λ k change last below at has. elim (cases_eq k n) as (λ _. change.first ≤ earliest) [
    | inl same ↦ absurd (grind (arith, same, at, is, none, has))
    | inr other ↦ before.all k change last (omega (arith, below, other)) at has
  ];
  one = before-more changes n (n + 1) earliest (omega arith) before.one;
  feasible = λ i j change other last end order below at has also-at also-has. elim (cases_eq j n) as (λ _. change.first ≤ end) [
    | inl same ↦ absurd (grind (arith, same, also-at, is, none, also-has))
    | inr differ ↦ before.feasible i j change other last end order (omega (arith, below, differ)) at has also-at also-has
  ];
}

pub record IsLater (a b next : ℕ) : Type 0 where
  pub left : a ≤ next
  pub right : b ≤ next
  pub one : (next ≡ a) ⊎ (next ≡ b)

pub later-of : (a b : ℕ) → IsLater a b (ord_max nat_cmp a b)
later-of a b = record {
  left = grind (arith, common_steps);
  right = grind (arith, common_steps);
  one = grind (arith, common_steps);
}

all-next : (changes : List Change) (n earliest next : ℕ) (here : Change) → slice_get changes n ≡ Some here
    → IsLater earliest here.first next → Earliest changes n earliest → (k : ℕ) (change : Change) (last : ℕ) → k < n + 1
    → slice_get changes k ≡ Some change → change.last ≡ Some last → change.first ≤ next
all-next changes n earliest next here is later before k change last below at has = elim (cases_eq k n)
    as (λ _. change.first ≤ next) [
      | inl same ↦ let one : change.first ≡ here.first = grind (arith, same, at, is)
          in let bound = later.right in omega (arith, one, bound)
      | inr other ↦ let low = before.all k change last (omega (arith, below, other)) at has
          in let bound = later.left in omega (arith, low, bound)
    ]

one-next : (changes : List Change) (n earliest next : ℕ) (here : Change) (end : ℕ) → slice_get changes n ≡ Some here
    → here.last ≡ Some end → (earliest ≡ 0) ⊎ Before changes n earliest → (next ≡ earliest) ⊎ (next ≡ here.first)
    → (next ≡ 0) ⊎ Before changes (n + 1) next
one-next changes n earliest next here end is has one (inr same) = inr (record {
  k = n;
  change = here;
  last = end;
  below = omega arith;
  at = is;
  has = has;
  is = sym same;
})
one-next changes n earliest next here end is has one (inl same) =
    rw same (before-more changes n (n + 1) earliest (omega arith) one)

pub earliest-next : (changes : List Change) (n earliest next : ℕ) (here : Change) (end : ℕ) → slice_get changes n ≡ Some here
    → here.last ≡ Some end → IsLater earliest here.first next → next ≤ end → Earliest changes n earliest
    → Earliest changes (n + 1) next
earliest-next changes n earliest next here end is has later fits before = record {
  all = all-next changes n earliest next here is later before;
  one = one-next changes n earliest next here end is has before.one later.one;
  feasible = λ i j change other last stop order below at first-has also-at also-has. elim (cases_eq j n)
      as (λ _. change.first ≤ stop) [
        | inl same ↦ let low = all-next changes n earliest next here is later before i change last
            (omega (arith, order, below)) at
            first-has
            in let one : stop ≡ end = grind (arith, same, also-at, is, also-has, has) in omega (arith, low, one, fits)
        | inr differ ↦ before.feasible i j change other last stop order
            (omega (arith, below, differ)) at first-has also-at also-has
      ];
}

infeasible-from : (changes : List Change) (n : ℕ) (here : Change) (end first : ℕ) → slice_get changes n ≡ Some here
    → here.last ≡ Some end → end < first → (first ≡ 0) ⊎ Before changes (n + 1) first → IsInfeasible changes
infeasible-from changes n here end first is has late (inl none) = absurd (omega (arith, late, none))
infeasible-from changes n here end first is has late (inr one) = record {
  i = one.k;
  j = n;
  change = one.change;
  other = here;
  last = one.last;
  end = end;
  order = let below = one.below in omega (arith, below);
  at = one.at;
  has = one.has;
  also-at = is;
  also-has = has;
  late = let same = one.is in omega (arith, late, same);
}

pub infeasible : (changes : List Change) (n earliest next : ℕ) (here : Change) (end : ℕ) → slice_get changes n ≡ Some here
    → here.last ≡ Some end → IsLater earliest here.first next → end < next → Earliest changes n earliest → IsInfeasible changes
infeasible changes n earliest next here end is has later late before =
    infeasible-from changes n here end next is has late
    (one-next changes n earliest next here end is has before.one later.one)

-- ---- no placement where changes can't be placed in their order

-- a placed change begins no later than a step after it
first-before : (chains : List Chain) (step : Step) (past : List Step) → AllByRecursion (IsWithinBounds chains) past
    → AllByRecursion (Precedes step) past → (i k : ℕ) (change : Change) → change_of chains i k ≡ Some change
    → is_placed i k past ≡ true → change.first ≤ step.position
first-before chains step [] bounds all i k change at placed = cc
first-before chains step (earlier ∷ past) bounds all i k change at placed = elim (placed-cases i k earlier past placed)
    as (λ _. change.first ≤ step.position) [
      | inl here ↦ let begins = within-first chains earlier bounds.0 i k change here.0 here.1 at
          in let order = all.0.position in omega (arith, begins, order)
      | inr there ↦ first-before chains step past bounds.1 all.1 i k change at there
    ]

first-last : (chains : List Chain) (past : List Step) → AllByRecursion (IsWithinBounds chains) past → IsInOrder past
    → (i a b : ℕ) (change other : Change) (end : ℕ) → a ≤ b → change_of chains i a ≡ Some change
    → change_of chains i b ≡ Some other
    → other.last ≡ Some end → is_placed i a past ≡ true → is_placed i b past ≡ true → change.first ≤ end
first-last chains [] bounds order i a b change other end before at also-at has placed also = cc
first-last chains (step ∷ past) bounds order i a b change other end before at also-at has placed also =
    elim (placed-cases i b step past also) as (λ _. change.first ≤ end) [
      | inl last ↦ let stops = within-last chains step bounds.0 i b other end last.0 last.1 also-at has
          in elim (placed-cases i a step past placed) as (λ _. change.first ≤ end) [
            | inl first ↦ let begins = within-first chains step bounds.0 i a change first.0 first.1 at
                in omega (arith, begins, stops)
            | inr there ↦ let begins = first-before chains step past bounds.1 order.0 i a change at there
                in omega (arith, begins, stops)
          ]
      | inr there ↦ elim (placed-cases i a step past placed) as (λ _. change.first ≤ end) [
        | inl first ↦ let low = subst (λ n. reached past n ≤ step.change) first.0 (reached-before step past order.0)
            in let far = placed-below i b past order.1 there in absurd (omega (arith, low, far, before, first.1))
        | inr also-there ↦
            first-last chains past bounds.1 order.1 i a b change other end before at also-at has also-there there
      ]
    ]

pub no_placement : (chains : List Chain) → HasInfeasible chains → (past : List Step) → IsPlacement chains past → ⊥
unfolding change_of
no_placement chains broken past placement =
    let chain = broken.1
    in let none = broken.3
    in let at : change_of chains broken.0 none.i ≡ Some none.change = ap (λ c. change_at c none.i) broken.2 ∙ none.at
    in let also : change_of chains broken.0 none.j ≡ Some none.other = ap (λ c. change_at c none.j) broken.2 ∙ none.also-at
    in let low = first-last chains past placement.bounds placement.order broken.0 none.i none.j none.change none.other none.end
    none.order at also none.also-has (placement.certain broken.0 none.i none.change none.last at none.has)
    (placement.certain broken.0 none.j none.other none.end also none.also-has)
    in let late = none.late in omega (arith, low, late)
