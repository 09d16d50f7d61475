-- Placements and the beginnings that the search walks.
use Rattle.std.proofs.Common.{◌≡◌, ◌+◌, ◌<◌, ◌≤◌, ◌⊎◌, inl, inr, ℕ, List, ◌∷◌, [], Option, Some, None, refl, sym, ap, ◌∙◌, arith}
use Rattle.std.proofs.Common.{subst, nat_le, if◌then◌else◌, true, ◌==◌, ◌&&◌}
use Rattle.std.specs.List.{AllByRecursion}
use Rattle.std.proofs.lemmas.Bool.{cases_eq, cases_lt, cases_Bool, or_cases, and_parts, or_left, or_right, and_from, eqb-true}
use Rattle.std.proofs.lemmas.Bool.{eq-eqb, leb-true, leb-false}
use Rattle.std.proofs.lemmas.Option.{same_Some}
use Rattle.capture_judge.specs.Placing.{change_of, reached, IsWithinBounds, Precedes, IsInOrder, is_placed, IsPlacement, IsClean}
use Rattle.capture_judge.specs.Placing.{IsCleanUpTo}
use Rattle.capture_judge.specs.Beginnings.{newest, MayTake, IsBeginning, CanWait}
use Rattle.capture_judge.specs.declared.values.Change.{Change}
use Rattle.capture_judge.specs.declared.values.Chain.{Chain}
use Rattle.capture_judge.specs.declared.values.Step.{Step}

pub reached-same : (step : Step) (past : List Step) (i : ℕ) → step.chain ≡ i → reached (step ∷ past) i ≡ step.change + 1
reached-same step past i same = grind (arith, same)

pub reached-other : (step : Step) (past : List Step) (i : ℕ) → (step.chain ≡ i → ⊥) → reached (step ∷ past) i ≡ reached past i
reached-other step past i other = grind (arith, other)

-- a step of the list, by its chain and change
pub placed-cases : (i k : ℕ) (step : Step) (past : List Step) → is_placed i k (step ∷ past) ≡ true
    → ((step.chain ≡ i) × (step.change ≡ k)) ⊎ (is_placed i k past ≡ true)
placed-cases i k step past placed = elim (or_cases (step.chain == i && step.change == k) (is_placed i k past) placed) [
  | inl here ↦ let both = and_parts (step.chain == i) (step.change == k) here
      in inl (eqb-true step.chain i both.0, eqb-true step.change k both.1)
  | inr there ↦ inr there
]

pub placed-here : (i k : ℕ) (step : Step) (past : List Step) → step.chain ≡ i → step.change ≡ k
    → is_placed i k (step ∷ past) ≡ true
placed-here i k step past chain change = or_left (step.chain == i && step.change == k) (is_placed i k past)
    (and_from (step.chain == i) (step.change == k) (eq-eqb step.chain i chain) (eq-eqb step.change k change))

pub placed-there : (i k : ℕ) (step : Step) (past : List Step) → is_placed i k past ≡ true → is_placed i k (step ∷ past) ≡ true
placed-there i k step past there = or_right (step.chain == i && step.change == k) (is_placed i k past) there

-- ---- from a placement to its beginnings

-- where a step comes after all others, its chain hasn't come further
pub reached-before : (step : Step) (past : List Step) → AllByRecursion (Precedes step) past
    → reached past step.chain ≤ step.change
reached-before step [] all = omega arith
reached-before step (earlier ∷ past) all = elim (cases_eq earlier.chain step.chain)
    as (λ _. reached (earlier ∷ past) step.chain ≤ step.change) [
      | inl same ↦ let less = all.0.change same in let is = reached-same earlier past step.chain same in omega (arith, less, is)
      | inr other ↦ let is = reached-other earlier past step.chain other in let low = reached-before step past all.1
          in omega (arith, is, low)
    ]

pub placed-below : (i k : ℕ) (past : List Step) → IsInOrder past → is_placed i k past ≡ true → k < reached past i
placed-below i k [] order placed = cc
placed-below i k (step ∷ past) order placed = elim (placed-cases i k step past placed)
    as (λ _. k < reached (step ∷ past) i) [
      | inl here ↦ let is = reached-same step past i here.0 in omega (arith, is, here.1)
      | inr there ↦ elim (cases_eq step.chain i) as (λ _. k < reached (step ∷ past) i) [
        | inl same ↦ let is = reached-same step past i same
            in let low = subst (λ n. reached past n ≤ step.change) same (reached-before step past order.0)
            in let less = placed-below i k past order.1 there in omega (arith, is, low, less)
        | inr other ↦ let is = reached-other step past i other in let low = placed-below i k past order.1 there
            in omega (arith, is, low)
      ]
    ]

-- each change with a last position that a chain has come past is placed
abbrev pub Solid : List Chain → List Step → Type 0
Solid chains past = (i k : ℕ) (change : Change) (last : ℕ) → change_of chains i k ≡ Some change → change.last ≡ Some last
    → k < reached past i → is_placed i k past ≡ true

-- what is known of a placement, and of each of its beginnings
pub record IsOrdered (chains : List Chain) (past : List Step) : Type 0 where
  pub bounds : AllByRecursion (IsWithinBounds chains) past
  pub order : IsInOrder past
  pub solid : Solid chains past

pub ordered_of : (chains : List Chain) (past : List Step) → IsPlacement chains past → IsOrdered chains past
ordered_of chains past placement = record {
  bounds = placement.bounds;
  order = placement.order;
  solid = λ i k change last at has below. placement.certain i k change last at has;
}

solid-before : (chains : List Chain) (step : Step) (past : List Step) → IsInOrder (step ∷ past) → Solid chains (step ∷ past)
    → Solid chains past
solid-before chains step past order solid i k change last at has below = elim (cases_eq step.chain i)
    as (λ _. is_placed i k past ≡ true) [
      | inl same ↦ let low = subst (λ n. reached past n ≤ step.change) same (reached-before step past order.0)
          in let is = reached-same step past i same
          in elim (placed-cases i k step past (solid i k change last at has (omega (arith, low, below, is))))
          as (λ _. is_placed i k past ≡ true) [
            | inl here ↦ absurd (omega (arith, low, below, here.1))
            | inr there ↦ there
          ]
      | inr other ↦ let is = reached-other step past i other
          in elim (placed-cases i k step past (solid i k change last at has (omega (arith, below, is))))
          as (λ _. is_placed i k past ≡ true) [
            | inl here ↦ absurd (other here.0)
            | inr there ↦ there
          ]
    ]

pub ordered-before : (chains : List Chain) (step : Step) (past : List Step) → IsOrdered chains (step ∷ past)
    → IsOrdered chains past
ordered-before chains step past ordered = record {
  bounds = ordered.bounds.1;
  order = ordered.order.1;
  solid = solid-before chains step past ordered.order ordered.solid;
}

newest-before : (step : Step) (past : List Step) → AllByRecursion (Precedes step) past → newest past ≤ step.position
newest-before step [] all = omega arith
newest-before step (earlier ∷ past) all = all.0.position

skips-certain : (chains : List Chain) (step : Step) (past : List Step) → IsOrdered chains (step ∷ past)
    → (k : ℕ) (change : Change) → reached past step.chain ≤ k → k < step.change → change_of chains step.chain k ≡ Some change
    → (end : Option ℕ) → change.last ≡ end → end ≡ None
skips-certain chains step past ordered k change from below at None is = refl
skips-certain chains step past ordered k change from below at (Some last) is =
    let far = reached-same step past step.chain refl
    in absurd (elim (placed-cases step.chain k step past
    (ordered.solid step.chain k change last at is (omega (arith, far, below)))) as (λ _. ⊥) [
      | inl here ↦ omega (arith, here.1, below)
      | inr there ↦ let low = placed-below step.chain k past ordered.order.1 there in omega (arith, low, from)
    ])

pub beginning_of : (chains : List Chain) (past : List Step) → IsOrdered chains past → IsBeginning chains past
beginning_of chains [] ordered = tt
beginning_of chains (step ∷ past) ordered = (
  record {
    bounds = ordered.bounds.0;
    order = reached-before step past ordered.order.0;
    skips = λ k change from below at. skips-certain chains step past ordered k change from below at change.last refl;
  },
  newest-before step past ordered.order.0,
  beginning_of chains past (ordered-before chains step past ordered),
)

-- ---- the beginning of a placement up to a position

abbrev pub up_to : ℕ → List Step → List Step
up_to position [] = []
up_to position (step ∷ past) = if nat_le step.position position then step ∷ past else up_to position past

-- what a beginning of a placement up to a position is
pub record Begins (chains : List Chain) (position : ℕ) (past : List Step) : Type 0 where
  pub steps : IsBeginning chains past
  pub clean : IsClean chains past
  pub within : newest past ≤ position

clean-from : (chains : List Chain) (position : ℕ) (past : List Step) → IsInOrder past → newest past ≤ position
    → IsCleanUpTo chains position past → IsClean chains past
clean-from chains position [] order within clean = tt
clean-from chains position (step ∷ past) order within clean =
    let earlier = newest-before step past order.0
    in (clean.0 within, clean-from chains position past order.1 (omega (arith, earlier, within)) clean.1)

pub up_to-begins : (chains : List Chain) (position : ℕ) (past : List Step) → IsOrdered chains past
    → IsCleanUpTo chains position past → Begins chains position (up_to position past)
up_to-begins chains position [] ordered clean = record { steps = tt; clean = tt; within = omega arith }
up_to-begins chains position (step ∷ past) ordered clean = elim (cases_Bool (nat_le step.position position))
    as (λ _. Begins chains position (up_to position (step ∷ past))) [
      | inl within ↦ rw within (record {
        steps = beginning_of chains (step ∷ past) ordered;
        clean = clean-from chains position (step ∷ past) ordered.order (leb-true step.position position within) clean;
        within = leb-true step.position position within;
      })
      | inr past-it ↦ rw past-it (up_to-begins chains position past (ordered-before chains step past ordered) clean.1)
    ]

pub within-last : (chains : List Chain) (step : Step) → IsWithinBounds chains step → (i k : ℕ) (change : Change) (last : ℕ)
    → step.chain ≡ i → step.change ≡ k → change_of chains i k ≡ Some change → change.last ≡ Some last → step.position ≤ last
within-last chains step bounds i k change last chain index at has =
    let same : change_of chains step.chain step.change ≡ Some change = rw (chain, index) at
    in let one : bounds.change ≡ change = same_Some bounds.change change (sym bounds.is ∙ same)
    in bounds.last last (ap (λ (c : Change). c.last) one ∙ has)

pub within-first : (chains : List Chain) (step : Step) → IsWithinBounds chains step → (i k : ℕ) (change : Change)
    → step.chain ≡ i → step.change ≡ k → change_of chains i k ≡ Some change → change.first ≤ step.position
within-first chains step bounds i k change chain index at =
    let same : change_of chains step.chain step.change ≡ Some change = rw (chain, index) at
    in let one : bounds.change ≡ change = same_Some bounds.change change (sym bounds.is ∙ same)
    in subst (λ (c : Change). c.first ≤ step.position) one bounds.first

-- what isn't placed up to a position is placed after it
up_to-waits : (chains : List Chain) (position : ℕ) (past : List Step) → AllByRecursion (IsWithinBounds chains) past
    → IsInOrder past
    → (i k : ℕ) (change : Change) (last : ℕ) → change_of chains i k ≡ Some change → change.last ≡ Some last
    → is_placed i k past ≡ true → reached (up_to position past) i ≤ k → position < last
up_to-waits chains position [] bounds order i k change last at has placed from = cc
up_to-waits chains position (step ∷ past) bounds order i k change last at has placed from =
    elim (cases_Bool (nat_le step.position position)) as (λ _. position < last) [
      | inl within ↦ let far = rw within at from in let low = placed-below i k (step ∷ past) order placed
          in absurd (omega (arith, far, low))
      | inr later ↦ elim (placed-cases i k step past placed) as (λ _. position < last) [
        | inl here ↦ let end = within-last chains step bounds.0 i k change last here.0 here.1 at has
            in let after = leb-false step.position position later in omega (arith, end, after)
        | inr there ↦ up_to-waits chains position past bounds.1 order.1 i k change last at has there (rw later at from)
      ]
    ]

pub up_to-can_wait : (chains : List Chain) (position : ℕ) (past : List Step) → IsPlacement chains past
    → CanWait chains (position + 1) (up_to position past)
up_to-can_wait chains position past placement i k change last from at has =
    let late = up_to-waits chains position past placement.bounds placement.order i k change last at has
    (placement.certain i k change last at has) from
    in omega (arith, late)

-- ---- from a beginning in which nothing is left out to a placement

none-some-last : (last : ℕ) (end : Option ℕ) → end ≡ None → end ≡ Some last → ⊥
none-some-last last end none some = grind (arith, none, some)

pub solid_of : (chains : List Chain) (past : List Step) → IsBeginning chains past → Solid chains past
solid_of chains [] steps i k change last at has below = absurd (omega (arith, below))
solid_of chains (step ∷ past) steps i k change last at has below = elim (cases_eq step.chain i)
    as (λ _. is_placed i k (step ∷ past) ≡ true) [
      | inl same ↦ elim (cases_eq step.change k) as (λ _. is_placed i k (step ∷ past) ≡ true) [
        | inl index ↦ placed-here i k step past same index
        | inr other ↦ elim (cases_lt k (reached past i)) as (λ _. is_placed i k (step ∷ past) ≡ true) [
          | inl before ↦ placed-there i k step past (solid_of chains past steps.2 i k change last at has before)
          | inr from ↦ let far = reached-same step past i same
              in absurd (none-some-last last change.last (steps.0.skips k change
              (subst (λ n. reached past n ≤ k) (sym same) from) (omega (arith, below, far, other))
              (subst (λ n. change_of chains n k ≡ Some change) (sym same) at)) has)
        ]
      ]
      | inr other ↦ let is = reached-other step past i other
          in placed-there i k step past (solid_of chains past steps.2 i k change last at has (omega (arith, below, is)))
    ]

pub reached-passed : (chains : List Chain) (earlier : Step) (past : List Step)
    → MayTake chains (reached past earlier.chain) earlier
    → (i : ℕ) → reached past i ≤ reached (earlier ∷ past) i
reached-passed chains earlier past may i = elim (cases_eq earlier.chain i) as (λ _. reached past i ≤ reached (earlier ∷ past) i) [
  | inl same ↦ let is = reached-same earlier past i same
      in let low = subst (λ n. reached past n ≤ earlier.change) same may.order in omega (arith, is, low)
  | inr other ↦ let is = reached-other earlier past i other in omega (arith, is)
]

precedes_all : (chains : List Chain) (step : Step) (past : List Step) → IsBeginning chains past
    → reached past step.chain ≤ step.change → newest past ≤ step.position → AllByRecursion (Precedes step) past
precedes_all chains step [] steps low within = tt
precedes_all chains step (earlier ∷ past) steps low within =
    let far = reached-passed chains earlier past steps.0 step.chain
    in let before = steps.1
    in (
      record {
        position = within;
        change = λ same. let is = reached-same earlier past step.chain same in omega (arith, is, low);
      },
      precedes_all chains step past steps.2 (omega (arith, far, low)) (omega (arith, before, within)),
    )

pub order_of : (chains : List Chain) (past : List Step) → IsBeginning chains past → IsInOrder past
order_of chains [] steps = tt
order_of chains (step ∷ past) steps =
    (precedes_all chains step past steps.2 steps.0.order steps.1, order_of chains past steps.2)

pub bounds_of : (chains : List Chain) (past : List Step) → IsBeginning chains past → AllByRecursion (IsWithinBounds chains) past
bounds_of chains [] steps = tt
bounds_of chains (step ∷ past) steps = (steps.0.bounds, bounds_of chains past steps.2)

-- A beginning that has passed each change with a last position is a placement.
pub placement_of : (chains : List Chain) (past : List Step) → IsBeginning chains past
    → ((i k : ℕ) (change : Change) (last : ℕ) → change_of chains i k ≡ Some change → change.last ≡ Some last → k < reached past i)
    → IsPlacement chains past
placement_of chains past steps passed = record {
  bounds = bounds_of chains past steps;
  order = order_of chains past steps;
  certain = λ i k change last at has. solid_of chains past steps i k change last at has (passed i k change last at has);
}
