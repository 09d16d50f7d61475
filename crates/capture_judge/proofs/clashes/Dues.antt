-- What must happen next, found change by change and chain by chain.
use Rattle.std.proofs.Common.{◌≡◌, ◌+◌, ◌<◌, ◌≤◌, inl, inr, ℕ, List, Option, Some, None, refl, sym, ap, ◌∙◌, arith, subst}
use Rattle.std.proofs.Common.{length, slice_get, slice_index, nat_le}
use Rattle.std.proofs.lemmas.Bool.{cases_eq, cases_Bool, leb-true, leb-false}
use Rattle.std.proofs.lemmas.Option.{same_Some, slice_get_within}
use Rattle.capture_judge.specs.Charges.{NoneDue, IsDue, IsNextDue, due_with, NoneLeft, IsDueStep, IsNextStep, sooner}
use Rattle.capture_judge.specs.declared.charging.Due.{Due}
use Rattle.capture_judge.specs.declared.values.Chain.{Chain}
use Rattle.capture_judge.specs.declared.values.Change.{Change}
use Rattle.capture_judge.specs.declared.values.Step.{Step}

-- ---- along a chain

none-more : (changes : List Change) (from n : ℕ) (here : Change) → slice_get changes n ≡ Some here → here.last ≡ None
    → NoneDue changes from n → NoneDue changes from (n + 1)
none-more changes from n here at none before k change above below is = elim (cases_eq k n) as (λ _. change.last ≡ None) [
  | inl same ↦ grind (arith, same, at, is, none)
  | inr other ↦ before k change above (omega (arith, below, other)) is
]

due-kept : (changes : List Change) (from n : ℕ) (due : Due) (here : Change) → slice_get changes n ≡ Some here
    → ((end : ℕ) → here.last ≡ Some end → due.position ≤ end) → IsDue changes from n due → IsDue changes from (n + 1) due
due-kept changes from n due here at low before = record {
  from-on = before.from-on;
  before-end = let below = before.before-end in omega (arith, below);
  change = before.change;
  at = before.at;
  last = before.last;
  has = before.has;
  first = before.first;
  lowest = λ k other end above below is has. elim (cases_eq k n) as (λ _. due.position ≤ end) [
    | inl same ↦ low end (let one = same_Some here other (sym at ∙ (sym (ap (slice_get changes) same) ∙ is))
        in ap (λ (c : Change). c.last) one ∙ has)
    | inr differ ↦ before.lowest k other end above (omega (arith, below, differ)) is has
  ];
  hurried = before.hurried;
  hurries = before.hurries;
  later = before.later;
  hurries-at = before.hurries-at;
  hurries-has = before.hurries-has;
}

pub due-skip : (changes : List Change) (from n : ℕ) (due : Option Due) (here : Change) → slice_get changes n ≡ Some here
    → here.last ≡ None → IsNextDue changes from n due → IsNextDue changes from (n + 1) due
due-skip changes from n None here at none before = none-more changes from n here at none before
due-skip changes from n (Some due) here at none before =
    due-kept changes from n due here at (λ end has. absurd (grind (arith, none, has))) before

due-first : (changes : List Change) (from n last : ℕ) (here : Change) → from ≤ n → slice_get changes n ≡ Some here
    → here.last ≡ Some last → NoneDue changes from n → IsDue changes from (n + 1) (record { change = n; position = last })
due-first changes from n last here above at has none = record {
  from-on = above;
  before-end = omega arith;
  change = here;
  at = at;
  last = last;
  has = has;
  first = none;
  lowest = λ k other end from-on below is also. elim (cases_eq k n) as (λ _. last ≤ end) [
    | inl same ↦ let one = same_Some here other (sym at ∙ (sym (ap (slice_get changes) same) ∙ is))
        in let end-is = same_Some last end (sym has ∙ (ap (λ (c : Change). c.last) one ∙ also)) in omega (arith, end-is)
    | inr differ ↦ absurd (let never = none k other from-on (omega (arith, below, differ)) is in grind (arith, never, also))
  ];
  hurried = n;
  hurries = here;
  later = omega arith;
  hurries-at = at;
  hurries-has = has;
}

due-lower : (changes : List Change) (from n last : ℕ) (due : Due) (here : Change) → from ≤ n → slice_get changes n ≡ Some here
    → here.last ≡ Some last → last < due.position → IsDue changes from n due
    → IsDue changes from (n + 1) (record { change = due.change; position = last })
due-lower changes from n last due here above at has less before = record {
  from-on = before.from-on;
  before-end = let below = before.before-end in omega (arith, below);
  change = before.change;
  at = before.at;
  last = before.last;
  has = before.has;
  first = before.first;
  lowest = λ k other end from-on below is also. elim (cases_eq k n) as (λ _. last ≤ end) [
    | inl same ↦ let one = same_Some here other (sym at ∙ (sym (ap (slice_get changes) same) ∙ is))
        in let end-is = same_Some last end (sym has ∙ (ap (λ (c : Change). c.last) one ∙ also)) in omega (arith, end-is)
    | inr differ ↦ let low = before.lowest k other end from-on (omega (arith, below, differ)) is also in omega (arith, low, less)
  ];
  hurried = n;
  hurries = here;
  later = let below = before.before-end in omega (arith, below);
  hurries-at = at;
  hurries-has = has;
}

due-next : (changes : List Change) (from n last : ℕ) (due : Due) (here : Change) → from ≤ n → slice_get changes n ≡ Some here
    → here.last ≡ Some last → IsDue changes from n due → IsDue changes from (n + 1) (due_with (Some due) n last)
due-next changes from n last due here above at has before = elim (cases_Bool (nat_le due.position last))
    as (λ _. IsDue changes from (n + 1) (due_with (Some due) n last)) [
      | inl low ↦ rw low (due-kept changes from n due here at
          (λ end also. let same = same_Some last end (sym has ∙ also) in let less = leb-true due.position last low
          in omega (arith, same, less)) before)
      | inr high ↦ rw high (due-lower changes from n last due here above at has (leb-false due.position last high) before)
    ]

pub due-more : (changes : List Change) (from n last : ℕ) (due : Option Due) (here : Change) → from ≤ n
    → slice_get changes n ≡ Some here → here.last ≡ Some last → IsNextDue changes from n due
    → IsNextDue changes from (n + 1) (Some (due_with due n last))
due-more changes from n last None here above at has before = due-first changes from n last here above at has before
due-more changes from n last (Some due) here above at has before = due-next changes from n last due here above at has before

pub due-all : (changes : List Change) (from n : ℕ) (due : Option Due) → length changes ≤ n → IsNextDue changes from n due
    → IsNextDue changes from (length changes) due
due-all changes from n None all before =
    λ k change above below is. before k change above (omega (arith, below, all)) is
due-all changes from n (Some due) all before = record {
  from-on = before.from-on;
  before-end = slice_get_within changes due.change before.change before.at;
  change = before.change;
  at = before.at;
  last = before.last;
  has = before.has;
  first = before.first;
  lowest = λ k other end above below is has. before.lowest k other end above (omega (arith, below, all)) is has;
  hurried = before.hurried;
  hurries = before.hurries;
  later = before.later;
  hurries-at = before.hurries-at;
  hurries-has = before.hurries-has;
}

-- ---- from chain to chain

pub none_left-start : (chains : List Chain) (came : List ℕ) → NoneLeft chains came 0
none_left-start chains came i chain inside at = absurd (omega (arith, inside))

none_left-more : (chains : List Chain) (came : List ℕ) (n : ℕ) (here : Chain) → slice_get chains n ≡ Some here
    → NoneDue here.changes.items (slice_index came n) (length here.changes.items) → NoneLeft chains came n
    → NoneLeft chains came (n + 1)
none_left-more chains came n here at none before i chain inside is = elim (cases_eq i n)
    as (λ _. NoneDue chain.changes.items (slice_index came i) (length chain.changes.items)) [
      | inl same ↦ let one = same_Some here chain (sym at ∙ (sym (ap (slice_get chains) same) ∙ is))
          in subst (λ (c : Chain). NoneDue c.changes.items (slice_index came i) (length c.changes.items)) one
          (subst (λ m. NoneDue here.changes.items (slice_index came m) (length here.changes.items)) (sym same) none)
      | inr other ↦ before i chain (omega (arith, inside, other)) is
    ]

-- what bounds the last positions that are left of the chains so far bounds those of one more, if it bounds those of that one
low-more : (chains : List Chain) (came : List ℕ) (n low : ℕ) (here : Chain) → slice_get chains n ≡ Some here
    → ((k : ℕ) (change : Change) (end : ℕ) → slice_index came n ≤ k → slice_get here.changes.items k ≡ Some change
    → change.last ≡ Some end → low ≤ end)
    → ((i : ℕ) (other : Chain) (k : ℕ) (change : Change) (end : ℕ) → i < n → slice_get chains i ≡ Some other
    → slice_index came i ≤ k → slice_get other.changes.items k ≡ Some change → change.last ≡ Some end → low ≤ end)
    → (i : ℕ) (other : Chain) (k : ℕ) (change : Change) (end : ℕ) → i < n + 1 → slice_get chains i ≡ Some other
    → slice_index came i ≤ k → slice_get other.changes.items k ≡ Some change → change.last ≡ Some end → low ≤ end
low-more chains came n low here at bound before i other k change end inside is from change-at has = elim (cases_eq i n)
    as (λ _. low ≤ end) [
      | inl same ↦ let one = same_Some here other (sym at ∙ (sym (ap (slice_get chains) same) ∙ is))
          in bound k change end (subst (λ m. slice_index came m ≤ k) same from)
          (subst (λ (c : Chain). slice_get c.changes.items k ≡ Some change) (sym one) change-at) has
      | inr differ ↦ before i other k change end (omega (arith, inside, differ)) is from change-at has
    ]

-- nothing is left of the chain
low-none : (changes : List Change) (from low : ℕ) → NoneDue changes from (length changes)
    → (k : ℕ) (change : Change) (end : ℕ) → from ≤ k → slice_get changes k ≡ Some change → change.last ≡ Some end → low ≤ end
low-none changes from low none k change end above at has =
    absurd (let never = none k change above (slice_get_within changes k change at) at in grind (arith, never, has))

low-due : (changes : List Change) (from low : ℕ) (due : Due) → IsDue changes from (length changes) due → low ≤ due.position
    → (k : ℕ) (change : Change) (end : ℕ) → from ≤ k → slice_get changes k ≡ Some change → change.last ≡ Some end → low ≤ end
low-due changes from low due is less k change end above at has =
    let bound = is.lowest k change end above (slice_get_within changes k change at) at has in omega (arith, bound, less)

step-kept : (chains : List Chain) (came : List ℕ) (n : ℕ) (here : Chain) (step : Step) → slice_get chains n ≡ Some here
    → ((k : ℕ) (change : Change) (end : ℕ) → slice_index came n ≤ k → slice_get here.changes.items k ≡ Some change
    → change.last ≡ Some end → step.position ≤ end)
    → IsDueStep chains came n step → IsDueStep chains came (n + 1) step
step-kept chains came n here step at bound before = record {
  chain = before.chain;
  at = before.at;
  due = before.due;
  change-is = before.change-is;
  position-is = before.position-is;
  is = before.is;
  lowest = low-more chains came n step.position here at bound before.lowest;
}

pub step-skip : (chains : List Chain) (came : List ℕ) (n : ℕ) (found : Option Step) (here : Chain)
    → slice_get chains n ≡ Some here
    → NoneDue here.changes.items (slice_index came n) (length here.changes.items) → IsNextStep chains came n found
    → IsNextStep chains came (n + 1) found
step-skip chains came n None here at none before = none_left-more chains came n here at none before
step-skip chains came n (Some step) here at none before =
    step-kept chains came n here step at (low-none here.changes.items (slice_index came n) step.position none) before

-- the step to what is due of a chain
abbrev pub step_to : ℕ → Due → Step
step_to chain due = record { position = due.position; chain = chain; change = due.change }

step-new : (chains : List Chain) (came : List ℕ) (n : ℕ) (here : Chain) (due : Due) → slice_get chains n ≡ Some here
    → IsDue here.changes.items (slice_index came n) (length here.changes.items) due
    → ((i : ℕ) (other : Chain) (k : ℕ) (change : Change) (end : ℕ) → i < n → slice_get chains i ≡ Some other
    → slice_index came i ≤ k → slice_get other.changes.items k ≡ Some change → change.last ≡ Some end → due.position ≤ end)
    → IsDueStep chains came (n + 1) (step_to n due)
step-new chains came n here due at is before = record {
  chain = here;
  at = at;
  due = due;
  change-is = refl;
  position-is = refl;
  is = is;
  lowest = low-more chains came n due.position here at
      (low-due here.changes.items (slice_index came n) due.position due is (omega arith)) before;
}

step-next : (chains : List Chain) (came : List ℕ) (n : ℕ) (step : Step) (here : Chain) (due : Due)
    → slice_get chains n ≡ Some here
    → IsDue here.changes.items (slice_index came n) (length here.changes.items) due → IsDueStep chains came n step
    → IsDueStep chains came (n + 1) (sooner (Some step) (step_to n due))
step-next chains came n step here due at is before = elim (cases_Bool (nat_le step.position due.position))
    as (λ _. IsDueStep chains came (n + 1) (sooner (Some step) (step_to n due))) [
      | inl low ↦ rw low (step-kept chains came n here step at
          (low-due here.changes.items (slice_index came n) step.position due is (leb-true step.position due.position low)) before)
      | inr high ↦ rw high (step-new chains came n here due at is
          (λ i other k change end inside at-i from change-at has.
          let bound = before.lowest i other k change end inside at-i from change-at has
          in let less = leb-false step.position due.position high in omega (arith, bound, less)))
    ]

pub step-more : (chains : List Chain) (came : List ℕ) (n : ℕ) (found : Option Step) (here : Chain) (due : Due)
    → slice_get chains n ≡ Some here → IsDue here.changes.items (slice_index came n) (length here.changes.items) due
    → IsNextStep chains came n found → IsNextStep chains came (n + 1) (Some (sooner found (step_to n due)))
step-more chains came n None here due at is before = step-new chains came n here due at is
    (λ i other k change end inside at-i from change-at has.
    absurd (let never = before i other inside at-i k change from
    (slice_get_within other.changes.items k change change-at) change-at
    in grind (arith, never, has)))
step-more chains came n (Some step) here due at is before = step-next chains came n step here due at is before

pub step-all : (chains : List Chain) (came : List ℕ) (n : ℕ) (found : Option Step) → length chains ≤ n
    → IsNextStep chains came n found → IsNextStep chains came (length chains) found
step-all chains came n None all before = λ i chain inside at. before i chain (omega (arith, inside, all)) at
step-all chains came n (Some step) all before = record {
  chain = before.chain;
  at = before.at;
  due = before.due;
  change-is = before.change-is;
  position-is = before.position-is;
  is = before.is;
  lowest = λ i other k change end inside at from change-at has.
      before.lowest i other k change end (omega (arith, inside, all)) at from change-at has;
}
