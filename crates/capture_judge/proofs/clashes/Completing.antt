-- A beginning that has left out nothing goes on to a placement, where each chain can be placed by itself.
use Rattle.std.proofs.Common.{◌≡◌, ◌+◌, ◌-◌, ◌<◌, ◌≤◌, ◌⊎◌, inl, inr, ℕ, zero, suc, List, ◌∷◌, Option, Some, None, refl, sym, ap}
use Rattle.std.proofs.Common.{◌∙◌, arith, subst, length, slice_get, nat_lt, if◌then◌else◌}
use Rattle.std.proofs.lemmas.Bool.{cases_eq, cases_lt, cases_Bool, ltb-false, le-ltb}
use Rattle.std.proofs.lemmas.Option.{slice_get_within, same_Some}
use Rattle.capture_judge.specs.Placing.{change_at, change_of, reached, IsPlacement, IsCleanUpTo}
use Rattle.capture_judge.specs.Beginnings.{newest, MayTake, IsBeginning, CanWait}
use Rattle.capture_judge.specs.Searching.{AreFeasible}
use Rattle.capture_judge.proofs.placings.Orders.{reached-same, reached-other, reached-passed, placement_of}
use Rattle.capture_judge.specs.declared.values.Change.{Change}
use Rattle.capture_judge.specs.declared.values.Chain.{Chain}
use Rattle.capture_judge.specs.declared.values.Step.{Step}

-- ---- the least of some numbers

abbrev None_below : (ℕ → Option ℕ) → ℕ → Type 0
None_below f n = (j : ℕ) → j < n → f j ≡ None

record Least (f : ℕ → Option ℕ) (n : ℕ) : Type 0 where
  pub at : ℕ
  pub value : ℕ
  pub inside : at < n
  pub is : f at ≡ Some value
  pub least : (j v : ℕ) → j < n → f j ≡ Some v → value ≤ v

none-more : (f : ℕ → Option ℕ) (n : ℕ) → None_below f n → f n ≡ None → None_below f (suc n)
none-more f n below here j less = elim (cases_eq j n) as (λ _. f j ≡ None) [
  | inl same ↦ ap f same ∙ here
  | inr other ↦ below j (omega (arith, less, other))
]

least-kept : (f : ℕ → Option ℕ) (n value : ℕ) → ((j v : ℕ) → j < n → f j ≡ Some v → value ≤ v)
    → ((v : ℕ) → f n ≡ Some v → value ≤ v) → (j v : ℕ) → j < suc n → f j ≡ Some v → value ≤ v
least-kept f n value before here j v less is = elim (cases_eq j n) as (λ _. value ≤ v) [
  | inl same ↦ here v (sym (ap f same) ∙ is)
  | inr other ↦ before j v (omega (arith, less, other)) is
]

least-with : (f : ℕ → Option ℕ) (n : ℕ) → None_below f n ⊎ Least f n → (here : Option ℕ) → f n ≡ here
    → None_below f (suc n) ⊎ Least f (suc n)
least-with f n (inl none) None is = inl (none-more f n none is)
least-with f n (inl none) (Some value) is = inr (record {
  at = n;
  value = value;
  inside = omega arith;
  is = is;
  least = least-kept f n value (λ j v less has. absurd (grind (arith, none j less, has)))
      (λ v has. let same = same_Some value v (sym is ∙ has) in omega (arith, same));
})
least-with f n (inr one) None is = inr (record {
  at = one.at;
  value = one.value;
  inside = let inside = one.inside in omega (arith, inside);
  is = one.is;
  least = least-kept f n one.value one.least (λ v has. absurd (grind (arith, is, has)));
})
least-with f n (inr one) (Some value) is = elim (cases_lt value one.value)
    as (λ _. None_below f (suc n) ⊎ Least f (suc n)) [
      | inl less ↦ inr (record {
        at = n;
        value = value;
        inside = omega arith;
        is = is;
        least = least-kept f n value (λ j v below has. let low = one.least j v below has in omega (arith, low, less))
            (λ v has. let same = same_Some value v (sym is ∙ has) in omega (arith, same));
      })
      | inr more ↦ inr (record {
        at = one.at;
        value = one.value;
        inside = let inside = one.inside in omega (arith, inside);
        is = one.is;
        least = least-kept f n one.value one.least
            (λ v has. let same = same_Some value v (sym is ∙ has) in omega (arith, same, more));
      })
    ]

least : (f : ℕ → Option ℕ) (n : ℕ) → None_below f n ⊎ Least f n
least f zero = inl (λ j less. absurd (omega (arith, less)))
least f (suc n) = least-with f n (least f n) (f n) refl

-- ---- the least of some rows of numbers

record LeastOf (f : ℕ → ℕ → Option ℕ) (width : ℕ → ℕ) (n : ℕ) : Type 0 where
  pub row : ℕ
  pub at : ℕ
  pub value : ℕ
  pub is : f row at ≡ Some value
  pub least : (i j v : ℕ) → i < n → j < width i → f i j ≡ Some v → value ≤ v

abbrev NoneOf : (ℕ → ℕ → Option ℕ) → (ℕ → ℕ) → ℕ → Type 0
NoneOf f width n = (i j : ℕ) → i < n → j < width i → f i j ≡ None

rows-kept : (f : ℕ → ℕ → Option ℕ) (width : ℕ → ℕ) (n value : ℕ)
    → ((i j v : ℕ) → i < n → j < width i → f i j ≡ Some v → value ≤ v)
    → ((j v : ℕ) → j < width n → f n j ≡ Some v → value ≤ v) → (i j v : ℕ) → i < suc n → j < width i → f i j ≡ Some v → value ≤ v
rows-kept f width n value before here i j v less inside is = elim (cases_eq i n) as (λ _. value ≤ v) [
  | inl same ↦ here j v (subst (λ m. j < width m) same inside) (subst (λ m. f m j ≡ Some v) same is)
  | inr other ↦ before i j v (omega (arith, less, other)) inside is
]

rows-none : (f : ℕ → ℕ → Option ℕ) (width : ℕ → ℕ) (n : ℕ) → NoneOf f width n → None_below (f n) (width n)
    → NoneOf f width (suc n)
rows-none f width n before here i j less inside = elim (cases_eq i n) as (λ _. f i j ≡ None) [
  | inl same ↦ subst (λ m. f m j ≡ None) (sym same) (here j (subst (λ m. j < width m) same inside))
  | inr other ↦ before i j (omega (arith, less, other)) inside
]

rows-with : (f : ℕ → ℕ → Option ℕ) (width : ℕ → ℕ) (n : ℕ) → NoneOf f width n ⊎ LeastOf f width n
    → None_below (f n) (width n) ⊎ Least (f n) (width n) → NoneOf f width (suc n) ⊎ LeastOf f width (suc n)
rows-with f width n (inl none) (inl here) = inl (rows-none f width n none here)
rows-with f width n (inl none) (inr one) = inr (record {
  row = n;
  at = one.at;
  value = one.value;
  is = one.is;
  least = rows-kept f width n one.value (λ i j v less inside has. absurd (grind (arith, none i j less inside, has))) one.least;
})
rows-with f width n (inr one) (inl here) = inr (record {
  row = one.row;
  at = one.at;
  value = one.value;
  is = one.is;
  least = rows-kept f width n one.value one.least (λ j v inside has. absurd (grind (arith, here j inside, has)));
})
rows-with f width n (inr one) (inr two) = elim (cases_lt two.value one.value)
    as (λ _. NoneOf f width (suc n) ⊎ LeastOf f width (suc n)) [
      | inl less ↦ inr (record {
        row = n;
        at = two.at;
        value = two.value;
        is = two.is;
        least = rows-kept f width n two.value
            (λ i j v below inside has. let low = one.least i j v below inside has in omega (arith, low, less)) two.least;
      })
      | inr more ↦ inr (record {
        row = one.row;
        at = one.at;
        value = one.value;
        is = one.is;
        least = rows-kept f width n one.value one.least
            (λ j v inside has. let low = two.least j v inside has in omega (arith, low, more));
      })
    ]

rows : (f : ℕ → ℕ → Option ℕ) (width : ℕ → ℕ) (n : ℕ) → NoneOf f width n ⊎ LeastOf f width n
rows f width zero = inl (λ i j less inside. absurd (omega (arith, less)))
rows f width (suc n) = rows-with f width n (rows f width n) (least (f n) (width n))

-- ---- the first from a place on

record FirstFrom (f : ℕ → Option ℕ) (from to : ℕ) : Type 0 where
  pub at : ℕ
  pub value : ℕ
  pub after : from ≤ at
  pub before : at ≤ to
  pub is : f at ≡ Some value
  pub none : (j : ℕ) → from ≤ j → j < at → f j ≡ None

first_from : (f : ℕ → Option ℕ) (gap from to v : ℕ) → from + gap ≡ to → f to ≡ Some v → (here : Option ℕ) → f from ≡ here
    → FirstFrom f from to
first_from f gap from to v distance is (Some value) here = record {
  at = from;
  value = value;
  after = omega arith;
  before = omega arith;
  is = here;
  none = λ j above below. absurd (omega (arith, above, below));
}
first_from f zero from to v distance is None here =
    absurd (let same : from ≡ to = omega arith in grind (arith, same, is, here))
first_from f (suc gap) from to v distance is None here =
    let rest = first_from f gap (suc from) to v (omega (arith, distance)) is (f (suc from)) refl
    in record {
      at = rest.at;
      value = rest.value;
      after = let after = rest.after in omega (arith, after);
      before = rest.before;
      is = rest.is;
      none = λ j above below. elim (cases_eq from j) as (λ _. f j ≡ None) [
        | inl same ↦ sym (ap f same) ∙ here
        | inr other ↦ rest.none j (omega (arith, above, other)) below
      ];
    }

-- ---- sums

pub total : (ℕ → ℕ) → ℕ → ℕ
total f zero = 0
total f (suc n) = total f n + f n

total-same : (f g : ℕ → ℕ) (n j : ℕ) → n ≤ j → ((i : ℕ) → (i ≡ j → ⊥) → g i ≡ f i) → total g n ≡ total f n
unfolding total
total-same f g zero j within same = refl
total-same f g (suc n) j within same =
    let rest = total-same f g n j (omega (arith, within)) same
    in let here = same n (λ is. omega (arith, is, within)) in omega (arith, rest, here)

pub total-less : (f g : ℕ → ℕ) (n j : ℕ) → j < n → g j < f j → ((i : ℕ) → (i ≡ j → ⊥) → g i ≡ f i) → total g n < total f n
unfolding total
total-less f g zero j inside less same = absurd (omega (arith, inside))
total-less f g (suc n) j inside less same = elim (cases_eq n j) as (λ _. total g n + g n < total f n + f n) [
  | inl is ↦ let rest = total-same f g n j (omega (arith, is)) same
      in let here = subst (λ m. g m < f m) (sym is) less in omega (arith, rest, here)
  | inr other ↦ let rest = total-less f g n j (omega (arith, inside, other)) less same
      in let here = same n other in omega (arith, rest, here)
]

-- ---- what is due

abbrev last_of : Option Change → Option ℕ
last_of None = None
last_of (Some change) = change.last

abbrev due : List Chain → List Step → ℕ → ℕ → Option ℕ
due chains past i k = if nat_lt k (reached past i) then None else last_of (change_of chains i k)

abbrev pub width_of : Option Chain → ℕ
width_of None = 0
width_of (Some chain) = length chain.changes.items

abbrev pub width : List Chain → ℕ → ℕ
width chains i = width_of (slice_get chains i)

in_chain : (chain : Option Chain) (k : ℕ) (change : Change) → change_at chain k ≡ Some change → k < width_of chain
in_chain None k change at = cc
in_chain (Some chain) k change at = slice_get_within chain.changes.items k change at

pub in_width : (chains : List Chain) (i k : ℕ) (change : Change) → change_of chains i k ≡ Some change → k < width chains i
unfolding change_of
in_width chains i k change at = in_chain (slice_get chains i) k change at

has_chain : (chain : Option Chain) (k : ℕ) (change : Change) → change_at chain k ≡ Some change
    → (c : Chain) × (chain ≡ Some c) × (slice_get c.changes.items k ≡ Some change)
has_chain None k change at = cc
has_chain (Some chain) k change at = (chain, refl, at)

pub chain_of : (chains : List Chain) (i k : ℕ) (change : Change) → change_of chains i k ≡ Some change
    → (c : Chain) × (slice_get chains i ≡ Some c) × (slice_get c.changes.items k ≡ Some change)
unfolding change_of
chain_of chains i k change at = has_chain (slice_get chains i) k change at

-- none begins after the last position of a later one of its chain
pub feasible-at : (chains : List Chain) → AreFeasible chains → (i a b : ℕ) (change other : Change) (last end : ℕ) → a ≤ b
    → change_of chains i a ≡ Some change → change.last ≡ Some last → change_of chains i b ≡ Some other → other.last ≡ Some end
    → change.first ≤ end
feasible-at chains feasible i a b change other last end order at-a has-a at-b has-b =
    let one = chain_of chains i a change at-a
    in let two = chain_of chains i b other at-b
    in let same : two.0 ≡ one.0 = same_Some two.0 one.0 (sym two.1 ∙ one.1)
    in feasible i one.0 one.1 a b change other last end order one.2 has-a
    (subst (λ (c : Chain). slice_get c.changes.items b ≡ Some other) same two.2) has-b

last_some : (change : Option Change) (last : ℕ) → last_of change ≡ Some last
    → (c : Change) × (change ≡ Some c) × (c.last ≡ Some last)
last_some None last is = cc
last_some (Some c) last is = (c, refl, is)

record IsDue (chains : List Chain) (past : List Step) (i k last : ℕ) : Type 0 where
  pub change : Change
  pub from : reached past i ≤ k
  pub at : change_of chains i k ≡ Some change
  pub has : change.last ≡ Some last

due_is : (chains : List Chain) (past : List Step) (i k last : ℕ) → due chains past i k ≡ Some last → IsDue chains past i k last
due_is chains past i k last is = elim (cases_Bool (nat_lt k (reached past i))) as (λ _. IsDue chains past i k last) [
  | inl passed ↦ let none : None ≡ Some last = rw passed at is in cc
  | inr left ↦ let found = last_some (change_of chains i k) last (rw left at is)
      in record { change = found.0; from = ltb-false k (reached past i) left; at = found.1; has = found.2 }
]

is_due : (chains : List Chain) (past : List Step) (i k : ℕ) (change : Change) (last : ℕ) → reached past i ≤ k
    → change_of chains i k ≡ Some change → change.last ≡ Some last → due chains past i k ≡ Some last
is_due chains past i k change last from at has =
    let left = le-ltb k (reached past i) from
    in rw (left, at) has

-- ---- the next step: the first change of a chain in which one is due first

-- what is due is in the rows
due_least : (chains : List Chain) (past : List Step) (one : LeastOf (due chains past) (width chains) (length chains))
    → CanWait chains one.value past
due_least chains past one i k change last from at has =
    let found = chain_of chains i k change at
    in one.least i k last (slice_get_within chains i found.0 found.1) (in_width chains i k change at)
    (is_due chains past i k change last from at has)

record NextStep (chains : List Chain) (past : List Step) : Type 0 where
  pub step : Step
  pub may : MayTake chains (reached past step.chain) step
  pub within : step.change < width chains step.chain
  pub waits : CanWait chains step.position past
  pub later : (position : ℕ) → CanWait chains position past → position ≤ step.position

due_none : (chains : List Chain) (past : List Step) (i k : ℕ) (change : Change) → reached past i ≤ k
    → due chains past i k ≡ None → change_of chains i k ≡ Some change → change.last ≡ None
due_none chains past i k change from none at =
    let left = le-ltb k (reached past i) from
    in let one : last_of (change_of chains i k) ≡ None = rw left at none
    in rw at at one

next_step : (chains : List Chain) (past : List Step) → AreFeasible chains
    → LeastOf (due chains past) (width chains) (length chains) → NextStep chains past
next_step chains past feasible one =
    let waits = due_least chains past one
    in let last-due = due_is chains past one.row one.at one.value one.is
    in let from = last-due.from
    in let first = first_from (due chains past one.row) (one.at - reached past one.row) (reached past one.row) one.at one.value
    (omega (arith, from)) one.is (due chains past one.row (reached past one.row)) refl
    in let first-due = due_is chains past one.row first.at first.value first.is
    in record {
      step = record { position = one.value; chain = one.row; change = first.at };
      may = record {
        bounds = record {
          change = first-due.change;
          is = first-due.at;
          first = feasible-at chains feasible one.row first.at one.at first-due.change last-due.change first.value one.value
              first.before first-due.at first-due.has last-due.at last-due.has;
          last = λ last has. waits one.row first.at first-due.change last first-due.from first-due.at has;
        };
        order = first-due.from;
        skips = λ k change above below at. due_none chains past one.row k change above (first.none k above below) at;
      };
      within = in_width chains one.row first.at first-due.change first-due.at;
      waits = waits;
      later = λ position waits. waits one.row one.at last-due.change one.value last-due.from last-due.at last-due.has;
    }

-- ---- to the end

-- how many changes are left of a chain
abbrev pub left_of : List Chain → List Step → ℕ → ℕ
left_of chains past i = width chains i - reached past i

pub record Completed (chains : List Chain) (position : ℕ) (past : List Step) : Type 0 where
  pub whole : List Step
  pub placed : IsPlacement chains whole
  pub clean : (earlier : ℕ) → earlier < position → IsCleanUpTo chains earlier past → IsCleanUpTo chains earlier whole

pub waits-after : (chains : List Chain) (step : Step) (past : List Step) → MayTake chains (reached past step.chain) step
    → CanWait chains step.position past → CanWait chains step.position (step ∷ past)
waits-after chains step past may waits i k change last from at has =
    let far = reached-passed chains step past may i
    in waits i k change last (omega (arith, far, from)) at has

pub less_left : (chains : List Chain) (step : Step) (past : List Step) → MayTake chains (reached past step.chain) step
    → step.chain < length chains → step.change < width chains step.chain
    → total (left_of chains (step ∷ past)) (length chains) < total (left_of chains past) (length chains)
less_left chains step past may inside within =
    let far = reached-same step past step.chain refl
    in let order = may.order
    in total-less (left_of chains past) (left_of chains (step ∷ past)) (length chains) step.chain inside
    (omega (arith, far, order, within))
    (λ i other. let same = reached-other step past i (λ is. other (sym is)) in omega (arith, same))

pub inside-may : (chains : List Chain) (came : ℕ) (step : Step) → MayTake chains came step → step.chain < length chains
inside-may chains came step may =
    let found = chain_of chains step.chain step.change may.bounds.change may.bounds.is
    in slice_get_within chains step.chain found.0 found.1

nothing_due : (chains : List Chain) (past : List Step) → NoneOf (due chains past) (width chains) (length chains)
    → (i k : ℕ) (change : Change) (last : ℕ) → change_of chains i k ≡ Some change → change.last ≡ Some last → k < reached past i
nothing_due chains past none i k change last at has = elim (cases_lt k (reached past i)) as (λ _. k < reached past i) [
  | inl passed ↦ passed
  | inr left ↦ let found = chain_of chains i k change at
      in let is = is_due chains past i k change last left at has
      in let never = none i k (slice_get_within chains i found.0 found.1) (in_width chains i k change at)
      in absurd (grind (arith, is, never))
]

-- a step at the position or after it is as clean before the position
clean-with : (chains : List Chain) (earlier : ℕ) (step : Step) (past : List Step) → earlier < step.position
    → IsCleanUpTo chains earlier past → IsCleanUpTo chains earlier (step ∷ past)
clean-with chains earlier step past later clean = ((λ low. absurd (omega (arith, low, later))), clean)

completed-by : (chains : List Chain) → AreFeasible chains → (fuel position : ℕ) (past : List Step)
    → total (left_of chains past) (length chains) < fuel → IsBeginning chains past
    → newest past ≤ position → CanWait chains position past → Completed chains position past
completed-by chains feasible zero position past room steps within waits = absurd (omega (arith, room))
completed-by chains feasible (suc fuel) position past room steps within waits =
    elim (rows (due chains past) (width chains) (length chains)) as (λ _. Completed chains position past) [
      | inl none ↦ record {
        whole = past;
        placed = placement_of chains past steps (nothing_due chains past none);
        clean = λ earlier before clean. clean;
      }
      | inr one ↦
          let next = next_step chains past feasible one
          in let later = next.later position waits
          in let fewer = less_left chains next.step past next.may
          (inside-may chains (reached past next.step.chain) next.step next.may)
          next.within
          in let rest = completed-by chains feasible fuel next.step.position (next.step ∷ past)
          (omega (arith, fewer, room)) (next.may, omega (arith, within, later), steps) (omega arith)
          (waits-after chains next.step past next.may next.waits)
          in record {
            whole = rest.whole;
            placed = rest.placed;
            clean = λ earlier before clean. rest.clean earlier (omega (arith, before, later))
                (clean-with chains earlier next.step past (omega (arith, before, later)) clean);
          }
    ]

-- A beginning that can wait until a position has a placement that is as clean before it.
pub completed : (chains : List Chain) (position : ℕ) (past : List Step) → AreFeasible chains → IsBeginning chains past
    → newest past ≤ position → CanWait chains position past → Completed chains position past
completed chains position past feasible steps within waits =
    completed-by chains feasible (suc (total (left_of chains past) (length chains))) position past
    (omega arith) steps within waits
