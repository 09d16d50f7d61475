-- What it says that a way isn't late.
use Rattle.std.proofs.Common.{◌≡◌, ◌+◌, ◌-◌, ◌<◌, ◌≤◌, inl, inr, ℕ, zero, suc, List, ◌∷◌, [], Option, Some, None, refl, sym, ap}
use Rattle.std.proofs.Common.{◌∙◌, arith, subst, slice_get, slice_index, drop, Bool, true, false, nat_le, nat_lt, if◌then◌else◌}
use Rattle.std.proofs.lemmas.Bool.{cases_Bool, leb-true, leb-false, ltb-true, or_parts, or_cases}
use Rattle.std.proofs.lemmas.Option.{same_Some}
use Rattle.capture_judge.specs.Placing.{reached}
use Rattle.capture_judge.specs.Beginnings.{CanWait}
use Rattle.capture_judge.specs.Searching.{IsFeasible, AreFeasible, overdue_or, is_overdue, is_late}
use Rattle.capture_judge.proofs.clashes.Completing.{chain_of}
use Rattle.capture_judge.specs.declared.values.Change.{Change}
use Rattle.capture_judge.specs.declared.values.Chain.{Chain}
use Rattle.capture_judge.specs.declared.values.Step.{Step}

-- ---- one chain

feasible-tail : (change : Change) (changes : List Change) → IsFeasible (change ∷ changes) → IsFeasible changes
feasible-tail change changes feasible i j one other last end order at has also-at also-has =
    feasible (suc i) (suc j) one other last end (omega (arith, order)) at has also-at also-has

-- each change that has a last position has a later one than this
abbrev AllWait : ℕ → List Change → Type 0
AllWait position changes = (k : ℕ) (change : Change) (last : ℕ) → slice_get changes k ≡ Some change → change.last ≡ Some last
    → position < last

wait-cons : (position : ℕ) (change : Change) (changes : List Change) → ((last : ℕ) → change.last ≡ Some last → position < last)
    → AllWait position changes → AllWait position (change ∷ changes)
wait-cons position change changes head tail zero c last at has =
    head last (ap (λ (x : Change). x.last) (same_Some change c at) ∙ has)
wait-cons position change changes head tail (suc k) c last at has = tail k c last at has

-- by the last position of the first change, and by the tests on it
overdue-tests : (position : ℕ) (change : Change) (changes : List Change) → IsFeasible (change ∷ changes)
    → (is_overdue position changes ≡ false → AllWait position changes)
    → (last : Option ℕ) → change.last ≡ last → (early : Bool) → nat_lt position change.first ≡ early
    → overdue_or last change.first position (is_overdue position changes) ≡ false → AllWait position (change ∷ changes)
overdue-tests position change changes feasible rest None has early test none =
    wait-cons position change changes (λ last is. absurd (grind (arith, has, is))) (rest none)
overdue-tests position change changes feasible rest (Some end) has early test none = elim (cases_Bool (nat_le end position))
    as (λ _. AllWait position (change ∷ changes)) [
      | inl over ↦ let never : true ≡ false = rw over at none in cc
      | inr waits ↦
          let after = leb-false end position waits
          in let here : (last : ℕ) → change.last ≡ Some last → position < last =
          λ last is. let same = same_Some end last (sym has ∙ is) in omega (arith, after, same)
          in elim (cases_Bool (nat_lt position change.first)) as (λ _. AllWait position (change ∷ changes)) [
            | inl later ↦ wait-cons position change changes here (λ k other last at is.
                let begins = ltb-true position change.first later
                in let low = feasible zero (suc k) change other end last (omega arith) refl has at is
                in omega (arith, begins, low))
            | inr now ↦ wait-cons position change changes here
                (rest (let one : (if nat_lt position change.first then false else is_overdue position changes) ≡ false = rw waits
                at none
                in rw now at one))
          ]
    ]

all-wait : (position : ℕ) (changes : List Change) → IsFeasible changes → is_overdue position changes ≡ false
    → AllWait position changes
all-wait position [] feasible none = λ k change last at has. cc
all-wait position (change ∷ changes) feasible none = overdue-tests position change changes feasible
    (all-wait position changes (feasible-tail change changes feasible)) change.last refl
    (nat_lt position change.first) refl none

-- a change that is overdue
record Overdue (position : ℕ) (changes : List Change) : Type 0 where
  pub k : ℕ
  pub change : Change
  pub last : ℕ
  pub at : slice_get changes k ≡ Some change
  pub has : change.last ≡ Some last
  pub over : last ≤ position

overdue-later : (position : ℕ) (change : Change) (changes : List Change) → Overdue position changes
    → Overdue position (change ∷ changes)
overdue-later position change changes one = record {
  k = suc one.k;
  change = one.change;
  last = one.last;
  at = one.at;
  has = one.has;
  over = one.over;
}

overdue-found : (position : ℕ) (change : Change) (changes : List Change)
    → (is_overdue position changes ≡ true → Overdue position changes)
    → (last : Option ℕ) → change.last ≡ last → overdue_or last change.first position (is_overdue position changes) ≡ true
    → Overdue position (change ∷ changes)
overdue-found position change changes rest None has some = overdue-later position change changes (rest some)
overdue-found position change changes rest (Some end) has some = elim (cases_Bool (nat_le end position))
    as (λ _. Overdue position (change ∷ changes)) [
      | inl over ↦ record { k = zero; change = change; last = end; at = refl; has = has; over = leb-true end position over }
      | inr waits ↦ elim (cases_Bool (nat_lt position change.first)) as (λ _. Overdue position (change ∷ changes)) [
        | inl later ↦ let one :
            (if nat_lt position change.first then false else is_overdue position changes) ≡ true = rw waits at some
            in let never : false ≡ true = rw later at one in cc
        | inr now ↦ overdue-later position change changes
            (rest (let one : (if nat_lt position change.first then false else is_overdue position changes) ≡ true = rw waits at
            some
            in rw now at one))
      ]
    ]

overdue_of : (position : ℕ) (changes : List Change) → is_overdue position changes ≡ true → Overdue position changes
overdue_of position [] some = cc
overdue_of position (change ∷ changes) some =
    overdue-found position change changes (overdue_of position changes) change.last refl some

-- ---- from an index on

pub drop-at : {X : Type 0} (n m : ℕ) (xs : List X) (x : X) → n ≤ m → slice_get xs m ≡ Some x
    → slice_get (drop n xs) (m - n) ≡ Some x
drop-at zero m xs x order at = let same : m - 0 ≡ m = omega arith in rw same at
drop-at (suc n) m [] x order at = cc
drop-at (suc n) zero (y ∷ xs) x order at = absurd (omega (arith, order))
drop-at (suc n) (suc m) (y ∷ xs) x order at =
    let same : suc m - suc n ≡ m - n = omega arith in rw same (drop-at n m xs x (omega (arith, order)) at)

pub drop-from : {X : Type 0} (n k : ℕ) (xs : List X) (x : X) → slice_get (drop n xs) k ≡ Some x
    → (m : ℕ) × (m ≡ n + k) × (slice_get xs m ≡ Some x)
drop-from zero k xs x at = (k, omega arith, at)
drop-from (suc n) k [] x at = cc
drop-from (suc n) k (y ∷ xs) x at =
    let rest = drop-from n k xs x at in let is = rest.1 in (suc rest.0, omega (arith, is), rest.2)

feasible-drop : (n : ℕ) (changes : List Change) → IsFeasible changes → IsFeasible (drop n changes)
feasible-drop n changes feasible i j one other last end order at has also-at also-has =
    let a = drop-from n i changes one at
    in let b = drop-from n j changes other also-at
    in let first = a.1 in let second = b.1
    in feasible a.0 b.0 one other last end (omega (arith, first, second, order)) a.2 has b.2 also-has

-- ---- the chains

not-late : (position : ℕ) (came : List ℕ) (i : ℕ) (chains : List Chain) → is_late position came i chains ≡ false
    → (j m : ℕ) (chain : Chain) → m ≡ i + j → slice_get chains j ≡ Some chain
    → is_overdue position (drop (slice_index came m) chain.changes.items) ≡ false
not-late position came i [] none j m chain place at = cc
not-late position came i (first ∷ chains) none zero m chain place at =
    let both = or_parts (is_overdue position (drop (slice_index came i) first.changes.items))
    (is_late position came (i + 1) chains) none
    in let same : m ≡ i = omega (arith, place)
    in subst (λ (c : Chain). is_overdue position (drop (slice_index came m) c.changes.items) ≡ false) (same_Some first chain at)
    (subst (λ n. is_overdue position (drop (slice_index came n) first.changes.items) ≡ false) (sym same) both.0)
not-late position came i (first ∷ chains) none (suc j) m chain place at =
    let both = or_parts (is_overdue position (drop (slice_index came i) first.changes.items))
    (is_late position came (i + 1) chains) none
    in not-late position came (i + 1) chains both.1 j m chain (omega (arith, place)) at

record Late (position : ℕ) (came : List ℕ) (i : ℕ) (chains : List Chain) : Type 0 where
  pub j : ℕ
  pub m : ℕ
  pub chain : Chain
  pub place : m ≡ i + j
  pub at : slice_get chains j ≡ Some chain
  pub over : is_overdue position (drop (slice_index came m) chain.changes.items) ≡ true

late_of : (position : ℕ) (came : List ℕ) (i : ℕ) (chains : List Chain) → is_late position came i chains ≡ true
    → Late position came i chains
late_of position came i [] some = cc
late_of position came i (chain ∷ chains) some = elim
    (or_cases (is_overdue position (drop (slice_index came i) chain.changes.items))
    (is_late position came (i + 1) chains) some) as (λ _. Late position came i (chain ∷ chains)) [
      | inl here ↦ record { j = 0; m = i; chain = chain; place = omega arith; at = refl; over = here }
      | inr there ↦ let rest = late_of position came (i + 1) chains there in let place = rest.place
          in record {
            j = suc rest.j;
            m = rest.m;
            chain = rest.chain;
            place = omega
                (arith, place);
            at = rest.at;
            over = rest.over;
          }
    ]

-- A way that isn't late can wait until the next position.
pub waits-of : (chains : List Chain) (position : ℕ) (came : List ℕ) (past : List Step) → AreFeasible chains
    → ((i : ℕ) → slice_index came i ≡ reached past i) → is_late position came 0 chains ≡ false
    → CanWait chains (position + 1) past
waits-of chains position came past feasible is none i k change last from at has =
    let found = chain_of chains i k change at
    in let on-time = not-late position came 0 chains none i i found.0 (omega arith) found.1
    in let same = is i
    in let place = drop-at (slice_index came i) k found.0.changes.items change (omega (arith, same, from)) found.2
    in let after = all-wait position (drop (slice_index came i) found.0.changes.items)
    (feasible-drop (slice_index came i) found.0.changes.items (feasible i found.0 found.1)) on-time
    (k - slice_index came i) change last place has
    in omega (arith, after)

-- a change that is overdue where the chains have come so far
pub record LateChange (chains : List Chain) (position : ℕ) (came : List ℕ) : Type 0 where
  pub i : ℕ
  pub k : ℕ
  pub chain : Chain
  pub change : Change
  pub last : ℕ
  pub at : slice_get chains i ≡ Some chain
  pub is : slice_get chain.changes.items k ≡ Some change
  pub has : change.last ≡ Some last
  pub from : slice_index came i ≤ k
  pub over : last ≤ position

pub late-change : (chains : List Chain) (position : ℕ) (came : List ℕ) → is_late position came 0 chains ≡ true
    → LateChange chains position came
late-change chains position came test =
    let one = late_of position came 0 chains test
    in let due = overdue_of position (drop (slice_index came one.m) one.chain.changes.items) one.over
    in let there = drop-from (slice_index came one.m) due.k one.chain.changes.items due.change due.at
    in let place = one.place in let far = there.1
    in record {
      i = one.m;
      k = there.0;
      chain = one.chain;
      change = due.change;
      last = due.last;
      at = (let equal : one.j ≡ one.m = omega (arith, place) in subst (λ n. slice_get chains n ≡ Some one.chain) equal one.at);
      is = there.2;
      has = due.has;
      from = omega (arith, far);
      over = due.over;
    }
