-- Which beginnings the kept ways cover, from one position to the next.
use Rattle.std.proofs.Common.{◌≡◌, ◌+◌, ◌-◌, ◌<◌, ◌≤◌, inl, inr, ℕ, zero, suc, List, ◌∷◌, [], Some, refl, sym, ap, ◌∙◌, arith}
use Rattle.std.proofs.Common.{subst}
use Rattle.std.proofs.Common.{slice_get, slice_index, length, drop, true, false, nat_le, is_some, ◌⊎◌, None}
use Rattle.std.proofs.lemmas.Bool.{cases_eq, cases_lt, cases_Bool, le-leb}
use Rattle.std.proofs.lemmas.Option.{same_Some, slice_get_within}
use Rattle.capture_judge.specs.Placing.{height, change_of, level_of, level_at, reached, IsClean, IsCalm}
use Rattle.capture_judge.specs.Beginnings.{newest, MayTake, IsBeginning, CanWait}
use Rattle.capture_judge.specs.Searching.{is_late, level_in, may_go_on, AreApart, IsWorth, Has, IsKept, IsSearch, after, IsTaken}
use Rattle.capture_judge.specs.Searching.{TakesFall, Closed, Ahead, Behind, Follows, IsBefore, Stands}
use Rattle.capture_judge.proofs.calm.Calm.{apart_from_calm}
use Rattle.capture_judge.proofs.clashes.Completing.{chain_of, in_width, inside-may, total, total-less, width}
use Rattle.capture_judge.proofs.calm.Going.{after-same, after-other, follows-fall, apart-lower}
use Rattle.capture_judge.proofs.clashes.Late.{drop-at, drop-from, LateChange, late-change}
use Rattle.capture_judge.proofs.placings.Orders.{reached-same, reached-other}
use Rattle.capture_judge.proofs.calm.Taking.{change_here, level-here}
use Rattle.capture_judge.specs.declared.values.Change.{Change}
use Rattle.capture_judge.specs.declared.values.Chain.{Chain}
use Rattle.capture_judge.specs.declared.values.Step.{Step}
use Rattle.capture_judge.specs.declared.ways.Way.{Way}
use Rattle.capture_judge.specs.declared.ways.Ways.{Ways}

-- a way follows the steps
abbrev pub Covered : List Chain → ℕ → List Way → List Step → Type 0
Covered chains position ways past = (n : ℕ) × (way : Way) × (slice_get ways n ≡ Some way)
    × Follows chains position (slice_index way.came.items) (reached past)

ahead-here : (chains : List Chain) (i far came : ℕ) → far ≡ came → Ahead chains i far came
ahead-here chains i far came same = (
  omega (arith, same),
  λ j from to. let here : far ≡ j = omega (arith, same, from, to)
      in let level = ap (level_at chains i) here in omega (arith, level),
)

pub follows-same : (chains : List Chain) (position : ℕ) (far came : ℕ → ℕ) → ((i : ℕ) → far i ≡ came i)
    → Follows chains position far came
follows-same chains position far came same i = inl (ahead-here chains i (far i) (came i) (same i))

later-one : (chains : List Chain) (position later i far came : ℕ) → position ≤ later
    → Ahead chains i far came ⊎ Behind chains position i far came → Ahead chains i far came ⊎ Behind chains later i far came
later-one chains position later i far came order (inl ahead) = inl ahead
later-one chains position later i far came order (inr behind) = inr (record {
  step = behind.step;
  on = behind.on;
  to = behind.to;
  by = let by = behind.by in omega (arith, by, order);
  may = behind.may;
  higher = behind.higher;
})

pub covered-later : (chains : List Chain) (position later : ℕ) (ways : List Way) (past : List Step) → position ≤ later
    → Covered chains position ways past → Covered chains later ways past
covered-later chains position later ways past order one = (
  one.0,
  one.1,
  one.2,
  λ i. later-one chains position later i (slice_index one.1.came.items i) (reached past i) order (one.3 i),
)

level-one : (chains : List Chain) (position i far came : ℕ) → Ahead chains i far came ⊎ Behind chains position i far came
    → level_at chains i far ≤ level_at chains i came
level-one chains position i far came (inl ahead) = ahead.1 came (omega arith) ahead.0
level-one chains position i far came (inr behind) = behind.higher

-- no change must have happened from the bound on and before the position
abbrev pub NoneBetween : List Chain → ℕ → ℕ → Type 0
NoneBetween chains bound position = (i k : ℕ) (change : Change) (last : ℕ) → change_of chains i k ≡ Some change
    → change.last ≡ Some last → bound ≤ last → position ≤ last

pub newest-of : (bound position : ℕ) (past : List Step) → bound ≤ position → IsBefore bound past → newest past ≤ position
newest-of bound position [] order before = omega arith
newest-of bound position (step ∷ past) order before = omega (arith, order, before)

pub before-of : (position : ℕ) (past : List Step) → newest past ≤ position → IsBefore (position + 1) past
before-of position [] within = tt
before-of position (step ∷ past) within = omega (arith, within)

pub search_at : (chains : List Chain) (positions : List ℕ) (next position : ℕ) (search : Ways)
    → (stands : Stands chains positions next search) → stands.bound ≤ position → NoneBetween chains stands.bound position
    → IsSearch chains position search
search_at chains positions next position search stands order none = record {
  kept = λ n way at. let kept = stands.kept n way at in record {
    past = kept.past;
    leads = kept.leads;
    came = kept.came;
    count = kept.count;
    is-way = record {
      steps = kept.is-way.steps;
      clean = kept.is-way.clean;
      within = let within = kept.is-way.within in omega (arith, within, order);
      waits = λ i k change last from is has. none i k change last is has (kept.is-way.waits i k change last from is has);
    };
  };
  apart = stands.apart;
  few = stands.few;
}

pub within-of : (position : ℕ) (past : List Step) → IsBefore (position + 1) past → newest past ≤ position
within-of position [] before = omega arith
within-of position (step ∷ past) before = omega (arith, before)

-- ---- steps from the bound on may be taken at the next position

-- where the last step is of a certain change, its end is from the step's position on; the others are left as they were
waits-before : (chains : List Chain) (bound position : ℕ) (step : Step) (past : List Step)
    → NoneBetween chains bound position → MayTake chains (reached past step.chain) step → bound ≤ step.position
    → CanWait chains position (step ∷ past) → CanWait chains position past
waits-before chains bound position step past none may order waits i k change last from at has = elim (cases_eq step.chain i)
    as (λ _. position ≤ last) [
      | inl same ↦ elim (cases_lt step.change k) as (λ _. position ≤ last) [
        | inl beyond ↦ let far = reached-same step past i same in waits i k change last (omega (arith, far, beyond)) at has
        | inr within ↦ elim (cases_eq k step.change) as (λ _. position ≤ last) [
          | inl here ↦
              let is : change_of chains step.chain step.change ≡ Some change =
              subst (λ n. change_of chains n step.change ≡ Some change) (sym same)
              (subst (λ n. change_of chains i n ≡ Some change) here at)
              in let one = same_Some may.bounds.change change (sym may.bounds.is ∙ is)
              in let end = may.bounds.last last (ap (λ (c : Change). c.last) one ∙ has)
              in none i k change last at has (omega (arith, end, order))
          | inr other ↦
              let is = subst (λ n. change_of chains n k ≡ Some change) (sym same) at
              in let never = may.skips k change (subst (λ n. reached past n ≤ k) (sym same) from)
              (omega (arith, within, other)) is
              in absurd (grind (arith, never, has))
        ]
      ]
      | inr other ↦ let far = reached-other step past i other in waits i k change last (omega (arith, far, from)) at has
    ]

-- the same step at the position
abbrev moved : Step → ℕ → Step
moved step position = record { position = position; chain = step.chain; change = step.change }

may-move : (chains : List Chain) (bound position came : ℕ) (step : Step) → NoneBetween chains bound position
    → bound ≤ step.position
    → step.position ≤ position → MayTake chains came step → MayTake chains came (moved step position)
may-move chains bound position came step none order within may = record {
  bounds = record {
    change = may.bounds.change;
    is = may.bounds.is;
    first = let first = may.bounds.first in omega (arith, first, within);
    last = λ last has. let end = may.bounds.last last has
        in none step.chain step.change may.bounds.change last may.bounds.is has (omega (arith, end, order));
  };
  order = may.order;
  skips = may.skips;
}

-- how many changes are left
abbrev left : List Chain → List ℕ → ℕ → ℕ
left chains came i = width chains i - slice_index came i

fewer : (chains : List Chain) (came : List ℕ) (step : Step) (change : Change)
    → change_of chains step.chain step.change ≡ Some change → slice_index came step.chain ≤ step.change
    → length came ≡ length chains
    → total (left chains (after came step)) (length chains) < total (left chains came) (length chains)
fewer chains came step change at behind count =
    let found = chain_of chains step.chain step.change change at
    in let inside = slice_get_within chains step.chain found.0 found.1
    in let room = in_width chains step.chain step.change change at
    in let far = after-same came step step.chain (omega (arith, count, inside)) refl
    in total-less (left chains came) (left chains (after came step)) (length chains) step.chain inside
    (omega (arith, room, behind, far))
    (λ i other. let same = after-other came step i (λ is. other (sym is)) in omega (arith, same))

fewer-fall : (chains : List Chain) (position : ℕ) (came : List ℕ) (step : Step) → TakesFall chains position came step
    → length came ≡ length chains
    → total (left chains (after came step)) (length chains) < total (left chains came) (length chains)
fewer-fall chains position came step takes count =
    let next = takes.next
    in fewer chains came step takes.fall.change
    (change_here chains step.chain step.change takes.chain takes.fall.change takes.at takes.fall.at)
    (omega (arith, next)) count

fall-up : (chains : List Chain) (position : ℕ) (came : List ℕ) (step : Step) → TakesFall chains position came step
    → step.chain < length came → (i : ℕ) → slice_index came i ≤ slice_index (after came step) i
fall-up chains position came step takes inside i = elim (cases_eq step.chain i)
    as (λ _. slice_index came i ≤ slice_index (after came step) i) [
      | inl same ↦ let far = after-same came step i inside same in let near = takes.next in let place = ap (slice_index came) same
          in omega (arith, far, near, place)
      | inr other ↦ let far = after-other came step i other in omega (arith, far)
    ]

-- ---- taking a step

-- where a step leads, its chain is where the step brings it, and the others follow as before
follows-step : (chains : List Chain) (position : ℕ) (came : List ℕ) (reach : ℕ → ℕ) (step : Step) → step.chain < length came
    → ((i : ℕ) → (step.chain ≡ i → ⊥)
    → Ahead chains i (slice_index came i) (reach i) ⊎ Behind chains position i (slice_index came i) (reach i))
    → ((i : ℕ) → step.chain ≡ i → reach i ≡ step.change + 1) → Follows chains position (slice_index (after came step)) reach
follows-step chains position came reach step inside others here i = elim (cases_eq step.chain i)
    as (λ _. Ahead chains i (slice_index (after came step) i) (reach i)
    ⊎ Behind chains position i (slice_index (after came step) i) (reach i)) [
      | inl same ↦ inl (ahead-here chains i (slice_index (after came step) i) (reach i)
          (after-same came step i inside same ∙ sym (here i same)))
      | inr other ↦ subst (λ n. Ahead chains i n (reach i) ⊎ Behind chains position i n (reach i))
          (sym {A = ℕ} (after-other came step i other)) (others i other)
    ]

-- and no chains clash, where they don't where the steps have brought them
apart-step : (chains : List Chain) (position : ℕ) (came : List ℕ) (reach : ℕ → ℕ) (step : Step)
    → Follows chains position (slice_index (after came step)) reach → AreApart chains reach
    → AreApart chains (slice_index (after came step))
apart-step chains position came reach step follows apart = apart-lower chains (slice_index (after came step)) reach
    (λ i. level-one chains position i (slice_index (after came step) i) (reach i) (follows i)) apart

-- a way that lacks a step takes it, or falls until it does
record Caught (chains : List Chain) (position : ℕ) (ways : List Way) (past : List Step) (i most : ℕ) : Type 0 where
  pub n : ℕ
  pub way : Way
  pub at : slice_get ways n ≡ Some way
  pub follows : Follows chains position (slice_index way.came.items) (reached past)
  pub there : reached past i ≤ slice_index way.came.items i
  pub fewer : total (left chains way.came.items) (length chains) < most

-- the step of this chain to this change is due at the position, or its chain may go on from there
record Presses (chains : List Chain) (position i k : ℕ) : Type 0 where
  pub chain : Chain
  pub change : Change
  pub at : slice_get chains i ≡ Some chain
  pub is : slice_get chain.changes.items k ≡ Some change
  pub now : (change.last ≡ Some position) ⊎ (may_go_on position (drop (k + 1) chain.changes.items) ≡ true)

pressed : (chains : List Chain) (position came i k : ℕ) (step : Step) → step.position ≡ position → step.chain ≡ i
    → step.change ≡ k → Presses chains position i k → IsWorth chains came step
pressed chains position came i k step there on to presses = record {
  chain = presses.chain;
  at = ap (slice_get chains) on ∙ presses.at;
  worth = record {
    change = presses.change;
    is = ap (slice_get presses.chain.changes.items) to ∙ presses.is;
    worth = elim presses.now as (λ _. ((height presses.change.level ≤ level_in presses.chain came)
        ⊎ (presses.change.last ≡ Some step.position))
        ⊎ (may_go_on step.position (drop (step.change + 1) presses.chain.changes.items) ≡ true)) [
          | inl due ↦ inl (inr (due ∙ ap (λ p. Some p) (sym there)))
          | inr on-it ↦ inr (rw (there, to) on-it)
        ];
  };
}

-- the way takes the step that it lacks
catch-step : (chains : List Chain) (position : ℕ) (new : Ways) (past : List Step) (i k : ℕ) → Presses chains position i k
    → reached past i ≡ suc k → AreApart chains (reached past) → (way : Way) → length way.came.items ≡ length chains
    → Follows chains position (slice_index way.came.items) (reached past)
    → (behind : Behind chains position i (slice_index way.came.items i) (reached past i))
    → IsKept chains position new.trail.items way
    → IsTaken chains new.ways.items way.came.items (moved behind.step position)
    → Caught chains position new.ways.items past i (total (left chains way.came.items) (length chains))
catch-step chains position new past i k presses to apart way count follows behind kept taken =
    let step = moved behind.step position
    in let on = behind.on
    in let is : step.change ≡ k = let far = behind.to in omega (arith, far, to)
    in let change : change_of chains step.chain step.change ≡ Some behind.may.bounds.change = behind.may.bounds.is
    in let order = behind.may.order
    in let place = ap (slice_index way.came.items) on
    in let inside = inside-may chains (slice_index way.came.items i) behind.step behind.may
    in let follows-it = follows-step chains position way.came.items (reached past) step (omega (arith, count, inside))
    (λ j other. follows j) (λ j same. let here = ap (reached past) (sym on ∙ same) in omega (arith, here, to, is))
    in let may : MayTake chains (slice_index way.came.items step.chain) step = record {
      bounds = record {
        change = behind.may.bounds.change;
        is = behind.may.bounds.is;
        first = let first = behind.may.bounds.first in let by = behind.by in omega (arith, first, by);
        last = λ last has. kept.is-way.waits step.chain step.change behind.may.bounds.change last
            (let came = kept.came step.chain in omega (arith, came, place, order)) behind.may.bounds.is has;
      };
      order = omega (arith, place, order);
      skips = λ j other above below found. behind.may.skips j other (omega (arith, place, above)) below found;
    }
    in let has = taken (pressed chains position (slice_index way.came.items step.chain) i k step refl on is presses) may
    (apart-step chains position way.came.items (reached past) step follows-it apart)
    in let far = after-same way.came.items step i (omega (arith, count, inside)) on
    in let less = fewer chains way.came.items step behind.may.bounds.change change (omega (arith, place, order)) count
    in let same = ap (λ c. total (left chains c) (length chains)) has.3
    in record {
      n = has.0;
      way = has.1;
      at = has.2;
      follows = subst (λ (c : List ℕ). Follows chains position (slice_index c) (reached past))
          (sym {A = List ℕ} has.3)
          follows-it;
      there = let there = ap (λ c. slice_index c i) has.3 in omega (arith, there, far, to, is);
      fewer = omega (arith, same, less);
    }

-- the way falls, and lacks the step still or doesn't
catch-fall : (chains : List Chain) (position : ℕ) (old new : Ways) (past : List Step) → Closed chains position old new
    → (i k : ℕ) → reached past i ≡ suc k → (fuel n : ℕ) (way : Way) → slice_get new.ways.items n ≡ Some way
    → Follows chains position (slice_index way.came.items) (reached past)
    → (step : Step) × TakesFall chains position way.came.items step × Has new.ways.items (after way.came.items step)
    → total (left chains way.came.items) (length chains) < suc fuel
    → ((m : ℕ) (next : Way) → slice_get new.ways.items m ≡ Some next
    → Follows chains position (slice_index next.came.items) (reached past)
    → Behind chains position i (slice_index next.came.items i) (reached past i)
    → total (left chains next.came.items) (length chains) < fuel
    → Caught chains position new.ways.items past i (total (left chains next.came.items) (length chains)))
    → Caught chains position new.ways.items past i (total (left chains way.came.items) (length chains))
catch-fall chains position old new past closed i k to fuel n way at follows fall room rest =
    let kept = closed.search.kept n way at
    in let count = kept.count
    in let has = fall.2
    in let less = fewer-fall chains position way.came.items fall.0 fall.1 count
    in let inside = slice_get_within chains fall.0.chain fall.1.chain fall.1.at
    in let same = ap (λ c. total (left chains c) (length chains)) has.3
    in let follows-it = subst (λ (c : List ℕ). Follows chains position (slice_index c) (reached past)) (sym {A = List ℕ} has.3)
    (follows-fall chains position position way.came.items (reached past) fall.0 fall.1 (omega (arith, count, inside)) follows)
    in elim (follows-it i) as (λ _. Caught chains position new.ways.items past i
    (total (left chains way.came.items) (length chains))) [
      | inl ahead ↦ record {
        n = has.0;
        way = has.1;
        at = has.2;
        follows = follows-it;
        there = ahead.0;
        fewer = omega (arith, same, less);
      }
      | inr behind ↦ let caught = rest has.0 has.1 has.2 follows-it behind (omega (arith, same, less, room))
          in let fewer-it = caught.fewer in record {
            n = caught.n;
            way = caught.way;
            at = caught.at;
            follows = caught.follows;
            there = caught.there;
            fewer = omega (arith, fewer-it, same, less);
          }
    ]

catch-one : (chains : List Chain) (position : ℕ) (old new : Ways) (past : List Step) → Closed chains position old new
    → AreApart chains (reached past) → (i k : ℕ) → Presses chains position i k → reached past i ≡ suc k
    → (fuel n : ℕ) (way : Way) → slice_get new.ways.items n ≡ Some way
    → Follows chains position (slice_index way.came.items) (reached past)
    → Behind chains position i (slice_index way.came.items i) (reached past i)
    → total (left chains way.came.items) (length chains) < fuel
    → Caught chains position new.ways.items past i (total (left chains way.came.items) (length chains))
catch-one chains position old new past closed apart i k presses to zero n way at follows behind room =
    absurd (omega (arith, room))
catch-one chains position old new past closed apart i k presses to (suc fuel) n way at follows behind room =
    let kept = closed.search.kept n way at
    in let count = kept.count
    in elim (closed.done n way at) as (λ _. Caught chains position new.ways.items past i
    (total (left chains way.came.items) (length chains))) [
      | inl fall ↦ catch-fall chains position old new past closed i k to fuel n way at follows fall room
          (catch-one chains position old new past closed apart i k presses to fuel)
      | inr all ↦ catch-step chains position new past i k presses to apart way count follows behind kept
          (all (moved behind.step position) refl)
    ]

-- ---- one step more

-- where no way need do anything, since it is beyond the step
cover-beyond : (chains : List Chain) (position : ℕ) (new : Ways) (step : Step) (past : List Step) (n : ℕ) (way : Way)
    → slice_get new.ways.items n ≡ Some way → Follows chains position (slice_index way.came.items) (reached past)
    → reached past step.chain ≤ step.change → reached past step.chain ≤ slice_index way.came.items step.chain
    → step.change < slice_index way.came.items step.chain → Covered chains position new.ways.items (step ∷ past)
cover-beyond chains position new step past n way at follows low there beyond = (
  n,
  way,
  at,
  λ i. elim (cases_eq step.chain i)
      as (λ _. Ahead chains i (slice_index way.came.items i) (reached (step ∷ past) i)
      ⊎ Behind chains position i (slice_index way.came.items i) (reached (step ∷ past) i)) [
        | inl same ↦ let is = reached-same step past i same
            in let far = ap (slice_index way.came.items) same
            in let near = ap (reached past) same
            in elim (follows i) as (λ _. Ahead chains i (slice_index way.came.items i) (reached (step ∷ past) i)
            ⊎ Behind chains position i (slice_index way.came.items i) (reached (step ∷ past) i)) [
              | inl ahead ↦ inl (omega (arith, is, far, beyond), λ j from to. ahead.1 j (omega (arith, is, near, low, from)) to)
              | inr behind ↦ let order = behind.may.order in let to = behind.to
                  in absurd (omega (arith, far, near, there, order, to))
            ]
        | inr other ↦ subst (λ m. Ahead chains i (slice_index way.came.items i) m ⊎ Behind chains position i
            (slice_index way.came.items i) m)
            (sym {A = ℕ} (reached-other step past i other)) (follows i)
      ],
)

-- a rise waits
cover-waiting : (chains : List Chain) (position : ℕ) (new : Ways) (step : Step) (past : List Step) (n : ℕ) (way : Way)
    → slice_get new.ways.items n ≡ Some way → Follows chains position (slice_index way.came.items) (reached past)
    → step.position ≤ position → MayTake chains (reached past step.chain) step
    → reached past step.chain ≤ slice_index way.came.items step.chain → slice_index way.came.items step.chain ≤ step.change
    → level_at chains step.chain (slice_index way.came.items step.chain) < level_at chains step.chain (suc step.change)
    → Covered chains position new.ways.items (step ∷ past)
cover-waiting chains position new step past n way at follows within may there behind rises = (
  n,
  way,
  at,
  λ i. elim (cases_eq step.chain i) as (λ _. Ahead chains i (slice_index way.came.items i) (reached (step ∷ past) i)
      ⊎ Behind chains position i (slice_index way.came.items i) (reached (step ∷ past) i)) [
        | inl same ↦ let is : reached (step ∷ past) i ≡ suc step.change = let far = reached-same step past i same
            in omega (arith, far)
            in let place = ap (slice_index way.came.items) same
            in let low = subst (λ m. level_at chains m (slice_index way.came.items m) < level_at chains m (suc step.change)) same
            rises
            in let level = ap (level_at chains i) is
            in inr (record {
              step = step;
              on = same;
              to = is;
              by = within;
              may = record {
                bounds = may.bounds;
                order = omega (arith, place, behind);
                skips = λ k change above below found. may.skips k change (omega (arith, there, place, above)) below found;
              };
              higher = omega (arith, low, level);
            })
        | inr other ↦ subst (λ m. Ahead chains i (slice_index way.came.items i) m ⊎ Behind chains position i
            (slice_index way.came.items i) m)
            (sym {A = ℕ} (reached-other step past i other)) (follows i)
      ],
)

-- a step that doesn't raise its chain's level is taken
cover-taking : (chains : List Chain) (bound position : ℕ) (new : Ways) (step : Step) (past : List Step) (way : Way)
    → length way.came.items ≡ length chains → NoneBetween chains bound position
    → bound ≤ step.position → step.position ≤ position → MayTake chains (reached past step.chain) step
    → IsCalm chains (step ∷ past)
    → Follows chains position (slice_index way.came.items) (reached past)
    → reached past step.chain ≤ slice_index way.came.items step.chain → slice_index way.came.items step.chain ≤ step.change
    → level_at chains step.chain (suc step.change) ≤ level_at chains step.chain (slice_index way.came.items step.chain)
    → IsTaken chains new.ways.items way.came.items (moved step position) → Covered chains position new.ways.items (step ∷ past)
cover-taking chains bound position new step past way count none order within may calm follows there behind low taken =
    let inside = inside-may chains (reached past step.chain) step may
    in let here = chain_of chains step.chain step.change may.bounds.change may.bounds.is
    in let follows-it = follows-step chains position way.came.items (reached (step ∷ past)) (moved step position)
    (omega (arith, count, inside))
    (λ i other. subst (λ m. Ahead chains i (slice_index way.came.items i) m
    ⊎ Behind chains position i (slice_index way.came.items i) m) (sym {A = ℕ} (reached-other step past i other)) (follows i))
    (λ i same. reached-same step past i same)
    in let moves = may-move chains bound position (reached past step.chain) step none order within may
    in let one = level-here chains step.chain (suc step.change) here.0 here.1
    in let two = level-here chains step.chain (slice_index way.came.items step.chain) here.0 here.1
    in let now = ap level_of here.2
    in let worth : IsWorth chains (slice_index way.came.items step.chain) (moved step position) = record {
      chain = here.0;
      at = here.1;
      worth = record { change = may.bounds.change; is = here.2; worth = inl (inl (omega (arith, low, one, two, now))) };
    }
    in let has = taken worth (record {
      bounds = moves.bounds;
      order = behind;
      skips = λ k change above below found. moves.skips k change (omega (arith, there, above)) below found;
    }) (apart-step chains position way.came.items (reached (step ∷ past)) (moved step position) follows-it
    (apart_from_calm chains (step ∷ past) calm))
    in (
      has.0,
      has.1,
      has.2,
      subst (λ (c : List ℕ). Follows chains position (slice_index c) (reached (step ∷ past)))
          (sym {A = List ℕ} has.3) follows-it,
    )

-- ways that have come to where the step begins
cover-at : (chains : List Chain) (bound position : ℕ) (old new : Ways) (step : Step) (past : List Step)
    → Closed chains position old new → NoneBetween chains bound position → bound ≤ step.position → step.position ≤ position
    → MayTake chains (reached past step.chain) step → IsCalm chains (step ∷ past) → (fuel n : ℕ) (way : Way)
    → slice_get new.ways.items n ≡ Some way → Follows chains position (slice_index way.came.items) (reached past)
    → reached past step.chain ≤ slice_index way.came.items step.chain
    → total (left chains way.came.items) (length chains) < fuel → Covered chains position new.ways.items (step ∷ past)
cover-at chains bound position old new step past closed none order within may calm zero n way at follows there room =
    absurd (omega (arith, room))
cover-at chains bound position old new step past closed none order within may calm (suc fuel) n way at follows there room =
    let kept = closed.search.kept n way at
    in let count = kept.count
    in elim (cases_lt step.change (slice_index way.came.items step.chain)) as
    (λ _. Covered chains position new.ways.items (step ∷ past)) [
      | inl beyond ↦ cover-beyond chains position new step past n way at follows may.order there beyond
      | inr behind ↦ elim (cases_lt (level_at chains step.chain (slice_index way.came.items step.chain))
          (level_at chains step.chain (suc step.change))) as (λ _. Covered chains position new.ways.items (step ∷ past)) [
            | inl rises ↦ cover-waiting chains position new step past n way at follows within may there behind rises
            | inr low ↦ elim (closed.done n way at) as (λ _. Covered chains position new.ways.items (step ∷ past)) [
              | inl fall ↦
                  let has = fall.2
                  in let less = fewer-fall chains position way.came.items fall.0 fall.1 count
                  in let inside = slice_get_within chains fall.0.chain fall.1.chain fall.1.at
                  in let same = ap (λ c. total (left chains c) (length chains)) has.3
                  in let follows-it = subst (λ (c : List ℕ). Follows chains position (slice_index c) (reached past))
                  (sym {A = List ℕ} has.3) (follows-fall chains position position way.came.items (reached past) fall.0 fall.1
                  (omega (arith, count, inside)) follows)
                  in let up = fall-up chains position way.came.items fall.0 fall.1 (omega (arith, count, inside)) step.chain
                  in let here = ap (λ c. slice_index c step.chain) has.3
                  in cover-at chains bound position old new step past closed none order within may calm fuel has.0 has.1 has.2
                  follows-it
                  (omega (arith, there, up, here)) (omega (arith, less, room, same))
              | inr all ↦ cover-taking chains bound position new step past way count none order within may calm follows there
                  behind low
                  (all (moved step position) refl)
            ]
          ]
    ]

-- a chain may go on where a later change has begun, and none before it must happen first
go-on : (position : ℕ) (changes : List Change) (k : ℕ) (change : Change) → slice_get changes k ≡ Some change
    → change.first ≤ position → ((j : ℕ) (other : Change) → j < k → slice_get changes j ≡ Some other → other.last ≡ None)
    → may_go_on position changes ≡ true
go-on position [] k change at first none = cc
go-on position (here ∷ changes) zero change at first none =
    let same = same_Some here change at
    in let begun = le-leb here.first position (subst (λ (c : Change). c.first ≤ position) (sym same) first)
    in rw begun refl
go-on position (here ∷ changes) (suc k) change at first none = elim (cases_Bool (nat_le here.first position))
    as (λ _. may_go_on position (here ∷ changes) ≡ true) [
      | inl begun ↦ rw begun refl
      | inr later ↦ let bare : is_some here.last ≡ false = ap (λ l. is_some l) (none zero here (omega arith) refl)
          in let rest = go-on position changes k change at first
          (λ j other less found. none (suc j) other (omega (arith, less)) found)
          in rw (later, bare) rest
    ]

goes-on : (chains : List Chain) (position : ℕ) (step : Step) (from : ℕ) (chain : Chain) (change : Change)
    → slice_get chains step.chain ≡ Some chain → slice_get chain.changes.items step.change ≡ Some change
    → change.first ≤ position → MayTake chains from step → may_go_on position (drop from chain.changes.items) ≡ true
goes-on chains position step from chain change at is first may =
    go-on position (drop from chain.changes.items) (step.change - from) change
    (drop-at from step.change chain.changes.items change may.order is) first
    (λ j other less found.
    let place = drop-from from j chain.changes.items other found
    in let far = place.1
    in let order = may.order
    in may.skips place.0 other (omega (arith, far)) (omega (arith, far, less, order))
    (change_here chains step.chain place.0 chain other at place.2))

cover-step : (chains : List Chain) (bound position : ℕ) (old new : Ways) (step : Step) (past : List Step)
    → Closed chains position old new → NoneBetween chains bound position → bound ≤ step.position → step.position ≤ position
    → MayTake chains (reached past step.chain) step → IsCalm chains (step ∷ past) → AreApart chains (reached past)
    → Covered chains position new.ways.items past → Covered chains position new.ways.items (step ∷ past)
cover-step chains bound position old new step past closed none order within may calm apart covered =
    let n = covered.0
    in let way = covered.1
    in let at = covered.2
    in let follows = covered.3
    in elim (follows step.chain) as (λ _. Covered chains position new.ways.items (step ∷ past)) [
      | inl ahead ↦ cover-at chains bound position old new step past closed none order within may calm
          (suc (total (left chains way.came.items) (length chains))) n way at follows ahead.0 (omega arith)
      | inr behind ↦
          let to = behind.to
          in let here = chain_of chains step.chain step.change may.bounds.change may.bounds.is
          in let first = may.bounds.first
          in let lacked = chain_of chains behind.step.chain behind.step.change behind.may.bounds.change behind.may.bounds.is
          in let same : lacked.0 ≡ here.0 = same_Some lacked.0 here.0 (sym lacked.1 ∙ (ap (slice_get chains) behind.on ∙ here.1))
          in let far : reached past step.chain ≡ behind.step.change + 1 = omega (arith, to)
          in let presses : Presses chains position step.chain behind.step.change = record {
            chain = here.0;
            change = behind.may.bounds.change;
            at = here.1;
            is = subst (λ (c : Chain). slice_get c.changes.items behind.step.change ≡ Some behind.may.bounds.change) same
                lacked.2;
            now = inr (subst (λ m. may_go_on position (drop m here.0.changes.items) ≡ true) far
                (goes-on chains position step (reached past step.chain) here.0 may.bounds.change here.1 here.2
                (omega (arith, first, within)) may));
          }
          in let caught = catch-one chains position old new past closed apart step.chain behind.step.change presses to
          (suc (total (left chains way.came.items) (length chains))) n way at follows behind (omega arith)
          in cover-at chains bound position old new step past closed none order within may calm
          (suc (total (left chains caught.way.came.items) (length chains))) caught.n caught.way caught.at caught.follows
          caught.there
          (omega arith)
    ]

clean-apart : (chains : List Chain) (past : List Step) → IsClean chains past → AreApart chains (reached past)
clean-apart chains [] clean = λ i j chain other at also differ. omega arith
clean-apart chains (step ∷ past) clean = apart_from_calm chains (step ∷ past) clean.0

pub cover-all : (chains : List Chain) (positions : List ℕ) (next position : ℕ) (old new : Ways)
    → (stands : Stands chains positions next old) → stands.bound ≤ position → NoneBetween chains stands.bound position
    → Closed chains position old new → (past : List Step) → IsBeginning chains past → IsClean chains past
    → newest past ≤ position → CanWait chains position past → Covered chains position new.ways.items past
cover-all chains positions next position old new stands order none closed [] steps clean within waits =
    let one = stands.covers [] tt tt tt (λ i k change last from at has.
    let end = waits i k change last from at has in omega (arith, end, order))
    in covered-later chains stands.bound position new.ways.items [] order (one.0, one.1, closed.grows one.0 one.1 one.2, one.3)
cover-all chains positions next position old new stands order none closed (step ∷ past) steps clean within waits =
    elim (cases_lt step.position stands.bound) as (λ _. Covered chains position new.ways.items (step ∷ past)) [
      | inl before ↦
          let one = stands.covers (step ∷ past) steps clean before (λ i k change last from at has.
          let end = waits i k change last from at has in omega (arith, end, order))
          in covered-later chains stands.bound position new.ways.items (step ∷ past) order
          (one.0, one.1, closed.grows one.0 one.1 one.2, one.3)
      | inr from ↦
          let earlier = steps.1
          in cover-step chains stands.bound position old new step past closed none from within steps.0 clean.0
          (clean-apart chains past clean.1)
          (cover-all chains positions next position old new stands order none closed past steps.2 clean.1
          (omega (arith, earlier, within)) (waits-before chains stands.bound position step past none steps.0 from waits))
    ]

-- ---- at the end of a position

-- one of the ways that follow isn't late
abbrev pub OnTime : List Chain → ℕ → List Way → List Step → Type 0
OnTime chains position ways past = (n : ℕ) × (way : Way) × (slice_get ways n ≡ Some way)
    × Follows chains position (slice_index way.came.items) (reached past) × (is_late position way.came.items 0 chains ≡ false)

catch-late : (chains : List Chain) (position : ℕ) (old new : Ways) (past : List Step) → Closed chains position old new
    → AreApart chains (reached past) → CanWait chains (position + 1) past → (n : ℕ) (way : Way)
    → slice_get new.ways.items n ≡ Some way → Follows chains position (slice_index way.came.items) (reached past)
    → (late : LateChange chains position way.came.items)
    → Caught chains position new.ways.items past late.i (total (left chains way.came.items) (length chains))
catch-late chains position old new past closed apart waits n way at follows late =
    let kept = closed.search.kept n way at
    in let from = late.from
    in let over = late.over
    in let is = change_here chains late.i late.k late.chain late.change late.at late.is
    in let passed : late.k < reached past late.i = elim (cases_lt late.k (reached past late.i))
    as (λ _. late.k < reached past late.i) [
      | inl less ↦ less
      | inr more ↦ let end = waits late.i late.k late.change late.last more is late.has in absurd (omega (arith, end, over))
    ]
    in elim (follows late.i)
    as (λ _. Caught chains position new.ways.items past late.i (total (left chains way.came.items) (length chains))) [
      | inl ahead ↦ let up = ahead.0 in absurd (omega (arith, up, from, passed))
      | inr behind ↦
          let to = behind.to
          in let same : late.k ≡ behind.step.change = elim (cases_lt late.k behind.step.change)
          as (λ _. late.k ≡ behind.step.change) [
            | inl before ↦ let never = behind.may.skips late.k late.change from before
                (subst (λ m. change_of chains m late.k ≡ Some late.change) (sym behind.on) is)
                in absurd (grind (arith, never, late.has))
            | inr more ↦ omega (arith, more, passed, to)
          ]
          in let due : position ≤ late.last = kept.is-way.waits late.i late.k late.change late.last
          (let came = kept.came late.i in omega (arith, came, from)) is late.has
          in let now : late.last ≡ position = omega (arith, due, over)
          in let presses : Presses chains position late.i late.k = record {
            chain = late.chain;
            change = late.change;
            at = late.at;
            is = late.is;
            now = inl (late.has ∙ ap (λ p. Some p) now);
          }
          in catch-one chains position old new past closed apart late.i late.k presses (omega (arith, to, same))
          (suc (total (left chains way.came.items) (length chains))) n way at follows behind (omega arith)
    ]

catch-all : (chains : List Chain) (position : ℕ) (old new : Ways) (past : List Step) → Closed chains position old new
    → AreApart chains (reached past) → CanWait chains (position + 1) past → (fuel n : ℕ) (way : Way)
    → slice_get new.ways.items n ≡ Some way → Follows chains position (slice_index way.came.items) (reached past)
    → total (left chains way.came.items) (length chains) < fuel → OnTime chains position new.ways.items past
catch-all chains position old new past closed apart waits zero n way at follows room = absurd (omega (arith, room))
catch-all chains position old new past closed apart waits (suc fuel) n way at follows room =
    elim (cases_Bool (is_late position way.came.items 0 chains)) as (λ _. OnTime chains position new.ways.items past) [
      | inl late ↦
          let caught = catch-late chains position old new past closed apart waits n way at follows
          (late-change chains position way.came.items late)
          in let less = caught.fewer
          in catch-all chains position old new past closed apart waits fuel caught.n caught.way caught.at caught.follows
          (omega (arith, less, room))
      | inr on ↦ (n, way, at, follows, on)
    ]

-- Of each beginning that can wait until after the position, a way that isn't late follows.
pub cover-on_time : (chains : List Chain) (position : ℕ) (old new : Ways) (past : List Step) → Closed chains position old new
    → IsClean chains past → CanWait chains (position + 1) past → Covered chains position new.ways.items past
    → OnTime chains position new.ways.items past
cover-on_time chains position old new past closed clean waits covered = catch-all chains position old new past closed
    (clean-apart chains past clean) waits (suc (total (left chains covered.1.came.items) (length chains))) covered.0 covered.1
    covered.2 covered.3 (omega arith)
