-- Going on from a way: along a chain, along each chain, and from each way.
use Rattle.std.proofs.Common.{◌⊎◌, ◌≡◌, ◌+◌, ◌<◌, ◌≤◌, inl, inr, ℕ, suc, List, Option, Some, None, refl, sym, ap, ◌∙◌, arith}
use Rattle.std.proofs.Common.{subst}
use Rattle.std.proofs.Common.{slice_get, slice_index, get_or, length, is_some, true, false, get_or-set_same, get_or-set_other}
use Rattle.std.proofs.lemmas.Bool.{cases_eq, cases_lt}
use Rattle.std.proofs.lemmas.Option.{same_Some, slice_get_within, slice_get-get_or}
use Rattle.capture_judge.specs.Placing.{height, change_of, level_of, level_at, reached}
use Rattle.capture_judge.specs.Beginnings.{MayTake}
use Rattle.capture_judge.specs.Searching.{AreApart, IsSearch, Grows, after, IsTaken, Took, MayPass, Closed}
use Rattle.capture_judge.specs.Searching.{level_in, IsWorth, TakesFall, IsDone, Went, Ahead, Behind, Follows}
use Rattle.capture_judge.proofs.clashes.Completing.{chain_of, inside-may}
use Rattle.capture_judge.proofs.calm.Keeping.{apart-same}
use Rattle.capture_judge.proofs.placings.Places.{element-at}
use Rattle.capture_judge.proofs.calm.Taking.{change_here, level-here, way-apart}
use Rattle.capture_judge.specs.declared.values.Change.{Change}
use Rattle.capture_judge.specs.declared.values.Chain.{Chain}
use Rattle.capture_judge.specs.declared.values.Step.{Step}
use Rattle.capture_judge.specs.declared.ways.Way.{Way}
use Rattle.capture_judge.specs.declared.ways.Ways.{Ways}

pub grows-trans : (a b c : Ways) → Grows a b → Grows b c → Grows a c
grows-trans a b c one two n way at = two n way (one n way at)

pub taken-more : (chains : List Chain) (old new : Ways) (came : List ℕ) (step : Step) → Grows old new
    → IsTaken chains old.ways.items came step → IsTaken chains new.ways.items came step
taken-more chains old new came step grows taken worth may apart =
    let has = taken worth may apart in (has.0, has.1, grows has.0 has.1 has.2, has.3)

pub inside-more : (old new : Ways) (way : ℕ) (here : Way) → Grows old new → slice_get old.ways.items way ≡ Some here
    → way < length new.ways.items
inside-more old new way here grows at = slice_get_within new.ways.items way here (grows way here at)

pub inside-grown : (old new : Ways) (way : ℕ) → Grows old new → way < length old.ways.items → way < length new.ways.items
inside-grown old new way grows inside =
    let one = element-at old.ways.items way inside in inside-more old new way one.0 grows one.1

pub some-last : (last : Option ℕ) → is_some last ≡ true → last ≡ None → ⊥
some-last None is none = cc
some-last (Some n) is none = cc

pub none-last : (last : Option ℕ) → is_some last ≡ false → last ≡ None
none-last None is = refl
none-last (Some n) is = cc

-- ---- along a chain

-- The steps of a chain to changes before an index are taken from a way, and none of these changes has a last position.
pub record Along (chains : List Chain) (position : ℕ) (old now : Ways) (way chain change : ℕ) : Type 0 where
  pub search : IsSearch chains position now
  pub grows : Grows old now
  pub order : (w : Way) → slice_get old.ways.items way ≡ Some w → slice_index w.came.items chain ≤ change
  pub passed : (w : Way) (k : ℕ) (h : Change) → slice_get old.ways.items way ≡ Some w → slice_index w.came.items chain ≤ k
      → k < change → change_of chains chain k ≡ Some h → h.last ≡ None
  pub taken : (w : Way) (step : Step) → slice_get old.ways.items way ≡ Some w → step.position ≡ position → step.chain ≡ chain
      → step.change < change → IsTaken chains now.ways.items w.came.items step

pub along-start : (chains : List Chain) (position : ℕ) (old : Ways) (way chain : ℕ) (here : Way) → IsSearch chains position old
    → slice_get old.ways.items way ≡ Some here → Along chains position old old way chain (slice_index here.came.items chain)
along-start chains position old way chain here search at = record {
  search = search;
  grows = λ n w is. is;
  order = λ w also.
      let same = ap (λ (x : Way). slice_index x.came.items chain) (same_Some here w (sym at ∙ also)) in omega (arith, same);
  passed = λ w k h also above below is.
      let same = ap (λ (x : Way). slice_index x.came.items chain) (same_Some here w (sym at ∙ also))
      in absurd (omega (arith, same, above, below));
  taken = λ w step also position on below worth may apart.
      let same = ap (λ (x : Way). slice_index x.came.items chain) (same_Some here w (sym at ∙ also))
      in let order = may.order in let place = ap (slice_index w.came.items) on
      in absurd (omega (arith, same, order, below, place));
}

pub along-pass : (chains : List Chain) (position : ℕ) (old now : Ways) (way : ℕ) (step : Step)
    → Along chains position old now way step.chain step.change → (w : Way) → slice_get old.ways.items way ≡ Some w
    → MayPass chains (slice_index w.came.items step.chain) step
along-pass chains position old now way step along w at = record {
  order = along.order w at;
  skips = λ k h above below is. along.passed w k h at above below is;
}

abbrev step_of : ℕ → ℕ → ℕ → Step
step_of position chain change = record { position = position; chain = chain; change = change }

same_step : (step other : Step) → step.position ≡ other.position → step.chain ≡ other.chain → step.change ≡ other.change
    → step ≡ other
same_step step other position chain change =
    ap (λ p. step_of p step.chain step.change) position ∙ ap (λ c. step_of other.position c step.change) chain
    ∙ ap (step_of other.position other.chain) change

along-taken : (chains : List Chain) (old mid new : Ways) (way : ℕ) (step : Step)
    → Along chains step.position old mid way step.chain step.change
    → Took chains step.position mid new way (λ s. s ≡ step) → (w : Way) (s : Step) → slice_get old.ways.items way ≡ Some w
    → s.position ≡ step.position → s.chain ≡ step.chain → s.change < step.change + 1
    → IsTaken chains new.ways.items w.came.items s
along-taken chains old mid new way step along took w s at position chain below = elim (cases_eq s.change step.change)
    as (λ _. IsTaken chains new.ways.items w.came.items s) [
      | inl same ↦ took.taken w s (along.grows way w at) position (same_step s step position chain same)
      | inr other ↦ taken-more chains mid new w.came.items s took.grows
          (along.taken w s at position chain (omega (arith, below, other)))
    ]

pub along-more : (chains : List Chain) (old mid new : Ways) (way : ℕ) (step : Step) (here : Change)
    → change_of chains step.chain step.change ≡ Some here → here.last ≡ None
    → Along chains step.position old mid way step.chain step.change
    → Took chains step.position mid new way (λ s. s ≡ step)
    → Along chains step.position old new way step.chain (step.change + 1)
along-more chains old mid new way step here is none along took = record {
  search = took.search;
  grows = grows-trans old mid new along.grows took.grows;
  order = λ w at. let order = along.order w at in omega (arith, order);
  passed = λ w k h at above below found. elim (cases_eq k step.change) as (λ _. h.last ≡ None) [
    | inl same ↦ let one = same_Some here h (sym is ∙ subst (λ n. change_of chains step.chain n ≡ Some h) same found)
        in sym (ap (λ (c : Change). c.last) one) ∙ none
    | inr other ↦ along.passed w k h at above (omega (arith, below, other)) found
  ];
  taken = λ w s at position chain below. along-taken chains old mid new way step along took w s at position chain below;
}

-- a change that has a last position isn't passed over
pub along-last : (chains : List Chain) (old mid new : Ways) (way : ℕ) (step : Step) (here : Change)
    → change_of chains step.chain step.change ≡ Some here → (here.last ≡ None → ⊥)
    → Along chains step.position old mid way step.chain step.change
    → Took chains step.position mid new way (λ s. s ≡ step)
    → Took chains step.position old new way (λ s. s.chain ≡ step.chain)
along-last chains old mid new way step here is last along took = record {
  search = took.search;
  grows = grows-trans old mid new along.grows took.grows;
  taken = λ w s at position chain. elim (cases_lt step.change s.change) as (λ _. IsTaken chains new.ways.items w.came.items s) [
    | inl beyond ↦ λ worth may apart. absurd (last (may.skips step.change here
        (let order = along.order w at in let place = ap (slice_index w.came.items) chain in omega (arith, order, place)) beyond
        (subst (λ n. change_of chains n step.change ≡ Some here) (sym chain) is)))
    | inr within ↦ along-taken chains old mid new way step along took w s at position chain (omega (arith, within))
  ];
}

pub along-end : (chains : List Chain) (position : ℕ) (old new : Ways) (way chain change : ℕ) (here : Chain)
    → slice_get chains chain ≡ Some here → length here.changes.items ≤ change → Along chains position old new way chain change
    → Took chains position old new way (λ s. s.chain ≡ chain)
along-end chains position old new way chain change here is all along = record {
  search = along.search;
  grows = along.grows;
  taken = λ w s at position on. elim (cases_lt s.change change) as (λ _. IsTaken chains new.ways.items w.came.items s) [
    | inl before ↦ along.taken w s at position on before
    | inr beyond ↦ λ worth may apart.
        let found = chain_of chains s.chain s.change may.bounds.change may.bounds.is
        in let same : found.0 ≡ here = same_Some found.0 here (sym found.1 ∙ (ap (slice_get chains) on ∙ is))
        in let inside = slice_get_within found.0.changes.items s.change may.bounds.change found.2
        in let size = ap (λ (c : Chain). length c.changes.items) same
        in absurd (omega (arith, all, beyond, inside, size))
  ];
}

-- ---- along each chain

pub record Chains (chains : List Chain) (position : ℕ) (old now : Ways) (way chain : ℕ) : Type 0 where
  pub search : IsSearch chains position now
  pub grows : Grows old now
  pub taken : (w : Way) (step : Step) → slice_get old.ways.items way ≡ Some w → step.position ≡ position → step.chain < chain
      → IsTaken chains now.ways.items w.came.items step

pub chains-start : (chains : List Chain) (position : ℕ) (old : Ways) (way : ℕ) → IsSearch chains position old
    → Chains chains position old old way 0
chains-start chains position old way search = record {
  search = search;
  grows = λ n w is. is;
  taken = λ w step at position below. absurd (omega (arith, below));
}

pub chains-more : (chains : List Chain) (position : ℕ) (old mid new : Ways) (way chain : ℕ)
    → Chains chains position old mid way chain → Took chains position mid new way (λ s. s.chain ≡ chain)
    → Chains chains position old new way (chain + 1)
chains-more chains position old mid new way chain before took = record {
  search = took.search;
  grows = grows-trans old mid new before.grows took.grows;
  taken = λ w step at position below. elim (cases_eq step.chain chain) as (λ _. IsTaken chains new.ways.items w.came.items step) [
    | inl same ↦ took.taken w step (before.grows way w at) position same
    | inr other ↦ taken-more chains mid new w.came.items step took.grows
        (before.taken w step at position (omega (arith, below, other)))
  ];
}

pub chains-end : (chains : List Chain) (position : ℕ) (old new : Ways) (way chain : ℕ) → length chains ≤ chain
    → Chains chains position old new way chain → Took chains position old new way (λ s. Unit {0})
chains-end chains position old new way chain all gone = record {
  search = gone.search;
  grows = gone.grows;
  taken = λ w step at position any worth may apart.
      let inside = inside-may chains (slice_index w.came.items step.chain) step may
      in gone.taken w step at position (omega (arith, inside, all)) worth may apart;
}

-- ---- falls

pub after-same : (came : List ℕ) (step : Step) (i : ℕ) → step.chain < length came → step.chain ≡ i
    → slice_index (after came step) i ≡ step.change + 1
after-same came step i inside same = subst (λ n. slice_index (after came step) n ≡ step.change + 1) same
    (get_or-set_same came step.chain (step.change + 1) 0 inside)

pub after-other : (came : List ℕ) (step : Step) (i : ℕ) → (step.chain ≡ i → ⊥)
    → slice_index (after came step) i ≡ slice_index came i
after-other came step i other = get_or-set_other came step.chain i (step.change + 1) 0 (λ same. other (sym same))

pub apart-lower : (chains : List Chain) (f g : ℕ → ℕ) → ((i : ℕ) → level_at chains i (f i) ≤ level_at chains i (g i))
    → AreApart chains g → AreApart chains f
apart-lower chains f g lower apart i j chain other at also differ =
    let low = apart i j chain other at also differ in let one = lower i in let two = lower j in omega (arith, low, one, two)

-- the level after a fall
fall-level : (chains : List Chain) (position : ℕ) (came : List ℕ) (step : Step) → TakesFall chains position came step
    → level_at chains step.chain (suc step.change) ≤ level_at chains step.chain step.change
fall-level chains position came step takes =
    let after-is = level-here chains step.chain (suc step.change) takes.chain takes.at
    in let before-is = level-here chains step.chain step.change takes.chain takes.at
    in let now = ap level_of takes.fall.at
    in let lower = takes.fall.lower
    in omega (arith, after-is, before-is, now, lower)

fall-lower : (chains : List Chain) (position : ℕ) (came : List ℕ) (step : Step) → TakesFall chains position came step
    → step.chain < length came → (i : ℕ)
    → level_at chains i (slice_index (after came step) i) ≤ level_at chains i (slice_index came i)
fall-lower chains position came step takes inside i = elim (cases_eq step.chain i)
    as (λ _. level_at chains i (slice_index (after came step) i) ≤ level_at chains i (slice_index came i)) [
      | inl same ↦
          let low = subst (λ n. level_at chains n (suc step.change) ≤ level_at chains n step.change) same
          (fall-level chains position came step takes)
          in let far : slice_index (after came step) i ≡ suc step.change =
          let is = after-same came step i inside same in omega (arith, is)
          in let near : step.change ≡ slice_index came i = takes.next ∙ ap (slice_index came) same
          in let one = ap (level_at chains i) far
          in let two = ap (level_at chains i) near
          in omega (arith, low, one, two)
      | inr other ↦ let same = ap (level_at chains i) (after-other came step i other) in omega (arith, same)
    ]

-- a chain that falls is ahead as before, or lacks the same step
fall-one : (chains : List Chain) (position i far came : ℕ) → level_at chains i (suc far) ≤ level_at chains i far
    → Ahead chains i far came ⊎ Behind chains position i far came
    → Ahead chains i (suc far) came ⊎ Behind chains position i (suc far) came
fall-one chains position i far came low (inl ahead) =
    let up = ahead.0
    in inl (
      omega (arith, up),
      λ j from to. elim (cases_eq (suc far) j) as (λ _. level_at chains i (suc far) ≤ level_at chains i j) [
        | inl same ↦ let level = ap (level_at chains i) same in omega (arith, level)
        | inr other ↦ let before = ahead.1 j from (omega (arith, to, other)) in omega (arith, low, before)
      ],
    )
fall-one chains position i far came low (inr behind) = elim (cases_eq far behind.step.change)
    as (λ _. Ahead chains i (suc far) came ⊎ Behind chains position i (suc far) came) [
      | inl same ↦ let to = behind.to in let here : suc far ≡ came = omega (arith, same, to)
          in inl (
            omega (arith, here),
            λ j from until. let end : suc far ≡ j = omega (arith, here, from, until)
                in let level = ap (level_at chains i) end in omega (arith, level),
          )
      | inr other ↦ let order = behind.may.order in inr (record {
        step = behind.step;
        on = behind.on;
        to = behind.to;
        by = behind.by;
        may = record {
          bounds = behind.may.bounds;
          order = omega (arith, order, other);
          skips = λ k change above below at. behind.may.skips k change (omega (arith, above)) below at;
        };
        higher = let higher = behind.higher in omega (arith, low, higher);
      })
    ]

pub follows-fall : (chains : List Chain) (position now : ℕ) (came : List ℕ) (reach : ℕ → ℕ) (step : Step)
    → TakesFall chains now came step → step.chain < length came → Follows chains position (slice_index came) reach
    → Follows chains position (slice_index (after came step)) reach
follows-fall chains position now came reach step takes inside follows i = elim (cases_eq step.chain i)
    as (λ _. Ahead chains i (slice_index (after came step) i) (reach i)
    ⊎ Behind chains position i (slice_index (after came step) i) (reach i)) [
      | inl same ↦
          let near : step.change ≡ slice_index came i = takes.next ∙ ap (slice_index came) same
          in let far : slice_index (after came step) i ≡ suc (slice_index came i) =
          let is = after-same came step i inside same in omega (arith, is, near)
          in let low = subst (λ n. level_at chains n (suc step.change) ≤ level_at chains n step.change) same
          (fall-level chains now came step takes)
          in subst (λ n. Ahead chains i n (reach i) ⊎ Behind chains position i n (reach i)) (sym {A = ℕ} far)
          (fall-one chains position i (slice_index came i) (reach i)
          (subst (λ n. level_at chains i (suc n) ≤ level_at chains i n) near low) (follows i))
      | inr other ↦ subst (λ n. Ahead chains i n (reach i) ⊎ Behind chains position i n (reach i))
          (sym {A = ℕ} (after-other came step i other)) (follows i)
    ]

-- a fall may be taken, and no chains clash after it
pub fall-may : (chains : List Chain) (position : ℕ) (came : List ℕ) (step : Step) → TakesFall chains position came step
    → MayTake chains (slice_index came step.chain) step
fall-may chains position came step takes = record {
  bounds = record {
    change = takes.fall.change;
    is = change_here chains step.chain step.change takes.chain takes.fall.change takes.at takes.fall.at;
    first = let first = takes.fall.admits.first in let there = takes.there in omega (arith, first, there);
    last = λ last has. let end = takes.fall.admits.last last has in let there = takes.there in omega (arith, end, there);
  };
  order = let next = takes.next in omega (arith, next);
  skips = λ k change above below at. let next = takes.next in absurd (omega (arith, next, above, below));
}

pub went-fall : (chains : List Chain) (position : ℕ) (old new : Ways) (way : ℕ) (here : Way) (step : Step)
    → IsSearch chains position old → slice_get old.ways.items way ≡ Some here
    → TakesFall chains position here.came.items step → Took chains step.position old new way (λ s. s ≡ step)
    → Went chains position old new way
went-fall chains position old new way here step search at takes took =
    let kept = search.kept way here at
    in let count = kept.count
    in let may = fall-may chains position here.came.items step takes
    in let within = inside-may chains (slice_index here.came.items step.chain) step may
    in let inside : step.chain < length here.came.items = omega (arith, count, within)
    in let before = apart-same chains (reached kept.past) (slice_index here.came.items) (λ i. sym (kept.came i))
    (way-apart chains position kept.past kept.is-way)
    in let apart = apart-lower chains (slice_index (after here.came.items step)) (slice_index here.came.items)
    (fall-lower chains position here.came.items step takes inside) before
    in let worth : IsWorth chains (slice_index here.came.items step.chain) step = record {
      chain = takes.chain;
      at = takes.at;
      worth = record {
        change = takes.fall.change;
        is = takes.fall.at;
        worth = inl (inl (subst (λ n. height takes.fall.change.level ≤ level_in takes.chain n) takes.next takes.fall.lower));
      };
    }
    in let has = took.taken here step at refl refl worth may apart
    in record {
      search = subst (λ p. IsSearch chains p new) takes.there took.search;
      grows = took.grows;
      done = λ w also. subst (λ (x : Way). IsDone chains position new.ways.items x.came.items)
          (same_Some here w (sym at ∙ also)) (inl (step, takes, has));
    }

pub went-all : (chains : List Chain) (position : ℕ) (old new : Ways) (way : ℕ) → Took chains position old new way (λ s. Unit {0})
    → Went chains position old new way
went-all chains position old new way took = record {
  search = took.search;
  grows = took.grows;
  done = λ w at. inr (λ step position. took.taken w step at position tt);
}

done-more : (chains : List Chain) (position : ℕ) (old new : Ways) (came : List ℕ) → Grows old new
    → IsDone chains position old.ways.items came → IsDone chains position new.ways.items came
done-more chains position old new came grows (inl fall) =
    let has = fall.2 in inl (fall.0, fall.1, (has.0, has.1, grows has.0 has.1 has.2, has.3))
done-more chains position old new came grows (inr all) =
    inr (λ step there. taken-more chains old new came step grows (all step there))

-- ---- from each way

pub record Gone (chains : List Chain) (position : ℕ) (old now : Ways) (way : ℕ) : Type 0 where
  pub search : IsSearch chains position now
  pub grows : Grows old now
  pub done : (n : ℕ) (w : Way) → n < way → slice_get now.ways.items n ≡ Some w
      → IsDone chains position now.ways.items w.came.items

pub gone-start : (chains : List Chain) (position : ℕ) (old : Ways) → IsSearch chains position old
    → Gone chains position old old 0
gone-start chains position old search = record {
  search = search;
  grows = λ n w is. is;
  done = λ n w below at. absurd (omega (arith, below));
}

-- a way that stood there before stands there
grown-back : (old new : Ways) (n : ℕ) (w : Way) → Grows old new → n < length old.ways.items
    → slice_get new.ways.items n ≡ Some w → slice_get old.ways.items n ≡ Some w
grown-back old new n w grows inside at =
    let is = slice_get-get_or old.ways.items n w inside
    in is ∙ (sym (grows n (get_or old.ways.items n w) is) ∙ at)

pub gone-more : (chains : List Chain) (position : ℕ) (old mid new : Ways) (way : ℕ) → way < length mid.ways.items
    → Gone chains position old mid way → Went chains position mid new way → Gone chains position old new (way + 1)
gone-more chains position old mid new way inside before went = record {
  search = went.search;
  grows = grows-trans old mid new before.grows went.grows;
  done = λ n w below at. elim (cases_eq n way) as (λ _. IsDone chains position new.ways.items w.came.items) [
    | inl same ↦ went.done w (grown-back mid new way w went.grows inside
        (subst (λ m. slice_get new.ways.items m ≡ Some w) same at))
    | inr other ↦ done-more chains position mid new w.came.items went.grows
        (before.done n w (omega (arith, below, other))
        (grown-back mid new n w went.grows (omega (arith, below, other, inside)) at))
  ];
}

pub gone-end : (chains : List Chain) (position : ℕ) (old new : Ways) (way : ℕ) → length new.ways.items ≤ way
    → Gone chains position old new way → Closed chains position old new
gone-end chains position old new way all gone = record {
  search = gone.search;
  grows = gone.grows;
  done = λ n w at. let inside = slice_get_within new.ways.items n w at in gone.done n w (omega (arith, inside, all)) at;
}
