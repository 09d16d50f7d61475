-- A step that is taken from a way, or can't be.
use Rattle.std.proofs.Common.{◌≡◌, ◌+◌, ◌<◌, inl, inr, ℕ, zero, suc, List, ◌∷◌, [], Some, refl, sym, ap, ◌∙◌, arith, subst}
use Rattle.std.proofs.Common.{slice_get, slice_index, length, get_or-set_other, Result, Ok, Err, IfOk, Bool, true, false}
use Rattle.std.specs.Bool.{MatchBool}
use Rattle.std.proofs.lemmas.Bool.{cases_eq}
use Rattle.std.proofs.lemmas.Option.{same_Some}
use Rattle.capture_judge.specs.Placing.{change_at, change_of, level_of, level_at, reached, IsWithinBounds}
use Rattle.capture_judge.specs.Beginnings.{MayTake, IsWay}
use Rattle.capture_judge.specs.Searching.{level_in, AreApart, IsApart, Admits, IsSearch, Has, after, IsTaken, Keeps, Took}
use Rattle.capture_judge.proofs.calm.Calm.{apart_from_calm}
use Rattle.capture_judge.specs.declared.values.Change.{Change}
use Rattle.capture_judge.specs.declared.values.Chain.{Chain}
use Rattle.capture_judge.specs.declared.values.Step.{Step}
use Rattle.capture_judge.specs.declared.ways.Way.{Way}
use Rattle.capture_judge.specs.declared.ways.Ways.{Ways}

-- ---- changes by their places

pub change_here : (chains : List Chain) (i k : ℕ) (chain : Chain) (change : Change) → slice_get chains i ≡ Some chain
    → slice_get chain.changes.items k ≡ Some change → change_of chains i k ≡ Some change
unfolding change_of
change_here chains i k chain change at also = ap (λ c. change_at c k) at ∙ also

pub admits-of : (chains : List Chain) (step : Step) (change : Change) → change_of chains step.chain step.change ≡ Some change
    → IsWithinBounds chains step → Admits change step.position
admits-of chains step change at bounds =
    let one = same_Some bounds.change change (sym bounds.is ∙ at)
    in subst (λ (c : Change). Admits c step.position) one (record { first = bounds.first; last = bounds.last })

-- ---- levels

pub level-here : (chains : List Chain) (i came : ℕ) (chain : Chain) → slice_get chains i ≡ Some chain
    → level_at chains i came ≡ level_in chain came
unfolding change_of
level-here chains i zero chain at = refl
level-here chains i (suc came) chain at = ap (λ c. level_of (change_at c came)) at

pub way-apart : (chains : List Chain) (position : ℕ) (past : List Step) → IsWay chains position past
    → AreApart chains (reached past)
way-apart chains position [] way = λ i j chain other at also differ. omega arith
way-apart chains position (step ∷ past) way = apart_from_calm chains (step ∷ past) way.clean.0

-- where chains are apart, and one that goes on stays apart from each other, all are apart
pub apart-after : (chains : List Chain) (came : List ℕ) (step : Step) → step.chain < length came
    → AreApart chains (slice_index came) → IsApart chains (after came step) step.chain
    → AreApart chains (slice_index (after came step))
apart-after chains came step inside before apart i j chain other at also differ = elim (cases_eq i step.chain)
    as (λ _. level_at chains i (slice_index (after came step) i) + level_at chains j (slice_index (after came step) j) < 3) [
      | inl here ↦
          let low = apart j chain other (subst (λ n. slice_get chains n ≡ Some chain) here at) also differ
          in let one = level-here chains i (slice_index (after came step) i) chain at
          in let two = level-here chains j (slice_index (after came step) j) other also
          in let same = ap (λ n. level_in chain (slice_index (after came step) n)) here
          in omega (arith, low, one, two, same)
      | inr away ↦ elim (cases_eq j step.chain)
          as (λ _. level_at chains i (slice_index (after came step) i) + level_at chains j (slice_index (after came step) j)
          < 3) [
            | inl here ↦
                let low = apart i other chain (subst (λ n. slice_get chains n ≡ Some other) here also) at
                (λ same. differ (sym same))
                in let one = level-here chains i (slice_index (after came step) i) chain at
                in let two = level-here chains j (slice_index (after came step) j) other also
                in let same = ap (λ n. level_in other (slice_index (after came step) n)) here
                in omega (arith, low, one, two, same)
            | inr also-away ↦
                let low = before i j chain other at also differ
                in let one = ap (level_at chains i) (get_or-set_other came step.chain i (step.change + 1) 0 away)
                in let two = ap (level_at chains j) (get_or-set_other came step.chain j (step.change + 1) 0 also-away)
                in omega (arith, low, one, two)
          ]
    ]

pub apart-one : (chains : List Chain) (came : List ℕ) (i : ℕ) → AreApart chains (slice_index came) → IsApart chains came i
apart-one chains came i apart j chain other at also differ =
    let low = apart i j chain other at also differ
    in let one = level-here chains i (slice_index came i) chain at
    in let two = level-here chains j (slice_index came j) other also
    in omega (arith, low, one, two)

-- ---- what taking a step comes to

took-one : (chains : List Chain) (old new : Ways) (way : ℕ) (step : Step) (here : Way) → slice_get old.ways.items way ≡ Some here
    → IsTaken chains new.ways.items here.came.items step → (w : Way) (s : Step) → slice_get old.ways.items way ≡ Some w
    → s ≡ step → IsTaken chains new.ways.items w.came.items s
took-one chains old new way step here at taken w s also is =
    let same = same_Some here w (sym at ∙ also)
    in subst (λ (x : Way). IsTaken chains new.ways.items x.came.items s) same
    (subst (λ (x : Step). IsTaken chains new.ways.items here.came.items x) (sym is) taken)

pub took-refused : (chains : List Chain) (old : Ways) (way : ℕ) (step : Step) (here : Way) → IsSearch chains step.position old
    → slice_get old.ways.items way ≡ Some here → IsTaken chains old.ways.items here.came.items step
    → Took chains step.position old old way (λ s. s ≡ step)
took-refused chains old way step here search at taken = record {
  search = search;
  grows = λ n w is. is;
  taken = λ w s also position is. took-one chains old old way step here at taken w s also is;
}

pub took-kept : (chains : List Chain) (old new : Ways) (way : ℕ) (step : Step) (here : Way) (came : List ℕ)
    → slice_get old.ways.items way ≡ Some here → came ≡ after here.came.items step → Keeps chains step.position old new came
    → Took chains step.position old new way (λ s. s ≡ step)
took-kept chains old new way step here came at is keeps = record {
  search = keeps.search;
  grows = keeps.grows;
  taken = λ w s also position same. took-one chains old new way step here at
      (λ worth may apart. subst (Has new.ways.items) is keeps.has) w s also same;
}

pub took-nowhere : (chains : List Chain) (old : Ways) (way : ℕ) (step : Step) → IsSearch chains step.position old
    → ((came : ℕ) → MayTake chains came step → ⊥) → Took chains step.position old old way (λ s. s ≡ step)
took-nowhere chains old way step search never = record {
  search = search;
  grows = λ n w is. is;
  taken = λ w s also position is worth may apart.
      absurd (never (slice_index w.came.items s.chain) (subst (MayTake chains (slice_index w.came.items s.chain)) is may));
}

-- what follows where there is room
pub if-room : {E : Type 0} (P Q R : Type 0) → (P → Q) → (room : Result Bool E) → IfOk room (λ b. MatchBool b P R)
    → IfOk room (λ b. MatchBool b Q R)
if-room P Q R more (Ok true) has = more has
if-room P Q R more (Ok false) has = has
if-room P Q R more (Err e) has = tt
