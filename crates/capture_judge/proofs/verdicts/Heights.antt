-- The levels of clients, chain by chain and step by step.
use Rattle.std.proofs.Common.{◌≡◌, ◌≢◌, ◌+◌, ◌<◌, ◌≤◌, ◌⊎◌, inl, inr, ℕ, zero, suc, List, ◌∷◌, [], Option, Some, None, refl}
use Rattle.std.proofs.Common.{sym, ap, ◌∙◌}
use Rattle.std.proofs.Common.{◌++◌, arith, subst, length, slice_get, slice_set, slice_index_or, nat_lt, if◌then◌else◌}
use Rattle.std.proofs.Common.{replicate, reverse, take}
use Rattle.std.proofs.lemmas.Bool.{cases_eq, cases_Bool, ltb-true, ltb-false}
use Rattle.std.proofs.lemmas.List.{length-set, length-replicate, reverse-append, take_more}
use Rattle.std.proofs.lemmas.Option.{same_Some, slice_get_within}
use Rattle.capture_judge.specs.Placing.{height, reached, level_at, level_of, change_of, IsLevel}
use Rattle.capture_judge.specs.Levels.{reached_by, HaveCome, level_by, IsHighest, IsLevelAfter, AreLevels}
use Rattle.capture_judge.specs.declared.values.Chain.{Chain}
use Rattle.capture_judge.specs.declared.values.Level.{Level}
use Rattle.capture_judge.specs.declared.values.Step.{Step}
use Rattle.capture_judge.proofs.placings.Orders.{reached-same, reached-other}
use Rattle.capture_judge.proofs.placings.Places.{element-at}

-- ---- from chain to chain

pub highest-start : (chains : List Chain) (came : List (Option ℕ)) (client : ℕ) → IsHighest chains came client 0 0
highest-start chains came client = record {
  highest = λ i chain one inside at has mine. absurd (omega (arith, inside));
  one = inl refl;
}

pub highest-skip : (chains : List Chain) (came : List (Option ℕ)) (client n level : ℕ) (here : Chain)
    → slice_get chains n ≡ Some here
    → here.client ≢ client → IsHighest chains came client n level → IsHighest chains came client (n + 1) level
highest-skip chains came client n level here at other before = record {
  highest = λ i chain one inside is has mine. elim (cases_eq i n) as (λ _. level_by chain one ≤ level) [
    | inl same ↦ absurd (other (let is-here = same_Some here chain (sym at ∙ (sym (ap (slice_get chains) same) ∙ is))
        in ap (λ (c : Chain). c.client) is-here ∙ mine))
    | inr differ ↦ before.highest i chain one (omega (arith, inside, differ)) is has mine
  ];
  one = before.one;
}

-- the higher of two levels
abbrev pub higher : ℕ → ℕ → ℕ
higher one other = if nat_lt one other then other else one

record IsHigher (one other level : ℕ) : Type 0 where
  left : one ≤ level
  right : other ≤ level
  either : (level ≡ one) ⊎ (level ≡ other)

higher-of : (one other : ℕ) → IsHigher one other (higher one other)
higher-of one other = elim (cases_Bool (nat_lt one other)) as (λ _. IsHigher one other (higher one other)) [
  | inl less ↦ let low = ltb-true one other less
      in rw less (record { left = omega (arith, low); right = omega arith; either = inr refl })
  | inr more ↦ let high = ltb-false one other more in rw more (record { left = omega arith; right = high; either = inl refl })
]

pub highest-more : (chains : List Chain) (came : List (Option ℕ)) (client n level : ℕ) (here : Chain) (last : Option ℕ)
    → slice_get chains n ≡ Some here → slice_get came n ≡ Some last → here.client ≡ client
    → IsHighest chains came client n level → IsHighest chains came client (n + 1) (higher level (level_by here last))
highest-more chains came client n level here last at has-last mine before =
    let up = higher-of level (level_by here last)
    in record {
      highest = λ i chain one inside is has whose. elim (cases_eq i n)
          as (λ _. level_by chain one ≤ higher level (level_by here last)) [
            | inl same ↦
                let is-here = same_Some here chain (sym at ∙ (sym (ap (slice_get chains) same) ∙ is))
                in let is-last = same_Some last one (sym has-last ∙ (sym (ap (slice_get came) same) ∙ has))
                in subst (λ (c : Chain). level_by c one ≤ higher level (level_by here last)) is-here
                (subst (λ (o : Option ℕ). level_by here o ≤ higher level (level_by here last)) is-last up.right)
            | inr differ ↦ let low = before.highest i chain one (omega (arith, inside, differ)) is has whose
                in let left = up.left in omega (arith, low, left)
          ];
      one = elim up.either [
        | inl same ↦ elim before.one [
          | inl nothing ↦ inl (same ∙ nothing)
          | inr found ↦ inr (found.0, found.1, found.2, found.3, found.4, found.5, found.6 ∙ sym same)
        ]
        | inr new ↦ inr (n, here, last, at, has-last, mine, sym new)
      ];
    }

pub highest-all : (chains : List Chain) (came : List (Option ℕ)) (client n level : ℕ) → length chains ≤ n
    → IsHighest chains came client n level → IsHighest chains came client (length chains) level
highest-all chains came client n level all before = record {
  highest = λ i chain one inside at has mine. before.highest i chain one (omega (arith, inside, all)) at has mine;
  one = before.one;
}

-- ---- where chains have come

nothing-placed : (n i : ℕ) (one : Option ℕ) → slice_get (replicate n None) i ≡ Some one → 0 ≡ reached_by one
nothing-placed zero i one is = cc
nothing-placed (suc n) zero one is = ap reached_by (same_Some None one is)
nothing-placed (suc n) (suc i) one is = nothing-placed n i one is

pub come-start : (chains : List Chain) (came : List (Option ℕ)) → came ≡ replicate (length chains) None → HaveCome chains [] came
come-start chains came is = record {
  count = ap length is ∙ length-replicate (length chains) None;
  each = λ i one at. nothing-placed (length chains) i one (sym (ap (λ (c : List (Option ℕ)). slice_get c i) is) ∙ at);
}

set-cases : (came : List (Option ℕ)) (n i : ℕ) (new one : Option ℕ) → slice_get (slice_set came n new) i ≡ Some one
    → ((n ≡ i) × (new ≡ one)) ⊎ ((n ≢ i) × (slice_get came i ≡ Some one))
set-cases [] n i new one is = cc
set-cases (x ∷ came) zero zero new one is = inl (refl, same_Some new one is)
set-cases (x ∷ came) zero (suc i) new one is = inr ((λ same. omega (arith, same)), is)
set-cases (x ∷ came) (suc n) zero new one is = inr ((λ same. omega (arith, same)), is)
set-cases (x ∷ came) (suc n) (suc i) new one is = elim (set-cases came n i new one is)
    as (λ _. ((suc n ≡ suc i) × (new ≡ one)) ⊎ ((suc n ≢ suc i) × (slice_get (x ∷ came) (suc i) ≡ Some one))) [
      | inl here ↦ inl (ap suc here.0, here.1)
      | inr there ↦ inr ((λ same. there.0 (omega (arith, same))), there.1)
    ]

pub come-next : (chains : List Chain) (past : List Step) (step : Step) (came : List (Option ℕ)) → HaveCome chains past came
    → HaveCome chains (step ∷ past) (slice_set came step.chain (Some step.change))
come-next chains past step came before = record {
  count = length-set came step.chain (Some step.change) ∙ before.count;
  each = λ i one at. elim (set-cases came step.chain i (Some step.change) one at)
      as (λ _. reached (step ∷ past) i ≡ reached_by one) [
        | inl here ↦ let is = reached-same step past i here.0 in let new = ap reached_by here.1
            in let more : step.change + 1 ≡ reached_by (Some step.change) = omega arith in is ∙ (more ∙ new)
        | inr there ↦ reached-other step past i there.0 ∙ before.each i one there.1
      ];
}

-- a step of no chain
pub come-beyond : (chains : List Chain) (past : List Step) (step : Step) (came : List (Option ℕ)) → length chains ≤ step.chain
    → HaveCome chains past came → HaveCome chains (step ∷ past) came
come-beyond chains past step came beyond before = record {
  count = before.count;
  each = λ i one at.
      let inside = slice_get_within came i one at in let count = before.count
      in reached-other step past i (λ same. omega (arith, same, inside, beyond, count)) ∙ before.each i one at;
}

-- ---- the level of a client

change-by : (chains : List Chain) (i k : ℕ) (chain : Chain) → slice_get chains i ≡ Some chain
    → change_of chains i k ≡ slice_get chain.changes.items k
unfolding change_of
change-by chains i k chain at = rw at refl

level-by : (chains : List Chain) (i n : ℕ) (chain : Chain) (one : Option ℕ) → slice_get chains i ≡ Some chain → n ≡ reached_by one
    → level_at chains i n ≡ level_by chain one
level-by chains i n chain None at is = ap (level_at chains i) is
level-by chains i n chain (Some change) at is = ap (level_at chains i) is ∙ ap level_of (change-by chains i change chain at)

pub level-of : (chains : List Chain) (past : List Step) (came : List (Option ℕ)) (client level : ℕ) → HaveCome chains past came
    → IsHighest chains came client (length chains) level → IsLevel chains past client level
level-of chains past came client level come is = record {
  highest = λ i chain at mine.
      let inside = slice_get_within chains i chain at in let count = come.count
      in let one = element-at came i (omega (arith, inside, count))
      in let same = level-by chains i (reached past i) chain one.0 at (come.each i one.0 one.1)
      in let low = is.highest i chain one.0 inside at one.1 mine in omega (arith, same, low);
  one = elim is.one [
    | inl nothing ↦ inl nothing
    | inr found ↦ inr (
      found.0,
      found.1,
      found.3,
      found.5,
      level-by chains found.0 (reached past found.0) found.1 found.2 found.3 (come.each found.0 found.2 found.4) ∙ found.6,
    )
  ];
}

pub level-after : (chains : List Chain) (past : List Step) (came : List (Option ℕ)) (step : Step) (level : Level)
    → HaveCome chains past came → ((chain : Chain) → slice_get chains step.chain ≡ Some chain
    → IsHighest chains came chain.client (length chains) (height level)) → IsLevelAfter chains past step level
level-after chains past came step level come is = λ chain at.
    level-of chains past came chain.client (height level) come (is chain at)

-- ---- from step to step

past-more : (steps : List Step) (n : ℕ) (d : Step) → n < length steps
    → reverse (take (n + 1) steps) ≡ slice_index_or steps n d ∷ reverse (take n steps)
past-more steps n d inside = ap (λ (xs : List Step). reverse xs) (take_more steps n d inside)
    ∙ reverse-append (take n steps) (slice_index_or steps n d ∷ [])

pub come-more : (chains : List Chain) (steps : List Step) (n : ℕ) (d : Step) (came : List (Option ℕ)) → n < length steps
    → HaveCome chains (slice_index_or steps n d ∷ reverse (take n steps)) came
    → HaveCome chains (reverse (take (n + 1) steps)) came
come-more chains steps n d came inside come =
    subst (λ past. HaveCome chains past came) (sym (past-more steps n d inside)) come

pub levels-more : (chains : List Chain) (steps : List Step) (n : ℕ) (d : Step) (levels now : List Level) (level : Level)
    → n < length steps → now ≡ levels ++ level ∷ []
    → IsLevelAfter chains (slice_index_or steps n d ∷ reverse (take n steps)) (slice_index_or steps n d) level
    → AreLevels chains (reverse (take n steps)) (reverse levels) → AreLevels chains (reverse (take (n + 1) steps)) (reverse now)
levels-more chains steps n d levels now level inside is here before =
    subst (λ past. AreLevels chains past (reverse now)) (sym (past-more steps n d inside))
    (subst (AreLevels chains (slice_index_or steps n d ∷ reverse (take n steps)))
    (sym (ap (λ (xs : List Level). reverse xs) is ∙ reverse-append levels (level ∷ []))) (here, before))
