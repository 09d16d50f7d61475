-- What is right of the worked examples.
use Rattle.std.proofs.Common.{◌≡◌, ◌+◌, ◌<◌, ◌≤◌, ℕ, zero, suc, List, ◌∷◌, [], Option, Some, None, refl, sym, ap, ◌∙◌, inl}
use Rattle.std.proofs.Common.{inr}
use Rattle.std.proofs.Common.{arith, subst, slice_get, length, map, true}
use Rattle.std.specs.Option.{option_map}
use Rattle.std.proofs.lemmas.List.{length-map}
use Rattle.std.proofs.lemmas.Bool.{cases_eq, cases_lt}
use Rattle.std.proofs.lemmas.Option.{same_Some, slice_get-map, slice_get_within}
use Rattle.capture_judge.specs.Placing.{change_at, change_of, level_of, level_at, reached, IsWithinBounds, Precedes}
use Rattle.capture_judge.specs.Placing.{is_placed, IsPlacement, IsClean, IsCleanUpTo, IsCalm}
use Rattle.capture_judge.specs.Beginnings.{newest, IsBeginning}
use Rattle.capture_judge.specs.Searching.{AreApart}
use Rattle.capture_judge.specs.Worked.{shown, certain, doubtful, at, lowered, lowered_steps, LoweredIsClean}
use Rattle.capture_judge.specs.Worked.{hurried, HurriedIsUnsafe, left_out, left_out_steps, LeftOutIsClean}
use Rattle.capture_judge.specs.Worked.{reversed, ReversedIsContradictory}
use Rattle.capture_judge.specs.declared.values.Level.TheVariants.{Nothing, Something, Writes}
use Rattle.capture_judge.specs.declared.values.Change.{Change}
use Rattle.capture_judge.specs.declared.values.Chain.{Chain}
use Rattle.capture_judge.specs.declared.values.Step.{Step}
use Rattle.capture_judge.proofs.calm.Calm.{calm_from_apart, apart_from_calm}
use Rattle.capture_judge.proofs.clashes.Completing.{chain_of}
use Rattle.capture_judge.proofs.placings.Feasible.{no_placement}
use Rattle.capture_judge.proofs.placings.Orders.{reached-same, reached-other, within-first, ordered_of, up_to, up_to-begins}
use Rattle.capture_judge.proofs.placings.Orders.{up_to-can_wait}

-- ---- chains that are shown

abbrev in_shown : Option (ℕ × List Change) → ℕ → Option Change
in_shown None k = None
in_shown (Some chain) k = slice_get chain.1 k

at-shown : (chain : Option Chain) (k : ℕ) → change_at chain k ≡ in_shown (option_map shown chain) k
at-shown None k = refl
at-shown (Some chain) k = refl

-- the changes of chains are those that are shown
change-shown : (chains : List Chain) (given : List (ℕ × List Change)) → map shown chains ≡ given → (i k : ℕ)
    → change_of chains i k ≡ in_shown (slice_get given i) k
unfolding change_of
change-shown chains given is i k = at-shown (slice_get chains i) k
    ∙ (ap (λ c. in_shown c k) (sym (slice_get-map shown chains i))
    ∙ ap (λ (g : List (ℕ × List Change)). in_shown (slice_get g i) k) is)

count-shown : (chains : List Chain) (given : List (ℕ × List Change)) → map shown chains ≡ given → length chains ≡ length given
count-shown chains given is = sym (length-map chains shown) ∙ ap length is

-- two chains are apart where their levels go together
two_apart : (chains : List Chain) (came : ℕ → ℕ) → length chains ≡ 2
    → level_at chains 0 (came 0) + level_at chains 1 (came 1) < 3 → AreApart chains came
two_apart chains came two low zero zero chain other at also differ =
    absurd (differ (ap (λ (c : Chain). c.client) (same_Some chain other (sym at ∙ also))))
two_apart chains came two low zero (suc zero) chain other at also differ = low
two_apart chains came two low (suc zero) zero chain other at also differ = omega (arith, low)
two_apart chains came two low (suc zero) (suc zero) chain other at also differ =
    absurd (differ (ap (λ (c : Chain). c.client) (same_Some chain other (sym at ∙ also))))
two_apart chains came two low (suc (suc i)) j chain other at also differ =
    let inside = slice_get_within chains (suc (suc i)) chain at in absurd (omega (arith, inside, two))
two_apart chains came two low i (suc (suc j)) chain other at also differ =
    let inside = slice_get_within chains (suc (suc j)) other also in absurd (omega (arith, inside, two))

within_certain : (chains : List Chain) (step : Step) (change : Change) (end : ℕ)
    → change_of chains step.chain step.change ≡ Some change → change.last ≡ Some end → change.first ≤ step.position
    → step.position ≤ end → IsWithinBounds chains step
within_certain chains step change end is has first last = record {
  change = change;
  is = is;
  first = first;
  last = λ other also. let same = same_Some end other (sym has ∙ also) in omega (arith, last, same);
}

calm_two : (chains : List Chain) (past : List Step) (a b : ℕ) → length chains ≡ 2 → level_at chains 0 (reached past 0) ≡ a
    → level_at chains 1 (reached past 1) ≡ b → a + b < 3 → IsCalm chains past
calm_two chains past a b two one other low =
    calm_from_apart chains past (two_apart chains (reached past) two (omega (arith, one, other, low)))

precedes : (step earlier : Step) → earlier.position ≤ step.position → (earlier.chain ≡ step.chain → earlier.change < step.change)
    → Precedes step earlier
precedes step earlier position change = record { position = position; change = change }

-- ---- a lease that may have been lowered in time

lowered-certain : (i k : ℕ) (change : Change) (last : ℕ) → in_shown (slice_get lowered i) k ≡ Some change
    → change.last ≡ Some last → is_placed i k lowered_steps ≡ true
lowered-certain zero zero change last is has = refl
lowered-certain zero (suc zero) change last is has = refl
lowered-certain zero (suc (suc k)) change last is has = cc
lowered-certain (suc zero) zero change last is has = refl
lowered-certain (suc zero) (suc k) change last is has = cc
lowered-certain (suc (suc i)) k change last is has = cc

pub lowered-clean : LoweredIsClean
lowered-clean chains is =
    let shows = change-shown chains lowered is
    in let first = shows 0 0
    in let second = shows 0 1
    in let third = shows 1 0
    in let two = count-shown chains lowered is
    in (
      record {
        bounds = (
          within_certain chains (at 8 1 0) _ 8 third refl (omega arith) (omega arith),
          (
            record { change = _; is = second; first = omega arith; last = λ other also. absurd (grind (arith, also)) },
            (within_certain chains (at 2 0 0) _ 2 first refl (omega arith) (omega arith), tt),
          ),
        );
        order = (
          (
            precedes (at 8 1 0) (at 2 0 1) (omega arith) (λ same. omega (arith, same)),
            (precedes (at 8 1 0) (at 2 0 0) (omega arith) (λ same. omega (arith, same)), tt),
          ),
          ((precedes (at 2 0 1) (at 2 0 0) (omega arith) (λ same. omega arith), tt), (tt, tt)),
        );
        certain = λ i k change last here has. lowered-certain i k change last (sym (shows i k) ∙ here) has;
      },
      (
        calm_two chains lowered_steps 1 1 two (ap level_of second) (ap level_of third) (omega arith),
        (
          calm_two chains (at 2 0 1 ∷ at 2 0 0 ∷ []) 1 0 two (ap level_of second) refl (omega arith),
          (calm_two chains (at 2 0 0 ∷ []) 2 0 two (ap level_of first) refl (omega arith), tt),
        ),
      ),
    )

-- ---- a doubtful change that is left out

left_out-certain : (i k : ℕ) (change : Change) (last : ℕ) → in_shown (slice_get left_out i) k ≡ Some change
    → change.last ≡ Some last → is_placed i k left_out_steps ≡ true
left_out-certain zero zero change last is has = refl
left_out-certain zero (suc zero) change last is has =
    absurd (grind (arith, same_Some (doubtful Nothing 6) change is, has))
left_out-certain zero (suc (suc zero)) change last is has = refl
left_out-certain zero (suc (suc (suc k))) change last is has = cc
left_out-certain (suc zero) zero change last is has = refl
left_out-certain (suc zero) (suc k) change last is has = cc
left_out-certain (suc (suc i)) k change last is has = cc

pub left_out-clean : LeftOutIsClean
left_out-clean chains is =
    let shows = change-shown chains left_out is
    in let first = shows 0 0
    in let second = shows 0 2
    in let third = shows 1 0
    in let two = count-shown chains left_out is
    in (
      record {
        bounds = (
          within_certain chains (at 5 1 0) _ 5 third refl (omega arith) (omega arith),
          (
            within_certain chains (at 5 0 2) _ 6 second refl (omega arith) (omega arith),
            (within_certain chains (at 2 0 0) _ 2 first refl (omega arith) (omega arith), tt),
          ),
        );
        order = (
          (
            precedes (at 5 1 0) (at 5 0 2) (omega arith) (λ same. omega (arith, same)),
            (precedes (at 5 1 0) (at 2 0 0) (omega arith) (λ same. omega (arith, same)), tt),
          ),
          ((precedes (at 5 0 2) (at 2 0 0) (omega arith) (λ same. omega arith), tt), (tt, tt)),
        );
        certain = λ i k change last here has. left_out-certain i k change last (sym (shows i k) ∙ here) has;
      },
      (
        calm_two chains left_out_steps 0 1 two (ap level_of second) (ap level_of third) (omega arith),
        (
          calm_two chains (at 5 0 2 ∷ at 2 0 0 ∷ []) 0 0 two (ap level_of second) refl (omega arith),
          (calm_two chains (at 2 0 0 ∷ []) 2 0 two (ap level_of first) refl (omega arith), tt),
        ),
      ),
    )

-- ---- changes that come in no order

pub reversed-contradictory : ReversedIsContradictory
reversed-contradictory chains is =
    let shows = change-shown chains reversed is
    in let one = chain_of chains 0 0 (certain Writes 5 9) (shows 0 0)
    in let two = chain_of chains 0 1 (certain Nothing 1 4) (shows 0 1)
    in no_placement chains (
      0,
      one.0,
      one.1,
      record {
        i = 0;
        j = 1;
        change = certain Writes 5 9;
        other = certain Nothing 1 4;
        last = 9;
        end = 4;
        order = omega arith;
        at = one.2;
        has = refl;
        also-at = subst (λ (c : Chain). slice_get c.changes.items 1 ≡ Some (certain Nothing 1 4))
            (same_Some two.0 one.0 (sym two.1 ∙ one.1)) two.2;
        also-has = refl;
        late = omega arith;
      },
    )

-- ---- a change that is hurried by the one after it

abbrev hurried_steps : List Step
hurried_steps = at 3 1 1 ∷ at 1 1 0 ∷ at 1 0 1 ∷ at 1 0 0 ∷ []

hurried-certain : (i k : ℕ) (change : Change) (last : ℕ) → in_shown (slice_get hurried i) k ≡ Some change
    → change.last ≡ Some last → is_placed i k hurried_steps ≡ true
hurried-certain zero zero change last is has = refl
hurried-certain zero (suc zero) change last is has = refl
hurried-certain zero (suc (suc k)) change last is has = cc
hurried-certain (suc zero) zero change last is has = refl
hurried-certain (suc zero) (suc zero) change last is has = refl
hurried-certain (suc zero) (suc (suc k)) change last is has = cc
hurried-certain (suc (suc i)) k change last is has = cc

hurried-placed : (chains : List Chain) → map shown chains ≡ hurried → IsPlacement chains hurried_steps
hurried-placed chains is =
    let shows = change-shown chains hurried is
    in let first = shows 0 0
    in let second = shows 0 1
    in let third = shows 1 0
    in let fourth = shows 1 1
    in record {
      bounds = (
        within_certain chains (at 3 1 1) _ 3 fourth refl (omega arith) (omega arith),
        (
          within_certain chains (at 1 1 0) _ 1 third refl (omega arith) (omega arith),
          (
            within_certain chains (at 1 0 1) _ 1 second refl (omega arith) (omega arith),
            (within_certain chains (at 1 0 0) _ 3 first refl (omega arith) (omega arith), tt),
          ),
        ),
      );
      order = (
        (
          precedes (at 3 1 1) (at 1 1 0) (omega arith) (λ same. omega arith),
          (
            precedes (at 3 1 1) (at 1 0 1) (omega arith) (λ same. omega (arith, same)),
            (precedes (at 3 1 1) (at 1 0 0) (omega arith) (λ same. omega (arith, same)), tt),
          ),
        ),
        (
          (
            precedes (at 1 1 0) (at 1 0 1) (omega arith) (λ same. omega (arith, same)),
            (precedes (at 1 1 0) (at 1 0 0) (omega arith) (λ same. omega (arith, same)), tt),
          ),
          ((precedes (at 1 0 1) (at 1 0 0) (omega arith) (λ same. omega arith), tt), (tt, tt)),
        ),
      );
      certain = λ i k change last here has. hurried-certain i k change last (sym (shows i k) ∙ here) has;
    }

-- where a chain has come to a change, that begins no later than the last step
begun : (chains : List Chain) (past : List Step) (i k : ℕ) (change : Change) → IsBeginning chains past
    → reached past i ≡ suc k → change_of chains i k ≡ Some change → change.first ≤ newest past
begun chains [] i k change steps far at = absurd (omega (arith, far))
begun chains (step ∷ past) i k change steps far at = elim (cases_eq step.chain i) as (λ _. change.first ≤ step.position) [
  | inl same ↦ let here = reached-same step past i same
      in within-first chains step steps.0.bounds i k change same (omega (arith, far, here)) at
  | inr other ↦ let there = reached-other step past i other
      in let low = begun chains past i k change steps.2 (there_is step past i k there far) at
      in let order = steps.1 in omega (arith, low, order)
] where
  there_is : (step : Step) (past : List Step) (i k : ℕ) → reached (step ∷ past) i ≡ reached past i
      → reached (step ∷ past) i ≡ suc k → reached past i ≡ suc k
  there_is step past i k one two = sym one ∙ two

come_so_far : (chains : List Chain) (past : List Step) (i n : ℕ) → IsBeginning chains past
    → ((k : ℕ) → n ≤ k → change_of chains i k ≡ None) → reached past i ≤ n
come_so_far chains [] i n steps none = omega arith
come_so_far chains (step ∷ past) i n steps none = elim (cases_eq step.chain i) as (λ _. reached (step ∷ past) i ≤ n) [
  | inl same ↦ let here = reached-same step past i same in elim (cases_lt step.change n) as (λ _. reached (step ∷ past) i ≤ n) [
    | inl inside ↦ omega (arith, here, inside)
    | inr beyond ↦ let never = none step.change beyond
        in let is = subst (λ m. change_of chains m step.change ≡ Some steps.0.bounds.change) same steps.0.bounds.is
        in absurd (grind (arith, never, is))
  ]
  | inr other ↦ let there = reached-other step past i other in let rest = come_so_far chains past i n steps.2 none
      in omega (arith, there, rest)
]

hurried-none : (k : ℕ) → 2 ≤ k → in_shown (slice_get hurried 0) k ≡ None
hurried-none zero from = absurd (omega (arith, from))
hurried-none (suc zero) from = absurd (omega (arith, from))
hurried-none (suc (suc k)) from = refl

hurried-none-also : (k : ℕ) → 2 ≤ k → in_shown (slice_get hurried 1) k ≡ None
hurried-none-also zero from = absurd (omega (arith, from))
hurried-none-also (suc zero) from = absurd (omega (arith, from))
hurried-none-also (suc (suc k)) from = refl

client-shown : (chains : List Chain) (given : List (ℕ × List Change)) → map shown chains ≡ given → (i : ℕ) (chain : Chain)
    (one : ℕ × List Change) → slice_get chains i ≡ Some chain → slice_get given i ≡ Some one → chain.client ≡ one.0
client-shown chains given is i chain one here there =
    let shows : Some (shown chain) ≡ Some one = sym (ap (λ c. option_map shown c) here)
    ∙ (sym (slice_get-map shown chains i) ∙ (ap (λ (g : List (ℕ × List Change)). slice_get g i) is ∙ there))
    in ap (λ (c : ℕ × List Change). c.0) (same_Some (shown chain) one shows)

calm-of : (chains : List Chain) (past : List Step) → IsClean chains past → 1 ≤ reached past 0 → IsCalm chains past
calm-of chains [] clean far = absurd (omega (arith, far))
calm-of chains (step ∷ past) clean far = clean.0

hurried-clash : (chains : List Chain) → map shown chains ≡ hurried → (past : List Step) → IsPlacement chains past
    → IsCleanUpTo chains 1 past → ⊥
hurried-clash chains is past placement clean =
    let shows = change-shown chains hurried is
    in let begins = up_to-begins chains 1 past (ordered_of chains past placement) clean
    in let waits = up_to-can_wait chains 1 past placement
    in let early = up_to 1 past
    in let writer : reached early 0 ≡ 2 =
    let low = come_so_far chains early 0 2 begins.steps (λ k from. shows 0 k ∙ hurried-none k from)
    in elim (cases_lt (reached early 0) 2) as (λ _. reached early 0 ≡ 2) [
      | inl less ↦ let late = waits 0 1 (certain Writes 1 1) 1 (omega (arith, less)) (shows 0 1) refl
          in absurd (omega (arith, late))
      | inr more ↦ omega (arith, low, more)
    ]
    in let reader : reached early 1 ≡ 1 =
    let low = come_so_far chains early 1 2 begins.steps (λ k from. shows 1 k ∙ hurried-none-also k from)
    in let within = begins.within
    in elim (cases_lt (reached early 1) 1) as (λ _. reached early 1 ≡ 1) [
      | inl less ↦ let late = waits 1 0 (certain Something 1 1) 1 (omega (arith, less)) (shows 1 0) refl
          in absurd (omega (arith, late))
      | inr more ↦ elim (cases_eq (reached early 1) 2) as (λ _. reached early 1 ≡ 1) [
        | inl both ↦ let first = begun chains early 1 1 (certain Nothing 3 3) begins.steps both (shows 1 1)
            in absurd (omega (arith, first, within))
        | inr other ↦ omega (arith, low, more, other)
      ]
    ]
    in let a = chain_of chains 0 0 (certain Writes 1 3) (shows 0 0)
    in let b = chain_of chains 1 0 (certain Something 1 1) (shows 1 0)
    in let one = client-shown chains hurried is 0 a.0 _ a.1 refl
    in let two = client-shown chains hurried is 1 b.0 _ b.1 refl
    in let apart = apart_from_calm chains early (calm-of chains early begins.clean (omega (arith, writer)))
    in let low = apart 0 1 a.0 b.0 a.1 b.1 (λ same. omega (arith, one, two, same))
    in let high = ap (level_at chains 0) writer ∙ ap level_of (shows 0 1)
    in let some = ap (level_at chains 1) reader ∙ ap level_of (shows 1 0)
    in omega (arith, low, high, some)

pub hurried-unsafe : HurriedIsUnsafe
hurried-unsafe chains is = record {
  placed = (hurried_steps, hurried-placed chains is);
  unclean = hurried-clash chains is;
  first = λ earlier before. (
    hurried_steps,
    hurried-placed chains is,
    (
      (λ low. absurd (omega (arith, low, before))),
      (
        (λ low. absurd (omega (arith, low, before))),
        ((λ low. absurd (omega (arith, low, before))), ((λ low. absurd (omega (arith, low, before))), tt)),
      ),
    ),
  );
}
