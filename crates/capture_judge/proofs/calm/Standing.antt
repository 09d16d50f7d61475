-- How the search stands at its start, after a position, and at its end.
use Rattle.std.proofs.Common.{◌≡◌, ◌≢◌, ◌+◌, ◌<◌, ◌≤◌, inl, inr, ℕ, zero, suc, List, ◌∷◌, [], Some, None, refl, sym, ap, ◌∙◌}
use Rattle.std.proofs.Common.{arith, subst, slice_get, slice_index, length, Bool, true, false, not, ◌&&◌, replicate, reverse}
use Rattle.std.specs.List.{filter, list_all}
use Rattle.std.specs.List.Sorted.{IsStrictlyIncreasing}
use Rattle.std.proofs.lemmas.Bool.{cases_eq, cases_lt, cases_Bool, and_parts, not-true, not_from_false}
use Rattle.std.proofs.lemmas.List.{get_or_default, length-replicate}
use Rattle.std.proofs.lemmas.List.Kept.{AllPairs-from_increasing}
use Rattle.std.proofs.lemmas.Option.{same_Some, slice_get_within}
use Rattle.capture_judge.specs.Placing.{reached, IsPlacement, IsClean, IsCleanUpTo, IsCleanBefore}
use Rattle.capture_judge.specs.Beginnings.{IsBeginning, CanWait}
use Rattle.capture_judge.specs.Verdicts.{IsUnsafe, IsCharged}
use Rattle.capture_judge.specs.Charges.{IsCharge}
use Rattle.capture_judge.specs.Searching.{AreFeasible, IncludesAll, is_late, Leads, IsKept, IsSearch, Closed, StartsAlone}
use Rattle.capture_judge.specs.Searching.{IsBefore, Stands}
use Rattle.capture_judge.proofs.clashes.Completing.{chain_of, completed}
use Rattle.capture_judge.proofs.clashes.Covering.{Covered, follows-same, NoneBetween, before-of, within-of, cover-all, cover-on_time}
use Rattle.capture_judge.proofs.clashes.Covering.{covered-later}
use Rattle.capture_judge.proofs.placings.Filtered.{kept_of, stays, pairs-filter, length-kept}
use Rattle.capture_judge.proofs.clashes.Late.{waits-of}
use Rattle.capture_judge.proofs.placings.Orders.{ordered_of, placement_of, up_to, up_to-begins, up_to-can_wait}
use Rattle.capture_judge.proofs.placings.Places.{element-at}
use Rattle.capture_judge.specs.declared.values.Chain.{Chain}
use Rattle.capture_judge.specs.declared.values.Charge.{Charge}
use Rattle.capture_judge.specs.declared.values.Step.{Step}
use Rattle.capture_judge.specs.declared.ways.Way.{Way}
use Rattle.capture_judge.specs.declared.ways.Ways.{Ways}

-- ---- at the start

zeros : (n i : ℕ) → slice_index (replicate n 0) i ≡ 0
zeros zero i = refl
zeros (suc n) zero = refl
zeros (suc n) (suc i) = zeros n i

none-before : (chains : List Chain) (past : List Step) → IsBefore 0 past → (i : ℕ) → 0 ≡ reached past i
none-before chains [] before i = refl
none-before chains (step ∷ past) before i = absurd (omega (arith, before))

alone-at : (one : Way) (ways : List Way) (n : ℕ) (way : Way) → ways ≡ one ∷ [] → slice_get ways n ≡ Some way
    → (n ≡ 0) × (one ≡ way)
alone-at one ways zero way is at = (refl, same_Some one way (sym (ap (λ (ws : List Way). slice_get ws 0) is) ∙ at))
alone-at one ways (suc n) way is at =
    let never : None ≡ Some way = sym (ap (λ (ws : List Way). slice_get ws (suc n)) is) ∙ at in cc

pub stands-start : (chains : List Chain) (positions : List ℕ) (search : Ways) → IncludesAll positions chains
    → StartsAlone (length chains) search → Stands chains positions 0 search
stands-start chains positions search all start =
    let came : (i : ℕ) → slice_index start.way.came.items i ≡ 0 =
    λ i. ap (λ c. slice_index c i) start.start.came ∙ zeros (length chains) i
    in record {
      bound = 0;
      later = λ j from inside. omega arith;
      lasts = λ i k change last at has order.
          let chain = chain_of chains i k change at
          in let found = all i chain.0 k change last chain.1 chain.2 has
          in (found.0, omega arith, found.1, get_or_default positions found.0 0 last found.1 ∙ found.2);
      kept = λ n way at. subst (λ (w : Way). IsKept chains 0 search.trail.items w) (alone-at start.way search.ways.items n way
          start.alone at).1 (record {
            past = [];
            leads = start.start.link;
            came = came;
            count = ap length start.start.came ∙ length-replicate (length chains) 0;
            is-way = record {
              steps = tt;
              clean = tt;
              within = omega arith;
              waits = λ i k change last from is has. omega arith;
            };
          });
      apart = λ m n way other less at also.
          let one = (alone-at start.way search.ways.items m way start.alone at).0
          in let two = (alone-at start.way search.ways.items n other start.alone also).0
          in absurd (omega (arith, one, two, less));
      few = let one = ap length start.alone in omega (arith, one);
      some = let one = ap length start.alone in omega (arith, one);
      covers = λ past steps clean before waits. (
        0,
        start.way,
        ap (λ (ws : List Way). slice_get ws 0) start.alone,
        follows-same chains 0 (slice_index start.way.came.items) (reached past) (λ i. came i ∙ none-before chains past before i),
      );
    }

-- ---- from one position to the next

pub rises : (positions : List ℕ) (i j : ℕ) → IsStrictlyIncreasing positions → i < j → j < length positions
    → slice_index positions i < slice_index positions j
rises positions i j increasing less inside = AllPairs-from_increasing positions increasing i j 0 less inside

pub none_between : (chains : List Chain) (positions : List ℕ) (next position : ℕ) (search : Ways)
    → (stands : Stands chains positions next search) → IsStrictlyIncreasing positions → next < length positions
    → position ≡ slice_index positions next → NoneBetween chains stands.bound position
none_between chains positions next position search stands increasing inside is i k change last at has from =
    let found = stands.lasts i k change last at has from
    in let end = found.3
    in elim (cases_eq next found.0) as (λ _. position ≤ last) [
      | inl same ↦ let here = ap (slice_index positions) same in omega (arith, is, here, end)
      | inr other ↦ let after = found.1
          in let up = rises positions next found.0 increasing (omega (arith, after, other)) found.2 in omega (arith, is, up, end)
    ]

-- the test of what is kept
abbrev pub on_time : List Chain → ℕ → Way → Bool
on_time chains position way = not (is_late position way.came.items 0 chains)

covers-next : (chains : List Chain) (positions : List ℕ) (next position : ℕ) (old mid : Ways)
    → (stands : Stands chains positions next old) → stands.bound ≤ position → NoneBetween chains stands.bound position
    → Closed chains position old mid → (past : List Step) → IsBeginning chains past → IsClean chains past
    → IsBefore (position + 1) past → CanWait chains (position + 1) past
    → Covered chains (position + 1) (filter (on_time chains position) mid.ways.items) past
covers-next chains positions next position old mid stands order none closed past steps clean before waits =
    let one = cover-on_time chains position old mid past closed clean waits
    (cover-all chains positions next position old mid stands order none closed past steps clean
    (within-of position past before) (λ i k change last from at has.
    let end = waits i k change last from at has in omega (arith, end)))
    in let kept = stays (on_time chains position) mid.ways.items one.0 one.1 one.2
    (not_from_false (is_late position one.1.came.items 0 chains) one.4)
    in covered-later chains position (position + 1) (filter (on_time chains position) mid.ways.items) past (omega arith)
    (kept.0, one.1, kept.1, one.3)

kept-next : (chains : List Chain) (position : ℕ) (mid : Ways) → AreFeasible chains → IsSearch chains position mid
    → (n : ℕ) (way : Way) → slice_get (filter (on_time chains position) mid.ways.items) n ≡ Some way
    → IsKept chains (position + 1) mid.trail.items way
kept-next chains position mid feasible search n way at =
    let one = kept_of (on_time chains position) mid.ways.items n way at
    in let kept = search.kept one.place way one.at
    in record {
      past = kept.past;
      leads = kept.leads;
      came = kept.came;
      count = kept.count;
      is-way = record {
        steps = kept.is-way.steps;
        clean = kept.is-way.clean;
        within = let within = kept.is-way.within in omega (arith, within);
        waits = waits-of chains position way.came.items kept.past feasible kept.came
            (not-true (is_late position way.came.items 0 chains) one.passes);
      };
    }

pub stands-next : (chains : List Chain) (positions : List ℕ) (next position : ℕ) (old mid new : Ways) → AreFeasible chains
    → IsStrictlyIncreasing positions → next < length positions → position ≡ slice_index positions next
    → Stands chains positions next old → Closed chains position old mid
    → new.ways.items ≡ filter (on_time chains position) mid.ways.items → new.trail.items ≡ mid.trail.items
    → 0 < length new.ways.items → Stands chains positions (next + 1) new
stands-next chains positions next position old mid new feasible increasing inside is stands closed ways trail some =
    let none = none_between chains positions next position old stands increasing inside is
    in let low = stands.later next (omega arith) inside
    in record {
      bound = position + 1;
      later = λ j from within. let up = rises positions next j increasing (omega (arith, from)) within in omega (arith, is, up);
      lasts = λ i k change last at has from.
          let found = stands.lasts i k change last at has (omega (arith, low, is, from))
          in let end = found.3 in let after = found.1
          in (
            found.0,
            elim (cases_eq next found.0) as (λ _. next + 1 ≤ found.0) [
              | inl same ↦ let here = ap (slice_index positions) same in absurd (omega (arith, is, here, end, from))
              | inr other ↦ omega (arith, after, other)
            ],
            found.2,
            end,
          );
      kept = λ n way at. subst (λ t. IsKept chains (position + 1) t way) (sym trail)
          (kept-next chains position mid feasible closed.search n way (sym (ap (λ (ws : List Way). slice_get ws n) ways) ∙ at));
      apart = λ m n way other less at also. pairs-filter (λ (x y : Way). x.came.items ≢ y.came.items) (on_time chains position)
          mid.ways.items closed.search.apart m n way other less (sym (ap (λ (ws : List Way). slice_get ws m) ways) ∙ at)
          (sym (ap (λ (ws : List Way). slice_get ws n) ways) ∙ also);
      few = let size = ap length ways in let fewer = length-kept (on_time chains position) mid.ways.items
          in let before = closed.search.few in omega (arith, size, fewer, before);
      some = some;
      covers = λ past steps clean before waits.
          let one = covers-next chains positions next position old mid stands
          (omega (arith, low, is)) none closed past steps clean
          before waits
          in (one.0, one.1, ap (λ (ws : List Way). slice_get ws one.0) ways ∙ one.2, one.3);
    }

-- ---- the verdicts

pub clean-up_to : (chains : List Chain) (position : ℕ) (past : List Step) → IsClean chains past → IsCleanUpTo chains position past
clean-up_to chains position [] clean = tt
clean-up_to chains position (step ∷ past) clean = ((λ within. clean.0), clean-up_to chains position past clean.1)

-- all ways that there are have left out something
pub all-late : (chains : List Chain) (position : ℕ) (ways : List Way)
    → list_all (λ (way : Way). is_late position way.came.items 0 chains) ways ≡ true
    → filter (on_time chains position) ways ≡ []
all-late chains position [] late = refl
all-late chains position (way ∷ ways) late =
    let both = and_parts (is_late position way.came.items 0 chains)
    (list_all (λ (one : Way). is_late position one.came.items 0 chains) ways) late
    in let rest = all-late chains position ways both.1
    in rw both.0 rest

else-false : (a b : Bool) → a ≡ true → a && b ≡ false → b ≡ false
else-false a b is none = rw is at none

pub one-on_time : (chains : List Chain) (position : ℕ) (ways : List Way)
    → list_all (λ (way : Way). is_late position way.came.items 0 chains) ways ≡ false
    → 0 < length (filter (on_time chains position) ways)
one-on_time chains position [] none = cc
one-on_time chains position (way ∷ ways) none = elim (cases_Bool (is_late position way.came.items 0 chains))
    as (λ _. 0 < length (filter (on_time chains position) (way ∷ ways))) [
      | inl late ↦ let rest = one-on_time chains position ways (else-false (is_late position way.came.items 0 chains)
          (list_all (λ (one : Way). is_late position one.came.items 0 chains) ways) late none) in rw late rest
      | inr time ↦ rw time (omega arith)
    ]

pub unsafe-at : (chains : List Chain) (positions : List ℕ) (next position : ℕ) (old mid : Ways) → AreFeasible chains
    → IsStrictlyIncreasing positions → next < length positions → position ≡ slice_index positions next
    → Stands chains positions next old → Closed chains position old mid
    → filter (on_time chains position) mid.ways.items ≡ [] → IsUnsafe chains position
unsafe-at chains positions next position old mid feasible increasing inside is stands closed empty =
    let none = none_between chains positions next position old stands increasing inside is
    in let low = stands.later next (omega arith) inside
    in let first = element-at old.ways.items 0 stands.some
    in let kept = stands.kept 0 first.0 first.1
    in let within = kept.is-way.within
    in let whole = completed chains position kept.past feasible kept.is-way.steps (omega (arith, within, low, is))
    (λ i k change last from at has. none i k change last at has (kept.is-way.waits i k change last from at has))
    in record {
      placed = (whole.whole, whole.placed);
      unclean = λ past placement clean.
          let begins = up_to-begins chains position past (ordered_of chains past placement) clean
          in let one = covers-next chains positions next position old mid stands (omega (arith, low, is)) none closed
          (up_to position past) begins.steps begins.clean (before-of position (up_to position past) begins.within)
          (up_to-can_wait chains position past placement)
          in let place = slice_get_within (filter (on_time chains position) mid.ways.items) one.0 one.1 one.2
          in let size = ap length empty in omega (arith, place, size);
      first = λ earlier before. (
        whole.whole,
        whole.placed,
        whole.clean earlier before (clean-up_to chains earlier kept.past kept.is-way.clean),
      );
    }

-- a search that stands has a way, and keeps it while it grows
pub has-way : (chains : List Chain) (positions : List ℕ) (next position : ℕ) (old mid : Ways) → Stands chains positions next old
    → Closed chains position old mid → 0 < length mid.ways.items
has-way chains positions next position old mid stands closed =
    let first = element-at old.ways.items 0 stands.some
    in slice_get_within mid.ways.items 0 first.0 (closed.grows 0 first.0 first.1)

pub charged-at : (chains : List Chain) (position : ℕ) (charge : Charge) → IsUnsafe chains position
    → IsCharge chains position charge
    → IsCharged chains charge
charged-at chains position charge unsafe is = record {
  unsafe = subst (IsUnsafe chains) (sym is.position-is) unsafe;
  placed = is.placed;
  clean = subst (λ n. IsCleanBefore chains n (reverse charge.steps.items)) (sym is.position-is) is.clean;
}

-- at the end nothing is left that must happen
pub clean-at : (chains : List Chain) (positions : List ℕ) (next : ℕ) (search : Ways) → length positions ≤ next
    → Stands chains positions next search → (way : Way) → slice_get search.ways.items 0 ≡ Some way
    → (past : List Step) × Leads search.trail.items way.link past × IsPlacement chains past × IsClean chains past
clean-at chains positions next search all stands way at =
    let kept = stands.kept 0 way at
    in (
      kept.past,
      kept.leads,
      placement_of chains kept.past kept.is-way.steps (λ i k change last is has.
          elim (cases_lt k (reached kept.past i)) as (λ _. k < reached kept.past i) [
            | inl passed ↦ passed
            | inr left ↦
                let found = stands.lasts i k change last is has (kept.is-way.waits i k change last left is has)
                in let from = found.1 in let inside = found.2 in absurd (omega (arith, from, inside, all))
          ]),
      kept.is-way.clean,
    )
