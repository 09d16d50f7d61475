-- Ways that are kept, one more of them, and too many.
use Rattle.std.proofs.Common.{◌≡◌, ◌≢◌, ◌+◌, ◌<◌, ◌≤◌, inl, inr, ℕ, zero, suc, List, ◌∷◌, [], ◌++◌, Some, refl, sym, ap, ◌∙◌}
use Rattle.std.proofs.Common.{arith, subst, slice_get, slice_index, length, get_or-set_same, get_or-set_other, length-set}
use Rattle.std.specs.List.{AllByRecursion}
use Rattle.std.proofs.lemmas.Bool.{cases_eq}
use Rattle.std.proofs.lemmas.List.{length_push}
use Rattle.std.proofs.lemmas.Option.{slice_get_within}
use Rattle.capture_judge.specs.Placing.{level_at, reached}
use Rattle.capture_judge.specs.Beginnings.{MayTake, IsWay, Differ, AllDiffer, IsCrowded}
use Rattle.capture_judge.specs.Searching.{AreApart, Leads, IsKept, IsSearch, Has, after, MayKeep, Keeps}
use Rattle.capture_judge.proofs.calm.Calm.{calm_from_apart}
use Rattle.capture_judge.proofs.clashes.Completing.{inside-may}
use Rattle.capture_judge.proofs.placings.Orders.{reached-same, reached-other, reached-passed}
use Rattle.capture_judge.proofs.placings.Places.{push-old, push-new, push-cases}
use Rattle.capture_judge.specs.declared.values.Chain.{Chain}
use Rattle.capture_judge.specs.declared.values.Step.{Step}
use Rattle.capture_judge.specs.declared.ways.Link.{Link}
use Rattle.capture_judge.specs.declared.ways.Way.{Way}
use Rattle.capture_judge.specs.declared.ways.Ways.{Ways}
use Rattle.capture_judge.specs.declared.ways.TheConstants.{WAY_LIMIT}

-- ---- the trail

pub leads-more : (trail : List Link) (link : Link) (count : ℕ) (past : List Step) → Leads trail count past
    → Leads (trail ++ link ∷ []) count past
leads-more trail link count [] leads = leads
leads-more trail link count (step ∷ past) leads = (
  leads.0,
  leads.1,
  leads.2,
  push-old trail link leads.0 leads.1 leads.3,
  leads.4,
  leads.5,
  leads-more trail link leads.1.before past leads.6,
)

pub leads-bound : (trail : List Link) (count : ℕ) (past : List Step) → Leads trail count past → count ≤ length trail
leads-bound trail count [] leads = omega (arith, leads)
leads-bound trail count (step ∷ past) leads =
    let inside = slice_get_within trail leads.0 leads.1 leads.3 in let is = leads.2 in omega (arith, inside, is)

-- ---- how far chains have come

pub after-is : (came : List ℕ) (step : Step) (past : List Step) → step.chain < length came
    → ((i : ℕ) → slice_index came i ≡ reached past i) → (i : ℕ) → slice_index (after came step) i ≡ reached (step ∷ past) i
after-is came step past inside is i = elim (cases_eq step.chain i) as
    (λ _. slice_index (after came step) i ≡ reached (step ∷ past) i) [
      | inl same ↦ subst (λ n. slice_index (after came step) n ≡ reached (step ∷ past) n) same
          (get_or-set_same came step.chain (step.change + 1) 0 inside ∙ sym (reached-same step past step.chain refl))
      | inr other ↦ get_or-set_other came step.chain i (step.change + 1) 0 (λ same. other (sym same)) ∙ is i
          ∙ sym (reached-other step past i other)
    ]

pub apart-same : (chains : List Chain) (f g : ℕ → ℕ) → ((i : ℕ) → f i ≡ g i) → AreApart chains f → AreApart chains g
apart-same chains f g same apart i j chain other at also-at differ =
    let low = apart i j chain other at also-at differ
    in let one = ap (level_at chains i) (same i)
    in let two = ap (level_at chains j) (same j)
    in omega (arith, low, one, two)

-- ---- a way more

kept-more : (chains : List Chain) (position : ℕ) (trail : List Link) (link : Link) (way : Way) → IsKept chains position trail way
    → IsKept chains position (trail ++ link ∷ []) way
kept-more chains position trail link way kept = record {
  past = kept.past;
  leads = leads-more trail link way.link kept.past kept.leads;
  came = kept.came;
  count = kept.count;
  is-way = kept.is-way;
}

pub way-more : (chains : List Chain) (step : Step) (past : List Step) (came : List ℕ) → IsWay chains step.position past
    → length came ≡ length chains → step.chain < length chains → ((i : ℕ) → slice_index came i ≡ reached past i)
    → MayTake chains (slice_index came step.chain) step → AreApart chains (slice_index (after came step))
    → IsWay chains step.position (step ∷ past)
way-more chains step past came way count inside is may apart =
    let here : MayTake chains (reached past step.chain) step = subst (λ n. MayTake chains n step) (is step.chain) may
    in record {
      steps = (here, way.within, way.steps);
      clean = (
        calm_from_apart chains (step ∷ past) (apart-same chains (slice_index (after came step)) (reached (step ∷ past))
            (after-is came step past (omega (arith, inside, count)) is) apart),
        way.clean,
      );
      within = omega arith;
      waits = λ i k change last from at has.
          let far = reached-passed chains step past here i in way.waits i k change last (omega (arith, far, from)) at has;
    }

kept-new : (chains : List Chain) (trail : List Link) (from new : Way) (step : Step) (before : ℕ)
    → IsKept chains step.position trail from → MayTake chains (slice_index from.came.items step.chain) step
    → new.came.items ≡ after from.came.items step → AreApart chains (slice_index (after from.came.items step))
    → before ≡ from.link → new.link ≡ suc (length trail)
    → IsKept chains step.position (trail ++ record { step = step; before = before } ∷ []) new
kept-new chains trail from new step before kept may came apart link-is new-is =
    let inside = inside-may chains (slice_index from.came.items step.chain) step may
    in let count = kept.count
    in let bound = leads-bound trail from.link kept.past kept.leads
    in let leads = leads-more trail (record { step = step; before = before }) from.link kept.past kept.leads
    in record {
      past = step ∷ kept.past;
      leads = (
        length trail,
        record { step = step; before = before },
        new-is,
        push-new trail (record { step = step; before = before }),
        refl,
        omega (arith, link-is, bound),
        subst (λ n. Leads (trail ++ record { step = step; before = before } ∷ []) n kept.past) (sym link-is) leads,
      );
      came = λ i. ap (λ c. slice_index c i) came
          ∙ after-is from.came.items step kept.past (omega (arith, inside, count)) kept.came i;
      count = ap length came ∙ length-set from.came.items step.chain (step.change + 1) ∙ count;
      is-way = way-more chains step kept.past from.came.items kept.is-way count inside kept.came may apart;
    }

apart-new : (ways : List Way) (came : List ℕ) (one : Way) → one.came.items ≡ came → (Has ways came → ⊥)
    → ((m n : ℕ) (way other : Way) → m < n → slice_get ways m ≡ Some way → slice_get ways n ≡ Some other
    → way.came.items ≢ other.came.items)
    → (m n : ℕ) (way other : Way) → m < n → slice_get (ways ++ one ∷ []) m ≡ Some way
    → slice_get (ways ++ one ∷ []) n ≡ Some other
    → way.came.items ≢ other.came.items
apart-new ways came one is new before m n way other less at also same = elim (push-cases ways one n other also) as (λ _. ⊥) [
  | inl old ↦ elim (push-cases ways one m way at) as (λ _. ⊥) [
    | inl also-old ↦ before m n way other less also-old old same
    | inr here ↦ let inside = slice_get_within ways n other old in let place = here.0 in omega (arith, inside, place, less)
  ]
  | inr there ↦ elim (push-cases ways one m way at) as (λ _. ⊥) [
    | inl old ↦ new (m, way, old, same ∙ sym (ap (λ (w : Way). w.came.items) there.1) ∙ is)
    | inr here ↦ let place = here.0 in let last = there.0 in omega (arith, place, last, less)
  ]
]

pub keeps : (chains : List Chain) (old new : Ways) (way : ℕ) (step : Step) (came : List ℕ) (one : Way) (before : ℕ)
    → IsSearch chains step.position old → (may : MayKeep chains old way step came) → length old.ways.items < WAY_LIMIT
    → before ≡ may.from.link → new.trail.items ≡ old.trail.items ++ record { step = step; before = before } ∷ []
    → new.ways.items ≡ old.ways.items ++ one ∷ [] → one.came.items ≡ came → one.link ≡ suc (length old.trail.items)
    → Keeps chains step.position old new came
keeps chains old new way step came one before search may room link-is trail-is ways-is came-is new-is =
    let kept = search.kept way may.from may.at
    in let here = kept-new chains old.trail.items may.from one step before kept may.may (came-is ∙ may.leads)
    (apart-same chains (slice_index came) (slice_index (after may.from.came.items step))
    (λ i. ap (λ c. slice_index c i) may.leads) may.apart) link-is new-is
    in record {
      search = record {
        kept = λ n w at. elim (push-cases old.ways.items one n w (sym (ap (λ ws. slice_get ws n) ways-is) ∙ at))
            as (λ _. IsKept chains step.position new.trail.items w) [
              | inl before-it ↦ rw trail-is
                  (kept-more chains step.position old.trail.items (record { step = step; before = before }) w
                  (search.kept n w before-it))
              | inr last ↦ rw trail-is (subst (λ (x : Way). IsKept chains step.position
                  (old.trail.items ++ record { step = step; before = before } ∷ []) x) last.1 here)
            ];
        apart = λ m n w v less at also. apart-new old.ways.items came one came-is may.new search.apart m n w v less
            (sym (ap (λ ws. slice_get ws m) ways-is) ∙ at) (sym (ap (λ ws. slice_get ws n) ways-is) ∙ also);
        few = let size = ap length ways-is ∙ length_push old.ways.items one in omega (arith, size, room);
      };
      grows = λ n w at. ap (λ ws. slice_get ws n) ways-is ∙ push-old old.ways.items one n w at;
      has = (
        length old.ways.items,
        one,
        ap (λ ws. slice_get ws (length old.ways.items)) ways-is ∙ push-new old.ways.items one,
        came-is,
      );
    }

-- ---- too many

lists-differ : (xs ys : List ℕ) → length xs ≡ length ys → (xs ≡ ys → ⊥) → (i : ℕ) × (slice_index xs i ≡ slice_index ys i → ⊥)
lists-differ [] [] same differ = absurd (differ refl)
lists-differ [] (y ∷ ys) same differ = absurd (omega (arith, same))
lists-differ (x ∷ xs) [] same differ = absurd (omega (arith, same))
lists-differ (x ∷ xs) (y ∷ ys) same differ = elim (cases_eq x y)
    as (λ _. (i : ℕ) × (slice_index (x ∷ xs) i ≡ slice_index (y ∷ ys) i → ⊥)) [
      | inl head ↦ let rest = lists-differ xs ys (omega (arith, same)) (λ tail. differ (cc (head, tail)))
          in (suc rest.0, rest.1)
      | inr head ↦ (zero, head)
    ]

-- the way has come as far as the steps
abbrev pub CameBy : List Chain → List Way → List Step → Type 0
CameBy chains ways past = (n : ℕ) × (way : Way) × (slice_get ways n ≡ Some way)
    × ((i : ℕ) → slice_index way.came.items i ≡ reached past i) × (length way.came.items ≡ length chains)

each-weaker : {X : Type 0} (P Q : X → Type 0) → ((x : X) → P x → Q x) → (xs : List X) → AllByRecursion P xs → AllByRecursion Q xs
each-weaker P Q weaker [] all = tt
each-weaker P Q weaker (x ∷ xs) all = (weaker x all.0, each-weaker P Q weaker xs all.1)

differ-by : (came other : List ℕ) (past before : List Step) → length came ≡ length other
    → ((i : ℕ) → slice_index came i ≡ reached past i) → ((i : ℕ) → slice_index other i ≡ reached before i)
    → (came ≡ other → ⊥) → Differ past before
differ-by came other past before count is also differ =
    let found = lists-differ came other count differ
    in (found.0, λ same. found.1 (is found.0 ∙ same ∙ sym (also found.0)))

record Crowd (chains : List Chain) (position : ℕ) (ways : List Way) : Type 0 where
  pub pasts : List (List Step)
  pub each : AllByRecursion (IsWay chains position) pasts
  pub apart : AllDiffer pasts
  pub of : AllByRecursion (CameBy chains ways) pasts
  pub many : length pasts ≡ length ways

crowd : (chains : List Chain) (position : ℕ) (trail : List Link) (ways : List Way)
    → ((n : ℕ) (way : Way) → slice_get ways n ≡ Some way → IsKept chains position trail way)
    → ((m n : ℕ) (way other : Way) → m < n → slice_get ways m ≡ Some way → slice_get ways n ≡ Some other
    → way.came.items ≢ other.came.items) → Crowd chains position ways
crowd chains position trail [] kept apart = record { pasts = []; each = tt; apart = tt; of = tt; many = refl }
crowd chains position trail (way ∷ ways) kept apart =
    let rest = crowd chains position trail ways (λ n w at. kept (suc n) w at)
    (λ m n w v less at also. apart (suc m) (suc n) w v (omega (arith, less)) at also)
    in let here = kept zero way refl
    in let same = rest.many
    in record {
      pasts = here.past ∷ rest.pasts;
      each = (here.is-way, rest.each);
      apart = (
        each-weaker (CameBy chains ways) (Differ here.past)
            (λ past by. differ-by way.came.items by.1.came.items here.past past (here.count ∙ sym by.4) here.came by.3
            (apart zero (suc by.0) way by.1 (omega arith) refl by.2)) rest.pasts rest.of,
        rest.apart,
      );
      of = (
        (zero, way, refl, here.came, here.count),
        each-weaker (CameBy chains ways) (CameBy chains (way ∷ ways))
            (λ past by. (suc by.0, by.1, by.2, by.3, by.4)) rest.pasts rest.of,
      );
      many = omega (arith, same);
    }

pub crowded : (chains : List Chain) (old : Ways) (way : ℕ) (step : Step) (came : List ℕ) → IsSearch chains step.position old
    → MayKeep chains old way step came → WAY_LIMIT ≤ length old.ways.items → IsCrowded chains
crowded chains old way step came search may full =
    let kept = search.kept way may.from may.at
    in let inside = inside-may chains (slice_index may.from.came.items step.chain) step may.may
    in let count = kept.count
    in let all = crowd chains step.position old.trail.items old.ways.items search.kept search.apart
    in let same = all.many
    in record {
      position = step.position;
      ways = (step ∷ kept.past) ∷ all.pasts;
      each = (
        way-more chains step kept.past may.from.came.items kept.is-way count inside kept.came may.may
            (apart-same chains (slice_index came) (slice_index (after may.from.came.items step))
            (λ i. ap (λ c. slice_index c i) may.leads) may.apart),
        all.each,
      );
      apart = (
        each-weaker (CameBy chains old.ways.items) (Differ (step ∷ kept.past))
            (λ past by. differ-by (after may.from.came.items step) by.1.came.items (step ∷ kept.past) past
            (length-set may.from.came.items step.chain (step.change + 1) ∙ count ∙ sym by.4)
            (after-is may.from.came.items step kept.past (omega (arith, inside, count)) kept.came) by.3
            (λ is. may.new (by.0, by.1, by.2, sym is ∙ sym may.leads))) all.pasts all.of,
        all.apart,
      );
      many = omega (arith, full, same);
    }
