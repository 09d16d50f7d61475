-- Marks of a file, over its changes.
use Rattle.lease_laws.proofs.Words.{◌++◌, ◌+◌, ◌<◌, ◌∙◌, ◌∷◌, ◌≡◌, ◌≤◌, Bool, List, Patch, ℕ, [], ap, arith, if◌then◌else◌}
use Rattle.lease_laws.proofs.Words.{length, map-append, nat_lt, patches, refl, suc, sym, take, true, zero}
use Rattle.std.specs.Prelude.{All, get_or, max}
use Rattle.std.proofs.lemmas.List.{length-append, take_more, take-append-le}
use Rattle.std.proofs.lemmas.List.Elements.{All-head, All-more, All-nil, All-tail, All-weaker}
use Rattle.lease_state.proofs.PatchLemmas.{patches-append}
use Rattle.lease_world.specs.judge.Before.{before, patches_of}
use Rattle.lease_world.specs.judge.Marks.{Mark, IsMark, IsEarlier, marked_with}
use Rattle.lease_world.specs.judge.Seen.{Change}

-- ---- one change more onto a mark

later_max : (place until more : ℕ) → place ≤ until → place ≤ max until more
later_max place until more le = omega (arith, le)

pub mark_more : (first : List ℕ) (changes : List Change) (mark : Mark) (change : Change)
    → mark.snapshot.applied < length changes → change ≡ get_or changes mark.snapshot.applied change
    → IsMark first changes mark → IsMark first changes (marked_with change mark)
mark_more first changes mark change lt e is =
    let k : ℕ = mark.snapshot.applied in
    let more : take (k + 1) changes ≡ take k changes ++ change ∷ [] =
    take_more changes k change lt ∙ ap (λ (c : Change). take k changes ++ c ∷ []) (sym e) in
    record {
      after = ap (λ (bytes : List ℕ). patches bytes (change.patch ∷ [])) is.after
          ∙ (sym (patches-append first (patches_of (take k changes)) (change.patch ∷ []))
          ∙ ap (λ (ps : List Patch). patches first ps) (sym (ap (λ (cs : List Change). patches_of cs) more
          ∙ map-append (λ (c : Change). c.patch) (take k changes) (change ∷ []))));
      inside = omega (arith, lt);
      until = All-more (λ c. c.place ≤ max mark.until change.place) changes k change lt
          (All-weaker (λ c. c.place ≤ mark.until) (λ c. c.place ≤ max mark.until change.place)
          (λ c le. later_max c.place mark.until change.place le) (take k changes) is.until)
          (last_inside e);
    }
  where
    last_inside : change ≡ get_or changes mark.snapshot.applied change
        → (get_or changes mark.snapshot.applied change).place ≤ max mark.until change.place
    last_inside same = let p = ap (λ (c : Change). c.place) (sym same) in omega (arith, p)

-- ---- one change more of the file

pub mark_longer : (first : List ℕ) (changes : List Change) (change : Change) (mark : Mark) → IsMark first changes mark
    → IsMark first (changes ++ change ∷ []) mark
mark_longer first changes change mark is =
    let same : take mark.snapshot.applied (changes ++ change ∷ []) ≡ take mark.snapshot.applied changes =
    take-append-le mark.snapshot.applied changes (change ∷ []) is.inside in
    record {
      after = is.after ∙ ap (λ (cs : List Change). patches first (patches_of cs)) (sym same);
      inside = longer changes is.inside;
      until = rw same is.until;
    }
  where
    longer : (cs : List Change) → mark.snapshot.applied ≤ length cs → mark.snapshot.applied ≤ length (cs ++ change ∷ [])
    longer cs le = grind (arith, length-append)

-- ---- a place after it

so_before : (place until later : ℕ) → place ≤ until → until < later → nat_lt place later ≡ true
so_before place until later le lt = grind arith

one_before : (b : Bool) (k : ℕ) (change : Change) (rest : List Change) → b ≡ true → k ≤ length rest
    → suc k ≤ length (if b then change ∷ rest else [])
one_before b k change rest e le = grind arith

all_before : (later until k : ℕ) (changes : List Change) → until < later → k ≤ length changes
    → All (λ change. change.place ≤ until) (take k changes) → k ≤ length (before later changes)
all_before later until zero changes lt inside all = omega arith
all_before later until (suc k) [] lt inside all = absurd (omega (arith, inside))
all_before later until (suc k) (change ∷ changes) lt inside all =
    one_before (nat_lt change.place later) k change (before later changes)
    (so_before change.place until later (All-head (λ c. c.place ≤ until) change (take k changes) all) lt)
    (all_before later until k changes lt (omega (arith, inside)) (All-tail (λ c. c.place ≤ until) change (take k changes) all))

pub mark_before : (first : List ℕ) (changes : List Change) (place : ℕ) (mark : Mark) → mark.until < place
    → IsMark first changes mark → IsEarlier first changes place mark.snapshot
mark_before first changes place mark lt is =
    (is.after, all_before place mark.until mark.snapshot.applied changes lt is.inside is.until)

-- ---- no change yet

pub mark_first : (first : List ℕ) (changes : List Change)
    → IsMark first changes (record { snapshot = record { bytes = first; applied = 0 }; until = 0 })
mark_first first changes = record { after = refl; inside = omega arith; until = All-nil (λ c. c.place ≤ 0) }
