-- The content of a file at a place, and what is kept of it.
use Rattle.lease_laws.proofs.Words.{◌&&◌, ◌++◌, ◌+◌, ◌<◌, ◌==◌, ◌∙◌, ◌∷◌, ◌≡◌, ◌≤◌, Bool, Fact, List, Patch, ℕ, [], ap, arith}
use Rattle.lease_laws.proofs.Words.{changes_of, false, if◌then◌else◌, is_settled, length, map-append, nat_lt, not, refl, suc, sym}
use Rattle.lease_laws.proofs.Words.{true, unsettled}
use Rattle.lease_world.specs.judge.Before.{before, patches_of, patches_waiting}
use Rattle.lease_world.specs.judge.Seen.{Change, Waiting}
use Rattle.lease_world.specs.judge.Told.{placed_changes, pending, place_of}

-- ---- the same changes, with and without their places

with_one : (b : Bool) (xs : List Change) (change : Change)
    → patches_of (if b then xs ++ change ∷ [] else xs) ≡ (if b then patches_of xs ++ change.patch ∷ [] else patches_of xs)
with_one true xs change = map-append (λ (c : Change). c.patch) xs (change ∷ [])
with_one false xs change = refl

pub changes-told : (file : ℕ) (past : List Fact) → changes_of file past ≡ patches_of (placed_changes file past)
unfolding changes_of placed_changes
changes-told file [] = refl
changes-told file (Fact.Changed other client number patch ∷ past) =
    ap (λ (xs : List Patch). if other == file then xs ++ patch ∷ [] else xs) (changes-told file past)
    ∙ sym (with_one (other == file) (placed_changes file past) (record { place = length past + 1; patch = patch }))
changes-told file (_ ∷ past) = changes-told file past

one_waiting : (b : Bool) (xs : List Waiting) (write : Waiting) → patches_waiting (if b then xs ++ write ∷ [] else xs)
    ≡ (if b then patches_waiting xs ++ write.patch ∷ [] else patches_waiting xs)
one_waiting true xs write = map-append (λ (w : Waiting). w.patch) xs (write ∷ [])
one_waiting false xs write = refl

pub unsettled-told : (client file : ℕ) (whole past : List Fact)
    → unsettled client file whole past ≡ patches_waiting (pending client file whole past)
unfolding unsettled pending
unsettled-told client file whole [] = refl
unsettled-told client file whole (Fact.Wrote writer other number patch buffered ∷ past) =
    ap (λ (xs : List Patch). if writer == client && other == file && not (is_settled client number whole)
    then xs ++ patch ∷ [] else xs) (unsettled-told client file whole past)
    ∙ sym (one_waiting (writer == client && other == file && not (is_settled client number whole))
    (pending client file whole past) (record { number = number; patch = patch }))
unsettled-told client file whole (_ ∷ past) = unsettled-told client file whole past

-- ---- the changes before a place

abbrev AllBelow : ℕ → List Change → Type 0
AllBelow place [] = Unit {0}
AllBelow place (change ∷ changes) = (change.place < place) × AllBelow place changes

below-more : (place higher : ℕ) (changes : List Change) → place ≤ higher → AllBelow place changes → AllBelow higher changes
below-more place higher [] le b = tt
below-more place higher (change ∷ changes) le b = (omega (arith, b.0, le), below-more place higher changes le b.1)

below-push : (place : ℕ) (changes : List Change) (change : Change) → change.place < place → AllBelow place changes
    → AllBelow place (changes ++ change ∷ [])
below-push place [] change lt b = (lt, tt)
below-push place (x ∷ changes) change lt b = (b.0, below-push place changes change lt b.1)

below-if : (b : Bool) (n : ℕ) (changes : List Change) (patch : Patch) → AllBelow (n + 1) changes
    → AllBelow (suc n + 1) (if b then changes ++ record { place = n + 1; patch = patch } ∷ [] else changes)
below-if true n changes patch all = below-push (suc n + 1) changes (record { place = n + 1; patch = patch }) (omega arith)
    (below-more (n + 1) (suc n + 1) changes (omega arith) all)
below-if false n changes patch all = below-more (n + 1) (suc n + 1) changes (omega arith) all

placed-below : (file : ℕ) (past : List Fact) → AllBelow (place_of past) (placed_changes file past)
unfolding placed_changes
placed-below file [] = tt
placed-below file (Fact.Changed other client number patch ∷ past) =
    below-if (other == file) (length past) (placed_changes file past) patch (placed-below file past)
placed-below file (_ ∷ past) = below-more (length past + 1) (suc (length past) + 1) (placed_changes file past) (omega arith)
    (placed-below file past)

ge-so : (a b : ℕ) → b ≤ a → nat_lt a b ≡ false
ge-so a b h = grind arith

before-all : (place : ℕ) (changes : List Change) → AllBelow place changes → before place changes ≡ changes
before-all place [] b = refl
before-all place (change ∷ changes) b = let later = before-all place changes b.1 in grind arith

pub before-push : (place : ℕ) (changes : List Change) (change : Change) → place ≤ change.place
    → before place (changes ++ change ∷ []) ≡ before place changes
before-push place [] change le = rw (ge-so change.place place le) refl
before-push place (x ∷ changes) change le = rw (before-push place changes change le) refl

before-if : (b : Bool) (place : ℕ) (changes : List Change) (change : Change) → place ≤ change.place
    → before place (if b then changes ++ change ∷ [] else changes) ≡ before place changes
before-if true place changes change le = before-push place changes change le
before-if false place changes change le = refl

later-length : (newer past : List Fact) → length past ≤ length (newer ++ past)
later-length [] past = omega arith
later-length (x ∷ newer) past = let le = later-length newer past in omega (arith, le)

-- those of a file before a place are its changes in the past before it
pub before-told : (file : ℕ) (newer past : List Fact)
    → before (place_of past) (placed_changes file (newer ++ past)) ≡ placed_changes file past
unfolding placed_changes
before-told file [] past = before-all (place_of past) (placed_changes file past) (placed-below file past)
before-told file (Fact.Changed other client number patch ∷ newer) past =
    let le = later-length newer past in
    before-if (other == file) (place_of past) (placed_changes file (newer ++ past))
    (record { place = length (newer ++ past) + 1; patch = patch }) (omega (arith, le)) ∙ before-told file newer past
before-told file (_ ∷ newer) past = before-told file newer past
