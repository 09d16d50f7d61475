-- A file as it stood, brought up to a place.
use Rattle.lease_laws.proofs.Words.{◌++◌, ◌+◌, ◌∙◌, ◌∷◌, ◌≡◌, ◌≤◌, Bool, List, None, Option, Patch, Some, ℕ, [], ap, arith}
use Rattle.lease_laws.proofs.Words.{cases_Bool, drop, false, if◌then◌else◌, inl, inr, is_some, length, map-append, nat_lt}
use Rattle.lease_laws.proofs.Words.{patches, refl, suc, sym, take, true, unwrap_or, zero}
use Rattle.lease_state.proofs.PatchLemmas.{patches-append}
use Rattle.lease_world.specs.judge.Before.{before, patches_of}
use Rattle.lease_world.specs.judge.Caches.{moved, first_of, IsBasedAt}
use Rattle.lease_world.specs.judge.Knows.{IsBase}
use Rattle.lease_world.specs.judge.Marks.{IsNearer}
use Rattle.lease_world.specs.judge.Seen.{Change, Snapshot, SeenFile}

-- ---- changes before places

still_below : (place taken later : ℕ) → nat_lt place taken ≡ true → taken ≤ later → nat_lt place later ≡ true
still_below place taken later h le = grind arith

abbrev Advances : ℕ → ℕ → List Change → Type 0
Advances later k changes = (take k changes ++ before later (drop k changes) ≡ before later changes)
    × (k + length (before later (drop k changes)) ≡ length (before later changes))

advance-more : (later k : ℕ) (change : Change) (changes : List Change) → nat_lt change.place later ≡ true
    → Advances later k changes → Advances later (suc k) (change ∷ changes)
advance-more later k change changes h a = grind arith

nothing_before : (b : Bool) (k : ℕ) (change : Change) (changes : List Change) → b ≡ false
    → suc k ≤ length (if b then change ∷ changes else []) → ⊥
nothing_before b k change changes e le = grind arith

all_before : (b : Bool) (k : ℕ) (change : Change) (changes : List Change) → b ≡ true
    → suc k ≤ length (if b then change ∷ changes else []) → k ≤ length changes
all_before b k change changes e le = grind arith

advances : (taken later k : ℕ) (changes : List Change) → taken ≤ later → k ≤ length (before taken changes)
    → Advances later k changes
advances taken later zero changes le inside = (refl, omega arith)
advances taken later (suc k) [] le inside = absurd (omega arith)
advances taken later (suc k) (change ∷ changes) le inside = elim (cases_Bool (nat_lt change.place taken)) [
  | inl h ↦ advance-more later k change changes (still_below change.place taken later h le)
      (advances taken later k changes le (all_before (nat_lt change.place taken) k change (before taken changes) h inside))
  | inr h ↦ absurd (nothing_before (nat_lt change.place taken) k change (before taken changes) h inside)
]

take-before : (place : ℕ) (changes : List Change) → take (length (before place changes)) changes ≡ before place changes
take-before place [] = refl
take-before place (change ∷ changes) = let later = take-before place changes in grind arith

-- ---- the file at the place

abbrev pub content_before : SeenFile → ℕ → List ℕ
content_before file place = patches (unwrap_or file.start []) (patches_of (before place file.changes))

moved-bytes : (file : SeenFile) (taken place : ℕ) (base : Snapshot) → taken ≤ place → IsBase file taken (Some base)
    → (moved file.changes place base).bytes ≡ content_before file place
moved-bytes file taken place base le is =
    let first : List Change = take base.applied file.changes in
    let rest : List Change = before place (drop base.applied file.changes) in
    ap (λ (bytes : List ℕ). patches bytes (patches_of rest)) is.1.0
    ∙ (sym (patches-append (unwrap_or file.start []) (patches_of first) (patches_of rest))
    ∙ (ap (λ (ps : List Patch). patches (unwrap_or file.start []) ps) (sym (map-append (λ (c : Change). c.patch) first rest))
    ∙ ap (λ (cs : List Change). patches (unwrap_or file.start []) (patches_of cs))
    (advances taken place base.applied file.changes le is.1.1).0))

pub moved-base : (file : SeenFile) (taken place : ℕ) (base : Snapshot) → taken ≤ place → IsBase file taken (Some base)
    → IsBase file place (Some (moved file.changes place base))
moved-base file taken place base le is =
    let counted : (moved file.changes place base).applied ≡ length (before place file.changes) =
    (advances taken place base.applied file.changes le is.1.1).1 in (
      is.0,
      (
        moved-bytes file taken place base le is ∙ ap (λ (cs : List Change). patches (unwrap_or file.start []) (patches_of cs))
            (sym (take-before place file.changes) ∙ ap (λ (n : ℕ). take n file.changes) (sym counted)),
        omega (arith, counted),
      ),
    )

-- ---- a base that is brought up

first_base : (file : SeenFile) (taken : ℕ) → is_some file.start ≡ true → IsBase file taken (Some (first_of file))
first_base file taken started = (started, (refl, omega arith))

first_known : (file : SeenFile) (taken : ℕ) (kept : Option Snapshot) → is_some file.start ≡ true → IsBase file taken kept
    → IsBase file taken (Some (unwrap_or kept (first_of file)))
first_known file taken (Some base) started is = is
first_known file taken None started is = first_base file taken started

nearer_known : (file : SeenFile) (place : ℕ) (base nearer : Snapshot) → is_some file.start ≡ true
    → IsBase file place (Some base) → IsNearer file place base nearer → IsBase file place (Some nearer)
nearer_known file place base nearer started is (inl e) = rw e is
nearer_known file place base nearer started is (inr earlier) = (started, earlier)

-- the file at the place
pub brought_bytes : (file : SeenFile) (place : ℕ) (kept : Option Snapshot) (base : Snapshot) → is_some file.start ≡ true
    → IsBase file place kept → IsBasedAt file place kept base → base.bytes ≡ content_before file place
brought_bytes file place kept base started is (nearer, near, e) = ap (λ (s : Snapshot). s.bytes) e
    ∙ moved-bytes file place place nearer (omega arith)
    (nearer_known file place (unwrap_or kept (first_of file)) nearer started (first_known file place kept started is) near)

pub brought_base : (file : SeenFile) (place : ℕ) (kept : Option Snapshot) (base : Snapshot) → is_some file.start ≡ true
    → IsBase file place kept → IsBasedAt file place kept base → IsBase file place (Some base)
brought_base file place kept base started is (nearer, near, e) =
    rw e (moved-base file place place nearer (omega arith)
    (nearer_known file place (unwrap_or kept (first_of file)) nearer started (first_known file place kept started is) near))
