-- Opens one after the other: 48 bytes each, so the first 48 are the first one's.
use Rattle.std.proofs.Common.{◌≡◌, ◌≢◌, ◌≤◌, ℕ, ◌*◌, ◌++◌, List, [], ◌∷◌, length, take, drop, map}
use Rattle.std.proofs.Common.{refl, sym, ◌∙◌, ap, arith}
use Rattle.std.proofs.lemmas.List.{take_at, drop_at, take-append-drop, length-append, nil_from_length, append-nil, append_assoc}
use Rattle.std.proofs.lemmas.List.Concat.{flat_map-append}
use Rattle.std.proofs.lemmas.List.Elements.{All-cons, All-head, All-tail, All-nil, All-weaker}
use Rattle.lease_manager.specs.declared.values.kept.KeptOpen.{KeptOpen}
use Rattle.kept_opens.specs.Entry.{Entry, entry_of, entry_bytes, HasKey, IsBorne, IsNamed}
use Rattle.kept_opens.specs.Kept.{entries_bytes, AllHaveKeys, AllBorne, AllNamed, HoldsEntries, HoldsNoEntries}
use Rattle.kept_opens.proofs.EntryLemmas.{length_entry, one_entry}

pub length_entries : (kept : List KeptOpen) → AllHaveKeys kept → length (entries_bytes kept) ≡ 48 * length kept
length_entries [] keys = refl
length_entries (one ∷ kept) keys =
    let both = length-append (entry_bytes (entry_of one)) (entries_bytes kept) in
    let first = length_entry (entry_of one) (All-head (λ x. HasKey (entry_of x)) one kept keys) in
    let others = length_entries kept (All-tail (λ x. HasKey (entry_of x)) one kept keys) in
    omega arith

-- what is borne has a key
pub have_keys : (kept : List KeptOpen) → AllBorne kept → AllHaveKeys kept
have_keys kept borne = All-weaker (λ x. IsBorne (entry_of x)) (λ x. HasKey (entry_of x)) (λ x is. is.key) kept borne

-- the first one's bytes, and those of the others
pub first_one : (one : KeptOpen) (kept : List KeptOpen) → AllHaveKeys (one ∷ kept) → (xs : List ℕ)
    → entries_bytes (one ∷ kept) ≡ xs → entry_bytes (entry_of one) ≡ take 48 xs
first_one one kept keys xs e =
    sym (take_at (entry_bytes (entry_of one)) (entries_bytes kept) 48
    (length_entry (entry_of one) (All-head (λ x. HasKey (entry_of x)) one kept keys)))
    ∙ ap (λ (ys : List ℕ). take 48 ys) e

pub others : (one : KeptOpen) (kept : List KeptOpen) → AllHaveKeys (one ∷ kept) → (xs : List ℕ)
    → entries_bytes (one ∷ kept) ≡ xs → entries_bytes kept ≡ drop 48 xs
others one kept keys xs e =
    sym (drop_at (entry_bytes (entry_of one)) (entries_bytes kept) 48
    (length_entry (entry_of one) (All-head (λ x. HasKey (entry_of x)) one kept keys)))
    ∙ ap (λ (ys : List ℕ). drop 48 ys) e

pub holds_nothing : (xs : List ℕ) → length xs ≡ 0 → HoldsEntries xs
holds_nothing xs none = (
  [],
  All-nil (λ x. IsBorne (entry_of x)),
  All-nil (λ x. IsNamed x),
  sym (nil_from_length xs none),
)

-- one more open before others
pub holds_more : (xs : List ℕ) (one : KeptOpen) → entry_bytes (entry_of one) ≡ take 48 xs → IsBorne (entry_of one) → IsNamed one
    → HoldsEntries (drop 48 xs) → HoldsEntries xs
holds_more xs one first borne named more = (
  one ∷ more.0,
  All-cons (λ x. IsBorne (entry_of x)) one more.0 borne more.1,
  All-cons (λ x. IsNamed x) one more.0 named more.2,
  rw (first, more.3) (take-append-drop 48 xs),
)

-- where the others are none's, all are none's
pub none_more : (xs : List ℕ) → 48 ≤ length xs → HoldsNoEntries (drop 48 xs) → HoldsNoEntries xs
none_more xs long none [] keys e = let size = ap (λ (ys : List ℕ). length ys) e in absurd (omega arith)
none_more xs long none (one ∷ kept) keys e =
    none kept (All-tail (λ x. HasKey (entry_of x)) one kept keys) (others one kept keys xs e)

-- where the first 48 are none's, all are none's
pub none_here : (xs : List ℕ) → 48 ≤ length xs → ((v : Entry) → HasKey v → entry_bytes v ≢ take 48 xs) → HoldsNoEntries xs
none_here xs long none [] keys e = let size = ap (λ (ys : List ℕ). length ys) e in absurd (omega arith)
none_here xs long none (one ∷ kept) keys e =
    none (entry_of one) (All-head (λ x. HasKey (entry_of x)) one kept keys) (first_one one kept keys xs e)

-- the others of opens
pub holds_others : (xs : List ℕ) → 48 ≤ length xs → HoldsEntries xs → HoldsEntries (drop 48 xs)
holds_others xs long (kept, borne, named, e) = go kept borne named e
  where
    go : (kept : List KeptOpen) → AllBorne kept → AllNamed kept → entries_bytes kept ≡ xs → HoldsEntries (drop 48 xs)
    go [] borne named e = let size = ap (λ (ys : List ℕ). length ys) e in absurd (omega arith)
    go (one ∷ kept) borne named e = (
      kept,
      All-tail (λ x. IsBorne (entry_of x)) one kept borne,
      All-tail (λ x. IsNamed x) one kept named,
      others one kept (have_keys (one ∷ kept) borne) xs e,
    )

-- one more open after others
pub laid_more : (opens : List KeptOpen) (one : KeptOpen) (rest bytes : List ℕ) → entries_bytes opens ++ rest ≡ bytes
    → entry_bytes (entry_of one) ≡ take 48 rest → entries_bytes (opens ++ one ∷ []) ++ drop 48 rest ≡ bytes
laid_more opens one rest bytes so_far first =
    ap (λ (xs : List ℕ). xs ++ drop 48 rest) (flat_map-append (λ x. entry_bytes (entry_of x)) opens (one ∷ [])
    ∙ ap (λ (xs : List ℕ). entries_bytes opens ++ xs) (append-nil (entry_bytes (entry_of one)) ∙ first))
    ∙ append_assoc (entries_bytes opens) (take 48 rest) (drop 48 rest)
    ∙ ap (λ (xs : List ℕ). entries_bytes opens ++ xs) (take-append-drop 48 rest) ∙ so_far

-- what opens have is not none's
pub not_none : (xs : List ℕ) → HoldsEntries xs → HoldsNoEntries xs → ⊥
not_none xs (kept, borne, named, e) none = none kept (have_keys kept borne) e

-- ---- lists that say the same

cons_same : (v w : Entry) (vs ws : List Entry) → v ≡ w → vs ≡ ws → v ∷ vs ≡ w ∷ ws
cons_same v w vs ws e es = rw (e, es) refl

pub same_entries : (kept other : List KeptOpen) → AllBorne kept → AllBorne other → entries_bytes kept ≡ entries_bytes other
    → map entry_of kept ≡ map entry_of other
same_entries [] [] borne others_borne e = refl
same_entries [] (one ∷ other) borne others_borne e =
    let size = ap (λ (ys : List ℕ). length ys) e in
    let long = length_entries (one ∷ other) (have_keys (one ∷ other) others_borne) in
    absurd (omega arith)
same_entries (one ∷ kept) [] borne others_borne e =
    let size = ap (λ (ys : List ℕ). length ys) e in
    let long = length_entries (one ∷ kept) (have_keys (one ∷ kept) borne) in
    absurd (omega arith)
same_entries (one ∷ kept) (first ∷ other) borne others_borne e =
    let keys = have_keys (one ∷ kept) borne in
    let other_keys = have_keys (first ∷ other) others_borne in
    let here = first_one one kept keys (entries_bytes (first ∷ other)) e
    ∙ sym (first_one first other other_keys (entries_bytes (first ∷ other)) refl) in
    let there = others one kept keys (entries_bytes (first ∷ other)) e
    ∙ sym (others first other other_keys (entries_bytes (first ∷ other)) refl) in
    cons_same _ _ _ _
    (one_entry (entry_of one) (entry_of first) (All-head (λ x. IsBorne (entry_of x)) one kept borne)
    (All-head (λ x. IsBorne (entry_of x)) first other others_borne) here)
    (same_entries kept other (All-tail (λ x. IsBorne (entry_of x)) one kept borne)
    (All-tail (λ x. IsBorne (entry_of x)) first other others_borne) there)
