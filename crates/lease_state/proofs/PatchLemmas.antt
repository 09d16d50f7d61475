-- The law of patches: what is put on a second time changes nothing.
use Rattle.std.proofs.Common.{◌≡◌, ◌≤◌, ℕ, ◌+◌, max, ◌∙◌, refl, arith, sym, ap, List, [], ◌∷◌, ◌++◌, length, ◌⊎◌, inl, inr}
use Rattle.std.proofs.lemmas.Bool.{cases_lt}
use Rattle.std.proofs.lemmas.Grind.{same_number_lists}
use Rattle.std.proofs.Math.ListN.{get_or}
use Rattle.lease_state.specs.Content.{byte_at, patch_at, patch, patches, end_of}
use Rattle.lease_state.specs.declared.patch.Patch.{Patch}
use Rattle.lease_state.proofs.ContentLemmas.{byte_at_within, byte_at_before, byte_at_behind, length-written, get_or-written}

-- ---- one patch, by places
pub get_or-patch_at : (x : List ℕ) (o : ℕ) (d : List ℕ) (k : ℕ) → get_or (patch_at x o d) k 0 ≡ byte_at x o d k
get_or-patch_at x o [] k = elim (cases_lt k o) [
  | inl before ↦ sym (byte_at_before x o [] k before)
  | inr from ↦ sym (byte_at_behind x o [] k (omega (arith, from)))
]
get_or-patch_at x o (b ∷ d) k = get_or-written x o (b ∷ d) k

-- how far bytes at an offset reach: no bytes reach nowhere
abbrev pub reach : ℕ → List ℕ → ℕ
reach o [] = 0
reach o (b ∷ d) = o + length (b ∷ d)

-- they reach no further than their end
reach_le_end : (o : ℕ) (d : List ℕ) → reach o d ≤ o + length d
reach_le_end o [] = omega arith
reach_le_end o (b ∷ d) = omega arith

pub length-patch_at : (x : List ℕ) (o : ℕ) (d : List ℕ) → length (patch_at x o d) ≡ max (length x) (reach o d)
length-patch_at x o [] = omega arith
length-patch_at x o (b ∷ d) = length-written x o (b ∷ d)

-- a patch that ends within a limit leaves a content within it
pub length-patch-le : (x : List ℕ) (p : Patch) (limit : ℕ) → length x ≤ limit → end_of p ≤ limit → length (patch x p) ≤ limit
length-patch-le x p limit held fits = omega (arith, held, fits, length-patch_at x p.offset p.bytes, reach_le_end p.offset p.bytes)

-- ---- many patches, by places
abbrev pub reach_of_all : List Patch → ℕ
reach_of_all [] = 0
reach_of_all (p ∷ ps) = max (reach p.offset p.bytes) (reach_of_all ps)

pub length-patches : (x : List ℕ) (ps : List Patch) → length (patches x ps) ≡ max (length x) (reach_of_all ps)
length-patches x [] = omega arith
length-patches x (p ∷ ps) = omega (arith, length-patches (patch x p) ps, length-patch_at x p.offset p.bytes)

-- patches keep the byte at a place
abbrev Keeps : List Patch → ℕ → Type 0
Keeps ps k = (x : List ℕ) → get_or (patches x ps) k 0 ≡ get_or x k 0

-- patches settle the byte at a place, whatever stood there
abbrev Settles : List Patch → ℕ → Type 0
Settles ps k = (x y : List ℕ) → get_or (patches x ps) k 0 ≡ get_or (patches y ps) k 0

-- one patch does one or the other at each place
keeps_or_settles-one : (p : Patch) (k : ℕ) → ((x : List ℕ) → get_or (patch x p) k 0 ≡ get_or x k 0)
    ⊎ ((x y : List ℕ) → get_or (patch x p) k 0 ≡ get_or (patch y p) k 0)
keeps_or_settles-one p k = elim (cases_lt k p.offset) [
  | inl before ↦ inl (λ x. get_or-patch_at x p.offset p.bytes k ∙ byte_at_before x p.offset p.bytes k before)
  | inr from ↦ elim (cases_lt k (p.offset + length p.bytes)) [
    | inl below ↦ inr (λ x y.
        get_or-patch_at x p.offset p.bytes k ∙ byte_at_within x p.offset p.bytes k from below
        ∙ sym (get_or-patch_at y p.offset p.bytes k ∙ byte_at_within y p.offset p.bytes k from below))
    | inr behind ↦ inl (λ x. get_or-patch_at x p.offset p.bytes k ∙ byte_at_behind x p.offset p.bytes k behind)
  ]
]

-- and so do many
keeps_or_settles : (ps : List Patch) (k : ℕ) → Keeps ps k ⊎ Settles ps k
keeps_or_settles [] k = inl (λ x. refl)
keeps_or_settles (p ∷ ps) k = elim (keeps_or_settles ps k) [
  | inr settles ↦ inr (λ x y. settles (patch x p) (patch y p))
  | inl keeps ↦ elim (keeps_or_settles-one p k) [
    | inl one ↦ inl (λ x. keeps (patch x p) ∙ one x)
    | inr one ↦ inr (λ x y. keeps (patch x p) ∙ one x y ∙ sym (keeps (patch y p)))
  ]
]

-- ---- the law
-- patches that were put on change nothing when they are put on again
pub patches-again : (x : List ℕ) (ps : List Patch) → patches (patches x ps) ps ≡ patches x ps
patches-again x ps = same_number_lists (patches (patches x ps) ps) (patches x ps)
    (omega (arith, length-patches (patches x ps) ps, length-patches x ps))
    (λ k within. elim (keeps_or_settles ps k) [ inl keeps ↦ keeps (patches x ps) | inr settles ↦ settles (patches x ps) x ])

pub patches-append : (x : List ℕ) (ps qs : List Patch) → patches x (ps ++ qs) ≡ patches (patches x ps) qs
patches-append x [] qs = refl
patches-append x (p ∷ ps) qs = patches-append (patch x p) ps qs

pub patches-first_again : (x : List ℕ) (ps qs : List Patch) → patches (patches x ps) (ps ++ qs) ≡ patches x (ps ++ qs)
patches-first_again x ps qs =
    patches-append (patches x ps) ps qs ∙ ap (λ y. patches y qs) (patches-again x ps) ∙ sym (patches-append x ps qs)

pub patches-one_again : (x : List ℕ) (p : Patch) (qs : List Patch) → patches (patch x p) (p ∷ qs) ≡ patches x (p ∷ qs)
patches-one_again x p qs = patches-first_again x (p ∷ []) qs
